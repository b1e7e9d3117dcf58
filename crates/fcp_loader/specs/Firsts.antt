-- Which of some faults is the first: by the number of its code, and then by its place.
use Rattle.std.specs.Prelude.{◌≡◌, ◌↔◌, ℕ, Bool, false, ◌&&◌, ◌||◌, nat_lt, nat_eq, List, [], All, Contains, Option, Some, None, if◌then◌else◌, fold}
use Rattle.fcp_model.specs.declared.fault.Fault.{Fault}
use Rattle.fcp_model.specs.Codes.{code_number}

-- the pair of m and x comes before that of n and y
abbrev pub comes_before : ℕ → ℕ → ℕ → ℕ → Bool
comes_before m x n y = nat_lt m n || (nat_eq m n && nat_lt x y)

-- a fault comes before another
abbrev pub is_before : Fault → Fault → Bool
is_before f g = comes_before (code_number f.code) f.at (code_number g.code) g.at

-- the earlier of two, where there are two
abbrev pub earlier : Option Fault → Option Fault → Option Fault
earlier None b = b
earlier (Some f) None = Some f
earlier (Some f) (Some g) = Some (if is_before g f then g else f)

-- the first of some faults, in whatever order they are listed
abbrev pub first_of : List Fault → Option Fault
first_of faults = fold (λ first fault. earlier first (Some fault)) None faults

-- the fault is one of them, and none of them comes before it
pub record IsFirst (faults : List Fault) (f : Fault) : Type 0 where
  pub one : Contains faults f
  pub least : All (λ g. is_before g f ≡ false) faults

-- the two lists have the same faults, in whatever order and however often
abbrev pub HaveSameFaults : List Fault → List Fault → Type 0
HaveSameFaults faults others = (f : Fault) → Contains faults f ↔ Contains others f

-- what `first_of` answers is the one first fault; it answers nothing only where there is no fault; the order of the list says nothing
pub record FirstIsLeast : Type 0 where
  pub some : (faults : List Fault) (f : Fault) → first_of faults ≡ Some f → IsFirst faults f
  pub none : (faults : List Fault) → first_of faults ≡ None → faults ≡ []
  pub only : (faults : List Fault) (f : Fault) → IsFirst faults f → first_of faults ≡ Some f
  pub same : (faults others : List Fault) → HaveSameFaults faults others → first_of faults ≡ first_of others
