-- First occurrences are fresh: along every way through code, the variable that `GetFirst` binds is above all that were put into its
-- slot, and above all in what was unified or bound before, so that a machine can bind it without a look and close no cycle.
use Rattle.std.specs.Prelude.{ℕ, zero, suc, max, ◌<◌, List, Option, Some, None, if◌then◌else◌, nat_eq, slice_get}
use Rattle.machine_code.specs.Instructions.{Op, Try, GetFirst, GetCons, GetTuple, PutVar, PutWord, PutCons, PutTuple, Unify, Jump, Test, Otherwise, Spawn, Commit}

-- For each slot, the greatest of the clause's variables that were put into it; 0 where there is none. What the goal's side has
-- brought into a slot may also hold variables that were released: those up to the greatest one that was unified or bound so far.
abbrev pub Tops : Type 0
Tops = ℕ → ℕ

-- nothing was put
abbrev pub no_tops : Tops
no_tops = λ i. 0

-- the tops with another one for slot i
abbrev pub topped : Tops → ℕ → ℕ → Tops
topped τ i k = λ j. if nat_eq j i then k else τ j

-- the same for so many slots from i on
abbrev pub all_topped : Tops → ℕ → ℕ → ℕ → Tops
all_topped τ i zero k = τ
all_topped τ i (suc n) k = all_topped (topped τ i k) (suc i) n k

-- the greatest top of so many slots from i on
abbrev pub top_of : Tops → ℕ → ℕ → ℕ
top_of τ i zero = 0
top_of τ i (suc n) = max (τ i) (top_of τ (suc i) n)

-- what is so at a position, by what is so of those that come next
abbrev pub Go : Type 1
Go = ℕ → Tops → ℕ → Type 0

-- What an instruction at a position asks, and with which tops the ways from it go on. A clause begins with nothing put and nothing
-- released; where it is left for the next one, nothing is said of tops. After a test that holds nothing is put any more.
abbrev pub FreshAt : Go → ℕ → Tops → ℕ → Option Op → Type 0
FreshAt go at τ r None = Unit {0}
FreshAt go at τ r (Some (Try k next)) = go (suc at) no_tops 0 × ((υ : Tops) (q : ℕ) → go next υ q)
FreshAt go at τ r (Some (GetFirst i k)) = (τ i < k) × (r < k) × go (suc at) τ k
FreshAt go at τ r (Some (GetCons i left right put)) = go (suc at) (topped (topped τ left (τ i)) right (τ i)) r × go put τ r
FreshAt go at τ r (Some (GetTuple i first parts put)) = go (suc at) (all_topped τ first parts (τ i)) r × go put τ r
FreshAt go at τ r (Some (PutVar i k ro)) = go (suc at) (topped τ i k) r
FreshAt go at τ r (Some (PutWord i t)) = go (suc at) (topped τ i 0) r
FreshAt go at τ r (Some (PutCons i left right)) = go (suc at) (topped τ i (max (τ left) (τ right))) r
FreshAt go at τ r (Some (PutTuple i first parts o)) = go (suc at) (topped τ i (top_of τ first parts)) r
FreshAt go at τ r (Some (Unify left right)) = go (suc at) τ (max r (max (τ left) (τ right)))
FreshAt go at τ r (Some (Jump to)) = go to τ r
FreshAt go at τ r (Some (Test k left right)) = go (suc at) no_tops r
FreshAt go at τ r (Some Otherwise) = go (suc at) τ r
FreshAt go at τ r (Some (Spawn p first parts)) = go (suc at) τ r
FreshAt go at τ r (Some Commit) = Unit {0}

-- first occurrences are fresh along all ways of so many steps from a position on
abbrev pub FreshFor : List Op → ℕ → Go
FreshFor code zero at τ r = Unit {0}
FreshFor code (suc n) at τ r = FreshAt (FreshFor code n) at τ r (slice_get code at)

-- and along all ways
abbrev pub IsFresh : List Op → Go
IsFresh code at τ r = (n : ℕ) → FreshFor code n at τ r
