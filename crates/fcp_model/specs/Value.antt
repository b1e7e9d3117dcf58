-- The value of a term: what it is when its variables are followed.
use Rattle.std.specs.Prelude.{◌≡◌, ℕ, zero, suc, Bool, true, false, List, [], ◌∷◌, Option, Some, None}
use Rattle.fcp_model.specs.Places.{Variable, own}
use Rattle.fcp_model.specs.Terms.{Term, var, ro, first, Bindings, find}

-- a value: an unbound variable by a writable or a read-only occurrence, or a term that is no variable, whose parts keep their marks
pub data Look : Type 0 where
  writable : Variable → Look
  read_only : Variable → Look
  solid : Term Variable → Look

-- an unbound variable, read-only where a mark was met
abbrev pub open_place : Bool → Variable → Look
open_place true p = read_only p
open_place false p = writable p

-- one variable, of which `next` gives the values behind it; `only` says that a read-only mark was met on the way
abbrev pub through : (Bool → Variable → Option Look) → Bool → Variable → Option (Term Variable) → Option Look
through next only p None = Some (open_place only p)
through next only p (Some (var q)) = next only q
through next only p (Some (ro q)) = next true q
through next only p (Some (first k)) = next only (own k)
through next only p (Some t) = Some (solid t)

-- the value of an occurrence of p, or None where n steps are too few
abbrev pub value_of : ℕ → Bindings → Bool → Variable → Option Look
value_of zero s only p = None
value_of (suc n) s only p = through (value_of n s) only p (find s p)

-- the value of a term, or None where n steps are too few
abbrev pub value : ℕ → Bindings → Term Variable → Option Look
value n s (var p) = value_of n s false p
value n s (ro p) = value_of n s true p
value n s (first k) = value_of n s false (own k)
value n s t = Some (solid t)

-- the unbound variable that a value is
abbrev pub look_reads : Look → List Variable
look_reads (writable p) = p ∷ []
look_reads (read_only p) = p ∷ []
look_reads (solid t) = []

-- the value of a term, by some number of steps
abbrev pub Values : Bindings → Term Variable → Look → Type 0
Values s t l = (n : ℕ) × (value n s t ≡ Some l)
