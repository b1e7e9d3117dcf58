-- The unification of a list of pairs.
use Rattle.std.specs.Prelude.{ℕ, zero, suc, List, [], ◌∷◌, ◌++◌, Option, Some, None}
use Rattle.fcp_model.specs.Places.{Variable}
use Rattle.fcp_model.specs.Terms.{Bindings}
use Rattle.fcp_model.specs.Pair.{Pair, Step, nothing, binds, clashes, waits, parts, Treated, pair}

-- how a unification ends, with the variables that it read unbound
pub data Ended : Type 0 where
  done : Bindings → List Variable → Ended
  clash : List Variable → Ended
  wait : List Variable → Ended

-- from the bindings and reads so far, the pairs that are left
abbrev pub Next : Type 0
Next = Bindings → List Variable → List Pair → Option Ended

-- behind one step: the pairs that are left, or the end
abbrev pub step_on : Next → Bindings → List Variable → List Pair → Step → Option Ended
step_on next bs rs ps nothing = next bs rs ps
step_on next bs rs ps (binds p t) = next (bs ++ (p, t) ∷ []) rs ps
step_on next bs rs ps (parts qs) = next bs rs (qs ++ ps)
step_on next bs rs ps clashes = Some (clash rs)
step_on next bs rs ps waits = Some (wait rs)

-- the same, with the reads of the pair behind those before
abbrev pub go_on : Next → Bindings → List Variable → List Pair → Option Treated → Option Ended
go_on next bs rs ps None = None
go_on next bs rs ps (Some t) = step_on next bs (rs ++ t.reads) ps t.step

-- the pairs from the left, depth first, over the map s and the bindings bs made so far; None where n steps are too few
abbrev pub unify : ℕ → Bindings → Next
unify zero s bs rs ps = None
unify (suc n) s bs rs [] = Some (done bs rs)
unify (suc n) s bs rs (ab ∷ ps) = go_on (unify n s) bs rs ps (pair n (s ++ bs) ab.0 ab.1)
