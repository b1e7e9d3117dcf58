-- What is bound stays bound to the same term: where more bindings come behind, and in a unification that is done.
use Rattle.std.proofs.Common.{◌≡◌, ℕ, zero, suc, List, [], ◌∷◌, ◌++◌, refl, sym, ap, ◌∙◌, subst, Option, Some, None}
use Rattle.fcp_model.specs.Places.{Variable}
use Rattle.fcp_model.specs.Terms.{Term, Bindings, find}
use Rattle.fcp_model.specs.Pair.{Pair, Step, nothing, binds, clashes, waits, parts, Treated, pair}
use Rattle.fcp_model.specs.Unification.{Ended, done, clash, wait, step_on, go_on, unify}
use Rattle.fcp_model.specs.Reads.{IsPart}
use Rattle.fcp_model.proofs.Finding.{found_or, find-append}

pub part_behind : (bs cs : Bindings) → IsPart bs (bs ++ cs)
part_behind bs cs v t e = find-append bs cs v ∙ ap (λ o. found_or o (find cs v)) e

pub unify_part : (n : ℕ) (s bs : Bindings) (rs : List Variable) (ps : List Pair) (us : Bindings) (qs : List Variable)
    → unify n s bs rs ps ≡ Some (done us qs) → IsPart bs us
unify_part zero s bs rs ps us qs e = cc
unify_part (suc n) s bs rs [] us qs e = let same : bs ≡ us = cc in subst (λ z. IsPart bs z) same (λ v t f. f)
unify_part (suc n) s bs rs (ab ∷ ps) us qs e = treat (pair n (s ++ bs) ab.0 ab.1) (λ cs rs' ps'. unify_part n s cs rs' ps' us qs) e
  where
    Goes : Type 0
    Goes = (cs : Bindings) (rs' : List Variable) (ps' : List Pair) → unify n s cs rs' ps' ≡ Some (done us qs) → IsPart cs us

    step : (st : Step) (rs' : List Variable) → Goes → step_on (unify n s) bs rs' ps st ≡ Some (done us qs) → IsPart bs us
    step nothing rs' go f = go bs rs' ps f
    step (binds p t) rs' go f =
        λ v u g. go (bs ++ (p, t) ∷ []) rs' ps f v u (part_behind bs ((p, t) ∷ []) v u g)
    step (parts xs) rs' go f = go bs rs' (xs ++ ps) f
    step clashes rs' go f = cc
    step waits rs' go f = cc

    treat : (o : Option Treated) → Goes → go_on (unify n s) bs rs ps o ≡ Some (done us qs) → IsPart bs us
    treat None go f = cc
    treat (Some t) go f = step t.step (rs ++ t.reads) go f
