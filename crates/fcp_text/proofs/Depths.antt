-- A pair is deeper than its rest.
use Rattle.std.proofs.Common.{◌≡◌, ◌<◌, ◌≤◌, rules, arith, ap}
use Rattle.fcp_model.specs.declared.term.Term.{Term, Cons, size-Term, the_lemmas}

pub size-tail : (h t : Term) → size-Term t < size-Term (Cons h t)
size-tail h t = search (rules, the_lemmas)

pub no_deeper : (rest head tail next list : Term) → rest ≡ Cons head tail → next ≡ tail → size-Term rest ≤ size-Term list
    → size-Term next ≤ size-Term list
no_deeper rest head tail next list e q h = omega (arith, size-tail head tail, ap size-Term e, ap size-Term q, h)
