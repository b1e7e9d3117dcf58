use Rattle.std.proofs.Common.{◌≡◌, List, [], ◌∷◌, ◌++◌, refl, ap}
use Rattle.fcp_model.specs.declared.term.Term.{Term}
use Rattle.fcp_model.specs.declared.term.Term.TheVariants.{Cons}
use Rattle.fcp_grammar.specs.Values.{listed}

pub listed_append : (xs ys : List Term) (t : Term) → listed (xs ++ ys) t ≡ listed xs (listed ys t)
listed_append [] ys t = refl
listed_append (x ∷ xs) ys t = ap (Cons x) (listed_append xs ys t)
