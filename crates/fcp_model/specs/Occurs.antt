-- Whether a variable occurs in a term: the occurs check.
use Rattle.std.specs.Prelude.{ℕ, zero, suc, Bool, true, false, List, [], ◌∷◌, ◌++◌, Option, Some, None}
use Rattle.fcp_model.specs.Places.{Variable, own, is_same}
use Rattle.fcp_model.specs.Terms.{Term, number, string, nil, cons, tuple, var, ro, first, Terms, none, more, Bindings, find}

-- a yes or a no, with the variables that were read unbound for it
pub data Found : Type 0 where
  hit : List Variable → Found
  miss : List Variable → Found

-- the second answer, after a first one that was no
abbrev pub then_found : List Variable → Option Found → Option Found
then_found rs None = None
then_found rs (Some (hit qs)) = Some (hit (rs ++ qs))
then_found rs (Some (miss qs)) = Some (miss (rs ++ qs))

-- the first answer where it is a hit, and else the second with the reads of both
abbrev pub or_else : Option Found → Option Found → Option Found
or_else None g = None
or_else (Some (hit rs)) g = Some (hit rs)
or_else (Some (miss rs)) g = then_found rs g

-- an answer with its reads
abbrev pub found : Bool → List Variable → Option Found
found true rs = Some (hit rs)
found false rs = Some (miss rs)

-- the leaves from the left, up to the first one of which `leaf` says yes
abbrev mutual
  pub walk : (Variable → Option Found) → Term Variable → Option Found
  walk leaf (number z) = Some (miss [])
  walk leaf (string s) = Some (miss [])
  walk leaf nil = Some (miss [])
  walk leaf (cons a b) = or_else (walk leaf a) (walk leaf b)
  walk leaf (tuple ts) = walks leaf ts
  walk leaf (var q) = leaf q
  walk leaf (ro q) = leaf q
  walk leaf (first k) = leaf (own k)

  pub walks : (Variable → Option Found) → Terms Variable → Option Found
  walks leaf none = Some (miss [])
  walks leaf (more t ts) = or_else (walk leaf t) (walks leaf ts)

-- a leaf that is unbound is p or not; behind a bound one its term is walked
abbrev pub behind_leaf : (Term Variable → Option Found) → Variable → Variable → Option (Term Variable) → Option Found
behind_leaf go p q None = found (is_same p q) (q ∷ [])
behind_leaf go p q (Some t) = go t

-- whether the variable q is p, or leads to a term in which p occurs; None where n steps are too few
abbrev pub leaf_is : ℕ → Bindings → Variable → Variable → Option Found
leaf_is zero s p q = None
leaf_is (suc n) s p q = behind_leaf (walk (leaf_is n s p)) p q (find s q)

-- whether p occurs in t when its parts are followed by value, or None where n steps are too few
abbrev pub occurs : ℕ → Bindings → Variable → Term Variable → Option Found
occurs n s p t = walk (leaf_is n s p) t
