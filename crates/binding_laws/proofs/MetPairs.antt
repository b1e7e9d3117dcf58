-- Pairs whose marks of first occurrences are new: each is above all of the clause's variables that were met before it.
use Rattle.std.proofs.Common.{◌≡◌, ℕ, ◌≤◌, Bool, true, false, cond, List, [], ◌∷◌, ◌++◌}
use Rattle.std.proofs.Common.{Option, Some, None, refl, subst, arith}
use Rattle.std.specs.Prelude.{nat_eq}
use Rattle.std.specs.Ordering.{int_eq}
use Rattle.fcp_model.specs.declared.run.Place.{Place}
use Rattle.fcp_model.specs.Places.{Variable}
use Rattle.fcp_model.specs.Terms.{Term, number, string, nil, cons, tuple, Terms, none, more}
use Rattle.fcp_model.specs.Pair.{Pair, both_parts, alike}
use Rattle.fcp_model.specs.ClosedPrograms.{Over, PartsOver}
use Rattle.binding_laws.proofs.MetTerms.{IsMet, met_in, mets_in, IsMarked, AreMarked, met_in_above, Met-above, Mets-above}

-- the greatest of the clause's variables met, once the pairs are treated
abbrev pub pairs_met : ℕ → List Pair → ℕ
pairs_met n [] = n
pairs_met n (ab ∷ ps) = pairs_met (met_in n ab.1) ps

-- where the clause's variables 1 to n were met: left sides are over variables that were met, and marks of right sides are new
abbrev pub ArePairsMarked : (Place → Type 0) → ℕ → List Pair → Type 0
ArePairsMarked K n [] = Unit {0}
ArePairsMarked K n (ab ∷ ps) = Over (IsMet K n) ab.0 × IsMarked K n ab.1 × ArePairsMarked K (met_in n ab.1) ps

pub pairs_met-append : (n : ℕ) (qs ps : List Pair) → pairs_met n (qs ++ ps) ≡ pairs_met (pairs_met n qs) ps
pairs_met-append n [] ps = refl
pairs_met-append n (ab ∷ qs) ps = pairs_met-append (met_in n ab.1) qs ps

pub pairs_met_above : (n : ℕ) (ps : List Pair) → n ≤ pairs_met n ps
pairs_met_above n [] = omega arith
pairs_met_above n (ab ∷ ps) = omega (arith, met_in_above n ab.1, pairs_met_above (met_in n ab.1) ps)

module _ (K : Place → Type 0) where
  pub marked-append : (n : ℕ) (qs ps : List Pair) → ArePairsMarked K n qs → ArePairsMarked K (pairs_met n qs) ps
      → ArePairsMarked K n (qs ++ ps)
  marked-append n [] ps f g = g
  marked-append n (ab ∷ qs) ps f g = (f.0, f.1, marked-append (met_in n ab.1) qs ps f.2 g)

  -- parts with new marks, where the variables 1 to n were met before them, and 1 to n' after them
  pub record ArePartsMarked (n n' : ℕ) (qs : List Pair) : Type 0 where
    pub marked : ArePairsMarked K n qs
    pub met : pairs_met n qs ≡ n'

  both_marked : (n : ℕ) (ts us : Terms Variable) (ps : List Pair) → PartsOver (IsMet K n) ts → AreMarked K n us
      → both_parts ts us ≡ Some ps → ArePartsMarked n (mets_in n us) ps
  both_marked n none none ps f g e = let same : [] ≡ ps = cc in subst (ArePartsMarked n n) same (record { marked = tt; met = refl })
  both_marked n none (more u us) ps f g e = cc
  both_marked n (more t ts) none ps f g e = cc
  both_marked n (more t ts) (more u us) ps f g e =
      go (λ qs h. both_marked (met_in n u) ts us qs (Mets-above K n _ (met_in_above n u) ts f.1) g.1 h) (both_parts ts us) refl e
    where
      go : ((qs : List Pair) → both_parts ts us ≡ Some qs → ArePartsMarked (met_in n u) (mets_in (met_in n u) us) qs)
          → (o : Option (List Pair)) → both_parts ts us ≡ o
          → elim o as (λ x. Option (List Pair)) [ None ↦ None | Some qs ↦ Some ((t, u) ∷ qs) ] ≡ Some ps
          → ArePartsMarked n (mets_in n (more u us)) ps
      go rec None h e = cc
      go rec (Some qs) h e =
          let same : (t, u) ∷ qs ≡ ps = cc in
          subst (ArePartsMarked n (mets_in n (more u us))) same (record { marked = (f.0, g.0, (rec qs h).marked); met = (rec qs h).met })

  no_parts : (n : ℕ) (c : Bool) (ps : List Pair) → cond c (Some []) None ≡ Some ps → ArePartsMarked n n ps
  no_parts n true ps e = let same : [] ≡ ps = cc in subst (ArePartsMarked n n) same (record { marked = tt; met = refl })
  no_parts n false ps e = cc

  -- the parts of two terms that are no variables
  pub alike_marked : (n : ℕ) (t u : Term Variable) (ps : List Pair) → Over (IsMet K n) t → IsMarked K n u → alike t u ≡ Some ps
      → ArePartsMarked n (met_in n u) ps
  alike_marked n (number y) (number z) ps f g e = no_parts n (int_eq y z) ps e
  alike_marked n (string y) (string z) ps f g e = no_parts n (nat_eq y z) ps e
  alike_marked n nil nil ps f g e = no_parts n true ps e
  alike_marked n (cons a b) (cons c d) ps f g e =
      let same : (a, c) ∷ (b, d) ∷ [] ≡ ps = cc in
      subst (ArePartsMarked n (met_in n (cons c d))) same
      (record { marked = (f.0, g.0, (Met-above K n _ (met_in_above n c) b f.1, g.1, tt)); met = refl })
  alike_marked n (tuple ts) (tuple us) ps f g e = both_marked n ts us ps f g e
  alike_marked n _ _ ps f g e = cc
