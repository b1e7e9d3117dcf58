-- The marks of a clause's head are new: each is above all of the clause's variables to its left.
use Rattle.std.proofs.Common.{◌≡◌, ℕ, ◌≤◌, max, Bool, true, false, cond, List, [], ◌∷◌, refl, sym, ap, ◌∙◌, subst, arith}
use Rattle.std.specs.Prelude.{nat_lt}
use Rattle.std.proofs.lemmas.Bool.Decides.{nat_tests}
use Rattle.fcp_model.specs.declared.run.Place.{Place}
use Rattle.fcp_model.specs.Places.{Variable, own}
use Rattle.fcp_model.specs.Terms.{Term, number, string, nil, cons, tuple, var, ro, first, Terms, none, more, rename, renames}
use Rattle.fcp_model.specs.Pair.{Pair}
use Rattle.fcp_model.specs.HeadPairs.{Marked, mark, marks, head_pairs}
use Rattle.fcp_model.specs.ClosedPrograms.{Over, PartsOver, AllOver, IsNumbered}
use Rattle.binding_laws.proofs.MetTerms.{IsMet, met_in, mets_in, IsMarked, AreMarked, Met-above}
use Rattle.binding_laws.proofs.MetPairs.{pairs_met, ArePairsMarked}

module _ (K : Place → Type 0) (vars : ℕ) where
  -- a term of a head whose marks are new, where the variables 1 to n were met before it
  record IsNew (n : ℕ) (m : Marked (Term ℕ)) : Type 0 where
    marked : IsMarked K n (rename own m.item)
    met : met_in n (rename own m.item) ≡ m.met
    within : m.met ≤ vars

  -- the same of the parts of a tuple
  record AreNew (n : ℕ) (m : Marked (Terms ℕ)) : Type 0 where
    marked : AreMarked K n (renames own m.item)
    met : mets_in n (renames own m.item) ≡ m.met
    within : m.met ≤ vars

  first_or_not : (n k : ℕ) → n ≤ vars → IsNumbered vars k → (c : Bool) → nat_lt n k ≡ c
      → IsNew n (record { item = cond c (first k) (var k); met = max n k })
  first_or_not n k h i true e = record { marked = grind (arith, nat_tests); met = refl; within = omega (arith, i.1) }
  first_or_not n k h i false e = record { marked = i.0; met = refl; within = omega (arith, i.1) }

  mutual
    mark_new : (n : ℕ) (t : Term ℕ) → n ≤ vars → Over (IsNumbered vars) t → IsNew n (mark n t)
    mark_new n (number z) h o = record { marked = tt; met = refl; within = h }
    mark_new n (string z) h o = record { marked = tt; met = refl; within = h }
    mark_new n nil h o = record { marked = tt; met = refl; within = h }
    mark_new n (cons a b) h o =
        let x = mark_new n a h o.0 in
        let y = mark_new (mark n a).met b x.within o.1 in
        record {
          marked = (x.marked, subst (λ i. IsMarked K i (rename own (mark (mark n a).met b).item)) (sym x.met) y.marked);
          met = ap (λ i. met_in i (rename own (mark (mark n a).met b).item)) x.met ∙ y.met;
          within = y.within;
        }
    mark_new n (tuple ts) h o = let x = marks_new n ts h o in record { marked = x.marked; met = x.met; within = x.within }
    mark_new n (var k) h o = first_or_not n k h o (nat_lt n k) refl
    mark_new n (ro k) h o = record { marked = o.0; met = refl; within = omega (arith, o.1) }
    mark_new n (first k) h o = absurd o

    marks_new : (n : ℕ) (ts : Terms ℕ) → n ≤ vars → PartsOver (IsNumbered vars) ts → AreNew n (marks n ts)
    marks_new n none h o = record { marked = tt; met = refl; within = h }
    marks_new n (more t ts) h o =
        let x = mark_new n t h o.0 in
        let y = marks_new (mark n t).met ts x.within o.1 in
        record {
          marked = (x.marked, subst (λ i. AreMarked K i (renames own (marks (mark n t).met ts).item)) (sym x.met) y.marked);
          met = ap (λ i. mets_in i (renames own (marks (mark n t).met ts).item)) x.met ∙ y.met;
          within = y.within;
        }

  -- pairs with new marks, which meet none but the clause's variables
  pub record AreHeadPairs (n : ℕ) (ps : List Pair) : Type 0 where
    pub marked : ArePairsMarked K n ps
    pub within : pairs_met n ps ≤ vars

  -- the pairs of arguments over places, and of a closed clause's head
  pub head_pairs_marked : (n : ℕ) (ts : List (Term Variable)) (us : List (Term ℕ)) → n ≤ vars → AllOver (IsMet K 0) ts
      → AllOver (IsNumbered vars) us → AreHeadPairs n (head_pairs n ts us)
  head_pairs_marked n [] us h f g = record { marked = tt; within = h }
  head_pairs_marked n (t ∷ ts) [] h f g = record { marked = tt; within = h }
  head_pairs_marked n (t ∷ ts) (u ∷ us) h f g =
      let x = mark_new n u h g.0 in
      let y = head_pairs_marked (mark n u).met ts us x.within f.1 g.1 in
      record {
        marked = (
          Met-above K 0 n (omega arith) t f.0,
          x.marked,
          subst (λ i. ArePairsMarked K i (head_pairs (mark n u).met ts us)) (sym x.met) y.marked,
        );
        within = subst (λ i. pairs_met i (head_pairs (mark n u).met ts us) ≤ vars) (sym x.met) y.within;
      }
