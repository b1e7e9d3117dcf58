-- What is at hand, as unification sees it.
use Rattle.std.proofs.Common.{◌≡◌, ℕ, ◌<◌, ◌≤◌, List, [], ◌∷◌, ◌++◌, map, refl, sym, ap, ◌∙◌, subst, arith}
use Rattle.std.proofs.Common.{Option, Some, None}
use Rattle.std.specs.Prelude.{unwrap_or}
use Rattle.std.proofs.lemmas.Option.{same_Some}
use Rattle.fcp_model.specs.Places.{Variable}
use Rattle.fcp_model.specs.Terms.{Term, Bindings, find}
use Rattle.fcp_model.proofs.Finding.{found_or, find-append}
use Rattle.heap_words.specs.Trails.{word_at}
use Rattle.word_states.specs.Words.{Words, first_of}
use Rattle.word_states.specs.Denoting.{Addresses, Listed, Denotes}
use Rattle.word_states.specs.Standing.{PlaceSays}
use Rattle.word_states.specs.Pieces.{rows, with_own, with_variables}
use Rattle.word_states.proofs.Pieces.{in_rows}
use Rattle.unify_terms.specs.Denotes.{Stands}
use Rattle.unify_terms.specs.WordsOfTries.{memory_of, HasWords, naming, AreNamed, SayBound, UnificationSees, WordsSay}
use Rattle.unify_terms.proofs.NamesOfPlaces.{listed_place}
use Rattle.unify_terms.proofs.PlacesOfTries.{a_try_is_named}
use Rattle.unify_terms.proofs.TermsOfWords.{all_is_seen, all_is_said}
use Rattle.machine_code.specs.Machine.{Trying}
use Rattle.trial_laws.specs.AtHand.{AtHand, end_of, ArePieces, AreCalled, IsStore, StandsForTry}
use Rattle.trial_laws.proofs.Pieces.{starts_below}
use Rattle.trial_laws.proofs.FirstLaws.{names_once}

pub own_below : (ps : List (List ℕ)) → ArePieces ps → (a x : ℕ) → word_at (rows 4000000000 ps) a ≡ Some x → a < 0x100000000
own_below ps formed a x e =
    let q = in_rows 4000000000 a x ps e in
    let l = starts_below 4000000000 ps q.0 q.2 q.3 in
    let f : end_of 4000000000 ps ≤ 0x100000000 = formed.few in
    let d = q.4 in let c = q.5 in
    omega arith

module _ (w : Words) (vs : Addresses) (bound : Bindings) (r : AtHand) (t : Trying) (store : IsStore w vs bound)
    (formed : ArePieces r.pieces)
    (s : StandsForTry w vs bound r t) where
  abbrev U : Words
  U = with_own r.pieces w

  abbrev V : Addresses
  V = with_variables r.pieces vs

  has_words : HasWords (memory_of (with_own r.pieces w)) (with_own r.pieces w)
  has_words a x e = ap (λ (o : Option ℕ). unwrap_or o 12) e

  pub named : AreNamed (memory_of (with_own r.pieces w)) (with_variables r.pieces vs)
  named = a_try_is_named (memory_of U) w vs bound r.pieces store.says store.low formed.each (own_below r.pieces formed) has_words

  pub sees : UnificationSees (memory_of (with_own r.pieces w)) (with_own r.pieces w) (with_variables r.pieces vs)
  sees = all_is_seen (memory_of U) U V named has_words

  pub say : WordsSay (with_own r.pieces w) (with_variables r.pieces vs)
  say = all_is_said U V named

  -- what the try bound is bound in its state, and not in the store
  pub bound_here : (v : Variable) (a x : ℕ) → Listed (with_variables r.pieces vs) v a → word_at r.binds a ≡ Some x
      → (find bound v ≡ None) × ((u : Term Variable) × (find t.bound v ≡ Some u))
  bound_here v a x l e =
      let n = s.binds_named a x e in
      let same : n.0 ≡ v = (names_once w vs bound r.pieces store n.0 v a a n.2 l).1 refl in
      let f : find t.bound v ≡ Some n.1 = subst (λ (z : Variable). find t.bound z ≡ Some n.1) same n.3 in
      ((s.bound_named v n.1 f).0, (n.1, f))

  pub says_bound : SayBound (with_own r.pieces w) (with_variables r.pieces vs) r.binds (bound ++ t.bound)
  says_bound = record {
    privately = λ v a x l e. let b = bound_here v a x l e in
        let f : find (bound ++ t.bound) v ≡ Some b.1.0 =
        find-append bound t.bound v ∙ (ap (λ (o : Option (Term Variable)). found_or o (find t.bound v)) b.0 ∙ b.1.1) in
        let p = s.places v a l in
        let g : p.0 ≡ x = same_Some p.0 x (sym p.1 ∙ ap (λ (o : Option ℕ). first_of o (U a)) e) in (
          b.1.0,
          f,
          subst (λ (z : ℕ). Denotes U V z b.1.0) g (subst (λ (o : Option (Term Variable)). PlaceSays U V p.0 o) f p.2),
        );
    openly = λ v a l e. let p = s.places v a l in (p.0, sym (ap (λ (o : Option ℕ). first_of o (U a)) e) ∙ p.1, p.2);
  }

  pub stands : Stands (naming (with_variables r.pieces vs)) (memory_of (with_own r.pieces w)) r.binds (bound ++ t.bound)
  stands = sees.stands r.binds (bound ++ t.bound) says_bound

  -- the reads have the names that unification gives them
  pub called : (as' : List ℕ) (us : List Variable) → AreCalled (with_variables r.pieces vs) as' us
      → map (naming (with_variables r.pieces vs)).name as' ≡ us
  called [] [] h = refl
  called (a ∷ as') (u ∷ us) h =
      let p = listed_place (memory_of U) V named u a h.0 in
      ap (λ (z : Variable). z ∷ map (naming V).name as') p.1 ∙ ap (λ (z : List Variable). u ∷ z) (called as' us h.1)
  called [] (u ∷ us) h = absurd h
  called (a ∷ as') [] h = absurd h
