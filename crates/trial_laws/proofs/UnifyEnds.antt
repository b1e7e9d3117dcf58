-- The unification of two slots on words is that of their terms.
use Rattle.std.proofs.Common.{◌≡◌, ℕ, true, List, [], ◌∷◌, ◌++◌, map, refl, sym, ap, ◌∙◌, subst, true≢false}
use Rattle.std.proofs.Common.{Option, Some, None}
use Rattle.std.specs.Prelude.{unwrap_or}
use Rattle.fcp_model.specs.Places.{Variable}
use Rattle.fcp_model.specs.Terms.{Term, Bindings, find}
use Rattle.fcp_model.specs.Pair.{Pair}
use Rattle.fcp_model.specs.Unification.{unify}
use Rattle.fcp_model.proofs.Finding.{found_or}
use Rattle.heap_words.specs.Cells.{decoded, is_final_in}
use Rattle.heap_words.specs.Trails.{Memory, word_at}
use Rattle.heap_words.specs.declared.cell.Cell.{Cell}
use Rattle.heap_words.specs.declared.cell.Cell.TheVariants as cell
use Rattle.ro_unify.specs.Value.{is_unbound, IsOpen}
use Rattle.ro_unify.specs.Occurs.{Each}
use Rattle.ro_unify.specs.Unify.{Ended}
use Rattle.ro_unify.proofs.Closing.{EndsIn}
use Rattle.ro_unify.proofs.Opened.{BindsOpen}
use Rattle.word_states.specs.Words.{Words}
use Rattle.word_states.specs.Denoting.{Addresses}
use Rattle.word_states.specs.Standing.{PlaceSays}
use Rattle.word_states.specs.Pieces.{with_own, with_variables}
use Rattle.word_states.proofs.Persisting.{denotes_final}
use Rattle.unify_terms.specs.Denotes.{Naming, DenotesPairs, UnifiesAs}
use Rattle.unify_terms.specs.WordsOfTries.{memory_of, naming}
use Rattle.unify_terms.proofs.NamesOfPlaces.{place_listed, listed_place}
use Rattle.unify_terms.proofs.UnifyInWords.{unify_so}
use Rattle.unify_terms.proofs.NamedInWords.{HasTerm, IsNamed, unified_named}
use Rattle.machine_code.specs.Slots.{as_term}
use Rattle.machine_code.specs.Machine.{Trying}
use Rattle.trial_laws.specs.AtHand.{AtHand, term_word, ArePieces, AreCalled, IsStore, StandsForTry}
use Rattle.trial_laws.specs.Unifying.{UnifiesSlots}
use Rattle.trial_laws.proofs.Slots.{term_says}
use Rattle.trial_laws.proofs.Seen.{named, sees, says_bound, stands, called}
use Rattle.heap_words.specs.declared.cell.Cell.TheVariants.{Unbound}
use Rattle.word_states.specs.Words.{At}
use Rattle.ro_unify.proofs.Opened.{bound_open}

pub none_bound : (o p : Option (Term Variable)) → found_or o p ≡ None → o ≡ None
none_bound None p e = refl
none_bound (Some u) p e = cc

-- a word with an unbound place's cell
unbound_cell : (o : Option Cell) → is_unbound o ≡ true → (e : ℕ) × (o ≡ Some (Unbound e))
unbound_cell (Some (Unbound e)) h = (e, refl)
unbound_cell (Some (cell.Ref a)) h = absurd (true≢false (sym h))
unbound_cell (Some (cell.RoRef a)) h = absurd (true≢false (sym h))
unbound_cell (Some (cell.Small z)) h = absurd (true≢false (sym h))
unbound_cell (Some (cell.Wide a k)) h = absurd (true≢false (sym h))
unbound_cell (Some (cell.Str s)) h = absurd (true≢false (sym h))
unbound_cell (Some cell.Nil) h = absurd (true≢false (sym h))
unbound_cell (Some (cell.Cons a)) h = absurd (true≢false (sym h))
unbound_cell (Some (cell.Tuple a)) h = absurd (true≢false (sym h))
unbound_cell (Some (cell.Status d)) h = absurd (true≢false (sym h))
unbound_cell (Some (cell.Raw n)) h = absurd (true≢false (sym h))
unbound_cell (Some (cell.Top a)) h = absurd (true≢false (sym h))
unbound_cell None h = absurd (true≢false (sym h))

module _ (w : Words) (vs : Addresses) (bound : Bindings) (r : AtHand) (t : Trying) (store : IsStore w vs bound)
    (formed : ArePieces r.pieces)
    (s : StandsForTry w vs bound r t) (i j : ℕ) (e : Ended) (unifies : UnifiesSlots r w i j e) where
  abbrev U : Words
  U = with_own r.pieces w

  abbrev V : Addresses
  V = with_variables r.pieces vs

  abbrev M : Memory
  M = memory_of (with_own r.pieces w)

  abbrev P : Naming
  P = naming (with_variables r.pieces vs)

  abbrev pairs : List Pair
  pairs = (as_term (t.slots i), as_term (t.slots j)) ∷ []

  denoted : DenotesPairs P M pairs ((term_word r i, term_word r j) ∷ [])
  denoted =
      let d = (sees w vs bound r t store formed s).denotes in (
        d (term_word r i) (as_term (t.slots i)) (term_says w vs bound r t i s),
        d (term_word r j) (as_term (t.slots j)) (term_says w vs bound r t j s),
        tt,
      )

  -- the definitions unify the terms so
  pub so : UnifiesAs (naming (with_variables r.pieces vs)) (memory_of (with_own r.pieces w)) r.binds bound t.bound r.reads
      ((as_term (t.slots i), as_term (t.slots j)) ∷ []) e
  so =
      unify_so P M (sees w vs bound r t store formed s).names bound r.binds r.reads ((term_word r i, term_word r j) ∷ []) e unifies t.bound
      pairs (stands w vs bound r t store formed s) denoted

  pub found : unify so.steps bound t.bound t.read ((as_term (t.slots i), as_term (t.slots j)) ∷ []) ≡ Some so.end
  found = subst (λ (rs : List Variable). unify so.steps bound t.bound rs pairs ≡ Some so.end)
      (called w vs bound r t store formed s r.reads t.read s.reads) so.by_steps

  place_here : (a x : ℕ) → word_at r.binds a ≡ Some x → P.is_place a ≡ true
  place_here a x f = let n = s.binds_named a x f in (listed_place M V (named w vs bound r t store formed s) n.0 a n.2).0

  reads_named : (as' : List ℕ) (us : List Variable) → AreCalled V as' us → Each (IsNamed P) as'
  reads_named [] [] h = tt
  reads_named (a ∷ as') (u ∷ us) h =
      ((listed_place M V (named w vs bound r t store formed s) u a h.0).0, reads_named as' us h.1)
  reads_named [] (u ∷ us) h = absurd h
  reads_named (a ∷ as') [] h = absurd h

  -- what it read and bound are places
  pub ends_named : EndsIn (HasTerm (naming (with_variables r.pieces vs)) (memory_of (with_own r.pieces w)))
      (IsNamed (naming (with_variables r.pieces vs))) e
  ends_named =
      unified_named P M (sees w vs bound r t store formed s).names r.binds (bound ++ t.bound) (stands w vs bound r t store formed s) r.reads
      pairs ((term_word r i, term_word r j) ∷ []) e place_here (reads_named r.reads t.read s.reads) denoted unifies

  pub ends_open : BindsOpen r.binds (memory_of (with_own r.pieces w)) e
  ends_open = bound_open M r.binds r.reads ((term_word r i, term_word r j) ∷ []) e unifies

  -- reads that are places are called by their names
  pub calls : (rs : List ℕ) → Each (IsNamed (naming (with_variables r.pieces vs))) rs
      → AreCalled (with_variables r.pieces vs) rs (map (naming (with_variables r.pieces vs)).name rs)
  calls [] h = tt
  calls (a ∷ rs) h = (place_listed V a h.0, calls rs h.1)

  -- a place that a unification bound was unbound in the store, and is not bound in the map
  pub opened_here : (a : ℕ) → P.is_place a ≡ true → IsOpen r.binds (memory_of (with_own r.pieces w)) a
      → (find (bound ++ t.bound) (P.name a) ≡ None) × ((k : ℕ) × At (with_own r.pieces w) a (Unbound k))
  opened_here a p o =
      let y = (says_bound w vs bound r t store formed s).openly (P.name a) a (place_listed V a p) o.0 in
      let c = unbound_cell (decoded (M a)) o.1 in
      let m : decoded y.0 ≡ Some (Unbound c.0) = sym (ap decoded (ap (λ (z : Option ℕ). unwrap_or z 12) y.1)) ∙ c.1 in
      (free (find (bound ++ t.bound) (P.name a)) y.0 y.2 m, (c.0, (y.0, y.1, m)))
    where
      free : (f : Option (Term Variable)) (y : ℕ) → PlaceSays U V y f → {k : ℕ} → decoded y ≡ Some (Unbound k) → f ≡ None
      free None y h m = refl
      free (Some u) y h m = absurd (true≢false (sym (denotes_final U V y u h) ∙ ap is_final_in m))
