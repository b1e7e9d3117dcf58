-- The laws of the unification of two slots.
use Rattle.std.proofs.Common.{◌≡◌, ℕ, suc, Bool, false, List, [], ◌∷◌, ◌++◌, map, refl, sym, ap, ◌∙◌, subst, ⊎_elim}
use Rattle.std.proofs.Common.{Option, Some, None}
use Rattle.std.specs.Prelude.{slice_get}
use Rattle.fcp_model.specs.Places.{Variable}
use Rattle.fcp_model.specs.Terms.{Term, Bindings, find}
use Rattle.fcp_model.specs.Reads.{IsPart}
use Rattle.fcp_model.specs.Unification.{unify}
use Rattle.fcp_model.specs.Unification as endings
use Rattle.fcp_model.proofs.Finding.{found_or, find-append}
use Rattle.fcp_model.proofs.MoreSteps.{unify_more}
use Rattle.heap_words.specs.Trails.{WordList, Memory, word_at}
use Rattle.ro_unify.specs.Value.{IsOpen}
use Rattle.ro_unify.specs.Occurs.{Each}
use Rattle.ro_unify.specs.Unify.{Ended, done, clash, stop}
use Rattle.ro_unify.proofs.Closing.{EndsIn}
use Rattle.word_states.specs.Words.{Words, first_of, over}
use Rattle.word_states.specs.Denoting.{Addresses, Listed}
use Rattle.word_states.specs.Standing.{PlaceSays}
use Rattle.word_states.specs.Pieces.{with_own, with_variables}
use Rattle.unify_terms.specs.Denotes.{Naming, BindsNamed, BindsInOrder, EndsAs, finished, clashed, paused, UnifiesAs, Stands}
use Rattle.unify_terms.specs.WordsOfTries.{memory_of, naming, SayBound}
use Rattle.unify_terms.proofs.NamesOfPlaces.{place_listed}
use Rattle.unify_terms.proofs.NamedInWords.{HasTerm, IsNamed}
use Rattle.machine_code.specs.Slots.{as_term}
use Rattle.machine_code.specs.Instructions.{Op, Unify}
use Rattle.machine_code.specs.Machine.{Trying, Meaning, unified, follow}
use Rattle.trial_laws.specs.AtHand.{AtHand, ArePieces, IsStore, StandsForTry, Gives, Leads}
use Rattle.trial_laws.specs.Laws.{AreArguments, AreNoted, left, after_leave}
use Rattle.trial_laws.specs.Unifying.{UnifiesSlots, LawOfUnify, LawOfClash, LawOfPause}
use Rattle.trial_laws.proofs.BoundMore.{unify_part}
use Rattle.trial_laws.proofs.Pieces.{goals_on}
use Rattle.trial_laws.proofs.Slots.{step_given}
use Rattle.trial_laws.proofs.TryLaws.{leaves}
use Rattle.trial_laws.proofs.PlacesInOrder.{still_in_order}
use Rattle.trial_laws.proofs.Seen.{say, bound_here}
use Rattle.heap_words.specs.declared.cell.Cell.TheVariants.{Unbound}
use Rattle.word_states.specs.Words.{At}
use Rattle.trial_laws.proofs.UnifyEnds.{none_bound, so, found, ends_named, ends_open, calls, opened_here}

-- done: what is at hand with the new bindings and reads
module _ (w : Words) (vs : Addresses) (bound : Bindings) (r : AtHand) (t : Trying) (store : IsStore w vs bound)
    (formed : ArePieces r.pieces)
    (s : StandsForTry w vs bound r t) (i j : ℕ) (bs : WordList) (rs : List ℕ) (unifies : UnifiesSlots r w i j (done bs rs)) (us : Bindings)
    (st : Stands (naming (with_variables r.pieces vs)) (memory_of (with_own r.pieces w)) bs (bound ++ us))
    (new : BindsNamed (naming (with_variables r.pieces vs)) (memory_of (with_own r.pieces w)) bound t.bound
    (endings.done us (map (naming (with_variables r.pieces vs)).name rs)))
    (in_order : BindsInOrder (naming (with_variables r.pieces vs)) (memory_of (with_own r.pieces w)) r.binds t.bound (done bs rs)
    (endings.done us (map (naming (with_variables r.pieces vs)).name rs))) (more : IsPart t.bound us) where
  abbrev U : Words
  U = with_own r.pieces w

  abbrev V : Addresses
  V = with_variables r.pieces vs

  abbrev M : Memory
  M = memory_of (with_own r.pieces w)

  abbrev P : Naming
  P = naming (with_variables r.pieces vs)

  ends : EndsIn (HasTerm P M) (IsNamed P) (done bs rs)
  ends = ends_named w vs bound r t store formed s i j (done bs rs) unifies

  says : SayBound U V bs (bound ++ us)
  says = (say w vs bound r t store formed s).says bs (bound ++ us) st

  -- a place that is bound now was unbound in the store
  was_open : (a x : ℕ) → word_at bs a ≡ Some x → (find bound (P.name a) ≡ None) × ((k : ℕ) × At U a (Unbound k))
  was_open a x f = ⊎_elim (λ g. before g) (λ o. fresh o) (ends_open w vs bound r t store formed s i j (done bs rs) unifies a x f)
    where
      listed : Listed V (P.name a) a
      listed = place_listed V a (ends.0 a x f).0

      before : word_at r.binds a ≡ Some x → (find bound (P.name a) ≡ None) × ((k : ℕ) × At U a (Unbound k))
      before g = ((bound_here w vs bound r t store formed s (P.name a) a x listed g).0, s.binds_open a x g)

      fresh : IsOpen r.binds M a → (find bound (P.name a) ≡ None) × ((k : ℕ) × At U a (Unbound k))
      fresh o =
          let h = opened_here w vs bound r t store formed s i j (done bs rs) unifies a (ends.0 a x f).0 o in
          (none_bound (find bound (P.name a)) (find t.bound (P.name a)) (sym (find-append bound t.bound (P.name a)) ∙ h.0), h.1)

  places : (v : Variable) (a : ℕ) → Listed V v a → (x : ℕ) × (over bs U a ≡ Some x) × PlaceSays U V x (find (bound ++ us) v)
  places v a l = go (word_at bs a) refl
    where
      go : (o : Option ℕ) → word_at bs a ≡ o → (x : ℕ) × (over bs U a ≡ Some x) × PlaceSays U V x (find (bound ++ us) v)
      go (Some x) f =
          let h = says.privately v a x l f in (
            x,
            ap (λ (o : Option ℕ). first_of o (U a)) f,
            subst (λ (o : Option (Term Variable)). PlaceSays U V x o) (sym h.1) h.2,
          )
      go None f = let h = says.openly v a l f in (h.0, ap (λ (o : Option ℕ). first_of o (U a)) f ∙ h.1, h.2)

  bound_new : (v : Variable) (u : Term Variable) → find us v ≡ Some u → (find bound v ≡ None) × ((a : ℕ) × Listed V v a)
  bound_new v u f =
      ⊎_elim (λ g. s.bound_named v u g)
      (λ g. (g.1, (g.0.0, subst (λ (z : Variable). Listed V z g.0.0) g.0.1.1 (place_listed V g.0.0 g.0.1.0))))
      (new v u f)

  binds_new : (a x : ℕ) → word_at bs a ≡ Some x → (v : Variable) × (u : Term Variable) × Listed V v a × (find us v ≡ Some u)
  binds_new a x f =
      let l = place_listed V a (ends.0 a x f).0 in
      let h = says.privately (P.name a) a x l f in
      let n = (was_open a x f).0 in (
        P.name a,
        h.0,
        l,
        sym (find-append bound us (P.name a) ∙ ap (λ (o : Option (Term Variable)). found_or o (find us (P.name a))) n) ∙ h.1,
      )

  pub unified_stands : StandsForTry w vs bound (record r { binds = bs; reads = rs })
      (record t { bound = us; read = map (naming (with_variables r.pieces vs)).name rs })
  unified_stands = record {
    clause = s.clause;
    next = s.next;
    behind = s.behind;
    slots = s.slots;
    operators = s.operators;
    places = places;
    binds_named = binds_new;
    binds_open = λ a x f. (was_open a x f).1;
    bound_named = bound_new;
    order = still_in_order w vs bound r.pieces store M r.binds bs t.bound us rs (map P.name rs) in_order s.order;
    reads = calls w vs bound r t store formed s i j (done bs rs) unifies rs ends.1;
    waits = s.waits;
    children = goals_on _ _ _ _ t.bound us (λ a x e f. e) (λ v a l. l) more _ t.children s.children;
  }

-- the definitions unify the terms of the slots to an end
module _ (w : Words) (vs : Addresses) (bound : Bindings) (ops : List Op) (args : List (Term Variable)) (at : ℕ) (r : AtHand) (t : Trying)
    (store : IsStore w vs bound) (formed : ArePieces r.pieces) (s : StandsForTry w vs bound r t) (i j : ℕ)
    (is : slice_get ops at ≡ Some (Unify i j)) (e : Ended) (unifies : UnifiesSlots r w i j e) where
  abbrev Known : Type 0
  Known = UnifiesAs (naming (with_variables r.pieces vs)) (memory_of (with_own r.pieces w)) r.binds bound t.bound r.reads
      ((as_term (t.slots i), as_term (t.slots j)) ∷ []) e

  abbrev known : Known
  known = so w vs bound r t store formed s i j e unifies

  -- what the code gives after that end
  gives_after : (at' : ℕ) (t' : Trying) (end : endings.Ended) → end ≡ known.end
      → ((n : ℕ) → unified (follow n bound ops args) args at t end ≡ follow n bound ops args at' t') → (d : Meaning)
      → Gives bound ops args at' t' d → Gives bound ops args at t d
  gives_after at' t' end f same d g =
      step_given bound ops args at at' t t' (Unify i j)
      (λ n. unify n bound t.bound t.read ((as_term (t.slots i), as_term (t.slots j)) ∷ []))
      (λ go x. unified go args at t x) known.end d is
      (λ n. unify_more bound n t.bound t.read ((as_term (t.slots i), as_term (t.slots j)) ∷ [])) (λ n. refl)
      (λ n. ap (λ (x : endings.Ended). unified (follow n bound ops args) args at t x) (sym f) ∙ same n)
      known.steps (found w vs bound r t store formed s i j e unifies) g

  -- a try that is left goes on at the next one
  leaves_to : (behind : Bool) (rs waits : List ℕ) (words : ℕ → ℕ) → Each (IsNamed (naming (with_variables r.pieces vs))) rs
      → AreNoted r.waits rs waits → AreArguments w vs args words → (behind' : Bool) → behind ≡ behind'
      → ((d : Meaning) → Gives bound ops args t.next (after_leave t args behind' (map (naming (with_variables r.pieces vs)).name rs)) d
      → Gives bound ops args at t d) → Leads w vs bound ops args at t r.next (left r behind waits words)
  leaves_to behind rs waits words each noted given behind' same gives = record {
    state = after_leave t args behind' (map (naming (with_variables r.pieces vs)).name rs);
    stands = subst
        (λ (b : Bool). StandsForTry w vs bound (left r behind waits words)
        (after_leave t args b (map (naming (with_variables r.pieces vs)).name rs)))
        same
        (leaves w vs bound ops args at r t store formed s behind rs (map (naming (with_variables r.pieces vs)).name rs) waits words
        (calls w vs bound r t store formed s i j e unifies rs each) noted given);
    gives = λ d g. gives d (subst
        (λ (a : ℕ). Gives bound ops args a (after_leave t args behind' (map (naming (with_variables r.pieces vs)).name rs)) d) s.next g);
  }

pub unify_leads : LawOfUnify
unify_leads w vs bound ops args at r t store formed s i j bs rs e unifies =
    let k = so w vs bound r t store formed s i j (done bs rs) unifies in go (done bs rs) k.end k.alike refl refl k.named k.order
  where
    go : (d : Ended) (end : endings.Ended) → EndsAs (naming (with_variables r.pieces vs)) (memory_of (with_own r.pieces w)) bound d end
        → d ≡ done bs rs → end ≡ (so w vs bound r t store formed s i j (done bs rs) unifies).end
        → BindsNamed (naming (with_variables r.pieces vs)) (memory_of (with_own r.pieces w)) bound t.bound end
        → BindsInOrder (naming (with_variables r.pieces vs)) (memory_of (with_own r.pieces w)) r.binds t.bound d end
        → Leads w vs bound ops args at t (suc at) (record r { binds = bs; reads = rs })
    go _ _ (finished bs' rs' us st) f g n o =
        let i' : bs' ≡ bs = cc in
        let j' : rs' ≡ rs = cc in
        let how = so w vs bound r t store formed s i j (done bs rs) unifies in
        let st' : Stands (naming (with_variables r.pieces vs)) (memory_of (with_own r.pieces w)) bs (bound ++ us) =
        subst (λ (z : WordList). Stands (naming (with_variables r.pieces vs)) (memory_of (with_own r.pieces w)) z (bound ++ us)) i' st in
        let n' : BindsNamed (naming (with_variables r.pieces vs)) (memory_of (with_own r.pieces w)) bound t.bound
        (endings.done us (map (naming (with_variables r.pieces vs)).name rs)) = n in
        let o' : BindsInOrder (naming (with_variables r.pieces vs)) (memory_of (with_own r.pieces w)) r.binds t.bound (done bs rs)
        (endings.done us (map (naming (with_variables r.pieces vs)).name rs)) =
        subst (λ (z : WordList). BindsInOrder (naming (with_variables r.pieces vs)) (memory_of (with_own r.pieces w)) r.binds t.bound
        (done z rs) (endings.done us (map (naming (with_variables r.pieces vs)).name rs))) i' o in
        record {
          state = record t { bound = us; read = map (naming (with_variables r.pieces vs)).name rs };
          stands = unified_stands w vs bound r t store formed s i j bs rs unifies us st' n' o'
              (unify_part how.steps bound t.bound _ _ us _ (how.by_steps ∙ ap Some (sym g)));
          gives = gives_after w vs bound ops args at r t store formed s i j e (done bs rs) unifies (suc at) _
              (endings.done us (map (naming (with_variables r.pieces vs)).name rs))
              (ap (λ (z : List ℕ). endings.done us (map (naming (with_variables r.pieces vs)).name z)) (sym j') ∙ g) (λ m. refl);
        }
    go _ _ (clashed rs') f g n o = cc
    go _ _ (paused rs') f g n o = cc

pub clash_leads : LawOfClash
clash_leads w vs bound ops args at r t store formed s i j rs waits words e unifies noted given =
    let k = so w vs bound r t store formed s i j (clash rs) unifies in go (clash rs) k.end k.alike refl refl
  where
    go : (d : Ended) (end : endings.Ended) → EndsAs (naming (with_variables r.pieces vs)) (memory_of (with_own r.pieces w)) bound d end
        → d ≡ clash rs → end ≡ (so w vs bound r t store formed s i j (clash rs) unifies).end
        → Leads w vs bound ops args at t r.next (left r r.behind waits words)
    go _ _ (finished bs' rs' us st) f g = cc
    go _ _ (clashed rs') f g =
        let j' : rs' ≡ rs = cc in
        leaves_to w vs bound ops args at r t store formed s i j e (clash rs) unifies r.behind rs waits words
        (ends_named w vs bound r t store formed s i j (clash rs) unifies) noted given t.behind s.behind
        (gives_after w vs bound ops args at r t store formed s i j e (clash rs) unifies t.next _
        (endings.clash (map (naming (with_variables r.pieces vs)).name rs))
        (ap (λ (z : List ℕ). endings.clash (map (naming (with_variables r.pieces vs)).name z)) (sym j') ∙ g) (λ m. refl))
    go _ _ (paused rs') f g = cc

pub pause_leads : LawOfPause
pause_leads w vs bound ops args at r t store formed s i j rs waits words e unifies noted given =
    let k = so w vs bound r t store formed s i j (stop rs) unifies in go (stop rs) k.end k.alike refl refl
  where
    go : (d : Ended) (end : endings.Ended) → EndsAs (naming (with_variables r.pieces vs)) (memory_of (with_own r.pieces w)) bound d end
        → d ≡ stop rs → end ≡ (so w vs bound r t store formed s i j (stop rs) unifies).end
        → Leads w vs bound ops args at t r.next (left r false waits words)
    go _ _ (finished bs' rs' us st) f g = cc
    go _ _ (clashed rs') f g = cc
    go _ _ (paused rs') f g =
        let j' : rs' ≡ rs = cc in
        leaves_to w vs bound ops args at r t store formed s i j e (stop rs) unifies false rs waits words
        (ends_named w vs bound r t store formed s i j (stop rs) unifies) noted given false refl
        (gives_after w vs bound ops args at r t store formed s i j e (stop rs) unifies t.next _
        (endings.wait (map (naming (with_variables r.pieces vs)).name rs))
        (ap (λ (z : List ℕ). endings.wait (map (naming (with_variables r.pieces vs)).name z)) (sym j') ∙ g) (λ m. refl))
