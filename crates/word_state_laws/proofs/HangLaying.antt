-- What a trial found, that waits, laid among the words of the store is the effect of the hang.
use Rattle.std.proofs.Common.{◌≡◌, ◌⊎◌, ℕ, zero, suc, ◌+◌, ◌<◌, true, false, List, refl, sym, ap, ◌∙◌, subst, ⊎_elim, inl, inr, arith}
use Rattle.std.proofs.Common.{true≢false, Option, Some, None}
use Rattle.std.specs.Prelude.{pos}
use Rattle.std.proofs.lemmas.Int.{ints}
use Rattle.std.proofs.lemmas.Option.{same_Some}
use Rattle.fcp_model.specs.declared.run.Place.{Place}
use Rattle.fcp_model.specs.Places.{Variable, made, is_listed, places_among}
use Rattle.fcp_model.specs.Terms.{Term, find}
use Rattle.fcp_model.specs.Programs.{Program}
use Rattle.fcp_model.specs.States.{Status, ready, waiting, finished, Process, State}
use Rattle.heap_words.specs.Cells.{decoded, encoded, is_final_word, is_final_in, is_final_cell}
use Rattle.heap_words.specs.declared.cell.Cell.{Cell}
use Rattle.heap_words.specs.declared.cell.Cell.TheVariants.{Unbound, Small, Nil, Cons, Raw, Top}
use Rattle.heap_words.specs.declared.cell.Stand.{Stand}
use Rattle.heap_words.proofs.Encodings.{decoded_encoded, encoded_decoded}
use Rattle.heap_words.specs.declared.cell.Cell.TheVariants as cell
use Rattle.heap_words.specs.declared.cell.Stand.TheVariants as stand
use Rattle.word_states.specs.Words.{Words, At, Grows, IsIn}
use Rattle.word_states.specs.Denoting.{Listed}
use Rattle.word_states.specs.Standing.{Book, StandsFor, PlaceSays, StatusSays, LinkSays, ProcessAt, PlaceAt}
use Rattle.word_states.specs.Trials.{WaitSays}
use Rattle.word_states.specs.Layouts.{HangLaid, link_word}
use Rattle.word_states.specs.Effects.{EntryAt, HangEffect}
use Rattle.word_states.proofs.Lists.{nat_same, member}
use Rattle.word_states.proofs.Leading.{open_short}
use Rattle.word_states.proofs.Persisting.{denotes_final, one_cell}

module _ (m : Program) (book : Book) (s : State) (p : ℕ) (x : Process) (places : List ℕ) (entry : ℕ
    → ℕ) (w w' : Words) (stands : StandsFor book w s) (parent : ProcessAt book s p x) (was_ready : x.status ≡ ready)
    (few : suc s.entries < 134217728) (says : WaitSays m w book.places s.bound x.goal places)
    (laid : HangLaid entry (suc s.entries) p places w w') where
  status_at : (q : ℕ) (y : Process) → ProcessAt book s q y → (d : Stand) × At w q (cell.Status d)
  status_at q y h = let r = (stands.process q y h).status in go r.0 r.1 y.status r.2
    where
      go : (z : ℕ) → w q ≡ Some z → (st : Status) → StatusSays s.entries z st → (d : Stand) × At w q (cell.Status d)
      go z e ready is = (stand.Ready, (z, e, is))
      go z e finished is = (stand.Done, (z, e, is))
      go z e (waiting ns) is = (stand.Waiting is.0, (z, e, is.1))

  parent_is : At w p (cell.Status stand.Ready)
  parent_is =
      let r = (stands.process p x parent).status in
      let q : StatusSays s.entries r.0 ready = subst (StatusSays s.entries r.0) was_ready r.2 in (r.0, r.1, q)

  -- the places are unbound
  free_at : (a : ℕ) → IsIn a places → (j : Place) × PlaceAt book j a × (is_listed j (places_among says.reads) ≡ true)
      × ((e : ℕ) × At w a (Unbound e))
  free_at a h =
      let r = says.only a h in
      let g = says.all r.0 r.2 in
      let z = stands.says.word (made r.0) a r.1 in
      let free = open_short s.bound s.bound stands.short (made r.0) stands.shortened g.3 in
      let u : PlaceSays w book.places z.0 None = subst (PlaceSays w book.places z.0) free z.2 in
      (r.0, r.1, r.2, (u.0, (z.0, z.1, u.1)))

  soft : (a y : ℕ) (c : Cell) → At w a c → is_final_cell c ≡ false → w a ≡ Some y → is_final_word y ≡ true → ⊥
  soft a y c h g e fin = true≢false (sym fin ∙ ap is_final_in (ap decoded (same_Some _ _ (sym e ∙ h.1)) ∙ h.2) ∙ g)

  -- a place's word is neither a status nor a top
  place_word : (v : Variable) (a : ℕ) (c : Cell) → Listed book.places v a → At w a c → ((e : ℕ) → c ≡ Unbound e → ⊥)
      → is_final_cell c ≡ false → ⊥
  place_word v a c h at not_free soft' = let z = stands.says.word v a h in go z.0 z.1 (find stands.short v) z.2
    where
      go : (y : ℕ) → w a ≡ Some y → (o : Option (Term Variable)) → PlaceSays w book.places y o → ⊥
      go y e None u = not_free u.0 (one_cell w a _ _ at (y, e, u.1))
      go y e (Some t) d = soft a y c at soft' e (denotes_final w book.places y t d)

  grows : Grows w w'
  grows a y e fin =
      ⊎_elim (λ h. h) (λ (h : (t u : ℕ) × (decoded y ≡ Some (Top t)) × At w' a (Top u)). absurd (true≢false (sym fin ∙ ap is_final_in h.2)))
      (laid.others a y e (λ h. soft p y (cell.Status stand.Ready) parent_is refl (ap w (sym h) ∙ e) fin) (λ h. let r = free_at a h in
      soft a y (Unbound r.3.0) r.3.1 refl e fin))

  listed_in : (j : Place) (a : ℕ) → PlaceAt book j a → is_listed j (places_among says.reads) ≡ true → IsIn a places
  listed_in j a h t = let r = says.all j t in subst (λ (b : ℕ). IsIn b places) ((stands.says.once (made j) (made j) r.0 a r.1 h).0 refl) r.2

  in_listed : (j : Place) (a : ℕ) → PlaceAt book j a → IsIn a places → is_listed j (places_among says.reads) ≡ true
  in_listed j a h i =
      let r = says.only a i in
      let same : made r.0 ≡ made j = (stands.says.once (made r.0) (made j) a a r.1 h).1 refl in
      let same' : r.0 ≡ j = cc in
      subst (λ (k : Place). is_listed k (places_among says.reads) ≡ true) same' r.2

  link_is : (a e : ℕ) → e < 0x100000000 → w' a ≡ Some (link_word e) → LinkSays w' a e
  link_is a zero lt h = inl ((encoded Nil, h, decoded_encoded Nil tt), refl)
  link_is a (suc e) lt h = inr ((encoded (Cons (suc e)), h, decoded_encoded (Cons (suc e)) lt), omega arith)

  entry_at : (a e : ℕ) → IsIn a places → At w a (Unbound e) → EntryAt w' (entry a) p (suc s.entries) e
  entry_at a e h is =
      let l = laid.laid a e h is in
      let lt : e < 0x100000000 = (encoded_decoded is.0 (Unbound e) is.2).0 in
      let one : suc (entry a) ≡ entry a + 1 = omega arith in
      let two : suc (suc (entry a)) ≡ entry a + 2 = omega arith in
      record {
        above = (laid.small_entry a h).0;
        process = (encoded (Raw p), l.0, decoded_encoded (Raw p) laid.small.0);
        number = (
          encoded (Small (pos (suc s.entries))),
          ap w' (sym one) ∙ l.1.0,
          decoded_encoded (Small (pos (suc s.entries))) (omega (arith, ints), omega (arith, ints)),
        );
        link = link_is (entry a + 2) e lt (ap w' (sym two) ∙ l.1.1.0);
      }

  others' : (q : ℕ) (y : Process) → ProcessAt book s q y → (q ≡ p → ⊥) → w' q ≡ w q
  others' q y at far =
      let st = status_at q y at in
      ⊎_elim (λ (g : w' q ≡ Some st.1.0). g ∙ sym st.1.1)
      (λ (g : (t u : ℕ) × (decoded st.1.0 ≡ Some (Top t)) × At w' q (Top u)). let bad : cell.Status st.0 ≡ Top g.0 = same_Some _ _
      (sym st.1.2 ∙ g.2) in cc)
      (laid.others q st.1.0 st.1.1 far (λ i. let r = free_at q i in
      let bad : Unbound r.3.0 ≡ cell.Status st.0 = one_cell w q _ _ r.3.1 st.1 in cc))

  apart' : (j : Place) (a : ℕ) → PlaceAt book j a → is_listed j (places_among says.reads) ≡ false → w' a ≡ w a
  apart' j a h t =
      let z = stands.says.word (made j) a h in
      ⊎_elim (λ (g : w' a ≡ Some z.0). g ∙ sym z.1)
      (λ (g : (t u : ℕ) × (decoded z.0 ≡ Some (Top t)) × At w' a (Top u)). absurd
      (place_word (made j) a (Top g.0) h (z.0, z.1, g.2) (λ e f. cc) refl))
      (laid.others a z.0 z.1 (λ here. place_word (made j) a (cell.Status stand.Ready) h
      (subst (λ (b : ℕ). At w b (cell.Status stand.Ready)) (sym here) parent_is) (λ e f. cc) refl)
      (λ i. true≢false (sym (in_listed j a h i) ∙ t)))

  statuses' : (a : ℕ) (d : Stand) → At w' a (cell.Status d) → (t : Stand) × At w a (cell.Status t)
  statuses' a d is = go (w a) refl
    where
      not_link : (y e : ℕ) → y ≡ link_word e → e < 0x100000000 → decoded y ≡ Some (cell.Status d) → ⊥
      not_link y zero e lt h = let bad : Nil ≡ cell.Status d = same_Some _ _ (sym (decoded_encoded Nil tt) ∙ ap decoded (sym e) ∙ h) in cc
      not_link y (suc n) e lt h =
          let bad : Cons (suc n) ≡ cell.Status d = same_Some _ _ (sym (decoded_encoded (Cons (suc n)) lt) ∙ ap decoded (sym e) ∙ h) in cc

      same_word : (y : ℕ) (i : ℕ) (b : ℕ) → a ≡ entry b + i → (c : ℕ) → entry b + i ≡ c → w' c ≡ Some y → is.0 ≡ y
      same_word y i b at c e h = same_Some _ _ (sym is.1 ∙ ap w' (at ∙ e) ∙ h)

      entry' : (b i : ℕ) → IsIn b places → i < 3 → a ≡ entry b + i → ⊥
      entry' b zero h lt at =
          let r = free_at b h in
          let l = laid.laid b r.3.0 h r.3.1 in
          let e = same_word (encoded (Raw p)) 0 b at (entry b) (omega arith) l.0 in
          let bad : Raw p ≡ cell.Status d = same_Some _ _ (sym (decoded_encoded (Raw p) laid.small.0) ∙ ap decoded (sym e) ∙ is.2) in cc
      entry' b (suc zero) h lt at =
          let r = free_at b h in
          let l = laid.laid b r.3.0 h r.3.1 in
          let e = same_word (encoded (Small (pos (suc s.entries)))) 1 b at (suc (entry b)) (omega arith) l.1.0 in
          let bad : Small (pos (suc s.entries)) ≡ cell.Status d = same_Some _ _
          (sym (decoded_encoded (Small (pos (suc s.entries))) (omega (arith, ints), omega (arith, ints))) ∙ ap decoded (sym e)
          ∙ is.2) in cc
      entry' b (suc (suc zero)) h lt at =
          let r = free_at b h in
          let l = laid.laid b r.3.0 h r.3.1 in
          let e = same_word (link_word r.3.0) 2 b at (suc (suc (entry b))) (omega arith) l.1.1.0 in
          not_link is.0 r.3.0 e (encoded_decoded r.3.1.0 (Unbound r.3.0) r.3.1.2).0 is.2
      entry' b (suc (suc (suc i))) h lt at = absurd (omega arith)

      old' : (z : ℕ) → w a ≡ Some z → (a ≡ p) ⊎ (a ≡ p → ⊥) → IsIn a places ⊎ (IsIn a places → ⊥) → (t : Stand) × At w a (cell.Status t)
      old' z e (inl h) i = (stand.Ready, subst (λ (b : ℕ). At w b (cell.Status stand.Ready)) (sym h) parent_is)
      old' z e (inr far) (inl i) =
          let bad : Unbound (entry a) ≡ cell.Status d = same_Some _ _ (sym (decoded_encoded (Unbound (entry a)) (laid.small_entry a i).1)
          ∙ ap decoded (same_Some _ _ (sym (laid.placed a i) ∙ is.1)) ∙ is.2) in cc
      old' z e (inr far) (inr i) = ⊎_elim
          (λ (g : w' a ≡ Some z). (d, (z, e, ap decoded (same_Some _ _ (sym g ∙ is.1)) ∙ is.2)))
          (λ (g : (t u : ℕ) × (decoded z ≡ Some (Top t)) × At w' a (Top u)). let bad : Top g.1 ≡ cell.Status d = one_cell w' a _ _ g.3 is
          in cc)
          (laid.others a z e far i)

      go : (o : Option ℕ) → w a ≡ o → (t : Stand) × At w a (cell.Status t)
      go (Some z) e = old' z e (nat_same a p) (member a places)
      go None e = let b = laid.new a is.0 e is.1 in absurd (entry' b.0 b.1 b.2 b.3 b.4)

  -- the effect of the hang
  pub hang_effect : HangEffect book s p x (places_among says.reads) w w'
  hang_effect = record {
    grows = grows;
    parent = parent;
    status = (
      encoded (cell.Status (stand.Waiting (suc s.entries))),
      laid.status,
      decoded_encoded (cell.Status (stand.Waiting (suc s.entries))) laid.small.1,
    );
    others = others';
    places = λ j t. let r = says.all j t in ((r.0, r.1), r.3);
    hung =
        λ j a e h t is. let i =
        listed_in j a h t in (
          entry a,
          (encoded (Unbound (entry a)), laid.placed a i, decoded_encoded (Unbound (entry a)) (laid.small_entry a i).1),
          entry_at a e i is,
        );
    apart = apart';
    statuses = statuses';
  }
