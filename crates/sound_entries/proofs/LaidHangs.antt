-- The words after a hang that is laid.
use Rattle.std.proofs.Common.{◌≡◌, ◌⊎◌, ℕ, zero, suc, ◌+◌, ◌<◌, true, false, List, refl, sym, ap, ◌∙◌, subst, ⊎_elim, inl, inr}
use Rattle.std.proofs.Common.{arith, true≢false, Some, None, pos}
use Rattle.std.proofs.lemmas.Int.{ints}
use Rattle.std.proofs.lemmas.Option.{same_Some}
use Rattle.heap_words.specs.Cells.{decoded, encoded, is_final_word, is_final_in}
use Rattle.heap_words.specs.Trails.{WordList}
use Rattle.heap_words.specs.declared.cell.Cell.{Cell}
use Rattle.heap_words.specs.declared.cell.Cell.TheVariants.{Unbound, Small, Nil, Cons, Raw, Top}
use Rattle.heap_words.specs.declared.cell.Cell.TheVariants as cell
use Rattle.heap_words.specs.declared.cell.Stand.TheVariants as stand
use Rattle.heap_words.proofs.Encodings.{decoded_encoded, encoded_decoded}
use Rattle.word_states.specs.Layouts.{HangLaid, link_word}
use Rattle.word_states.specs.Led.{ReadsStatus, ReadsPlace}
use Rattle.word_states.specs.Words.{Words, At, Among, IsIn, Has}
use Rattle.word_states.proofs.Lists.{nat_same, member}

-- What came to stand where a word stood.
pub data HangBecame (entry : ℕ → ℕ) (n p : ℕ) (places : List ℕ) (a x y : ℕ) : Type 0 where
  is_waiting : a ≡ p → decoded y ≡ Some (cell.Status (stand.Waiting n)) → HangBecame entry n p places a x y
  is_head : IsIn a places → decoded y ≡ Some (Unbound (entry a)) → HangBecame entry n p places a x y
  is_same : y ≡ x → HangBecame entry n p places a x y
  is_top : (t u : ℕ) → decoded x ≡ Some (Top t) → decoded y ≡ Some (Top u) → HangBecame entry n p places a x y

-- A word of a new waiting entry for the place at a, whose list began at e.
pub data EntryWord (n p e : ℕ) (y : ℕ) : Type 0 where
  is_process : decoded y ≡ Some (Raw p) → EntryWord n p e y
  is_number : decoded y ≡ Some (Small (pos n)) → EntryWord n p e y
  is_last : decoded y ≡ Some Nil → EntryWord n p e y
  is_link : 0 < e → decoded y ≡ Some (Cons e) → EntryWord n p e y

module _ (entry : ℕ → ℕ) (n p : ℕ) (places : List ℕ) (w w' : Words) (laid : HangLaid entry n p places w w') (reads : WordList)
    (has : (a x : ℕ) → Among reads (a, x) → w a ≡ Some x)
    (parent : ReadsStatus reads p) (unbound : (a : ℕ) → IsIn a places → (e : ℕ) × ReadsPlace reads a e) where
  pub became : (a x : ℕ) → w a ≡ Some x → (y : ℕ) × (w' a ≡ Some y) × HangBecame entry n p places a x y
  became a x e = start (nat_same a p) (member a places)
    where
      start : (a ≡ p) ⊎ (a ≡ p → ⊥) → IsIn a places ⊎ (IsIn a places → ⊥) → (y : ℕ) × (w' a ≡ Some y) × HangBecame entry n p places a x y
      start (inl h) i = (
        encoded (cell.Status (stand.Waiting n)),
        ap w' h
            ∙ laid.status,
        is_waiting h (decoded_encoded (cell.Status (stand.Waiting n)) laid.small.1),
      )
      start (inr far) (inl i) =
          (encoded (Unbound (entry a)), laid.placed a i, is_head i (decoded_encoded (Unbound (entry a)) (laid.small_entry a i).1))
      start (inr far) (inr out) =
          ⊎_elim (λ (h : w' a ≡ Some x). (x, h, is_same refl)) (λ (h : (t u : ℕ) × (decoded x ≡ Some (Top t))
          × At w' a (Top u)). (h.3.0, h.3.1, is_top h.0 h.1 h.2 h.3.2)) (laid.others a x e far out)

  pub became_as : (a x y : ℕ) → w a ≡ Some x → w' a ≡ Some y → HangBecame entry n p places a x y
  became_as a x y e h = let r = became a x e in subst (HangBecame entry n p places a x) (same_Some r.0 y (sym r.1 ∙ h)) r.2

  pub grows : (a : ℕ) → Has w a → Has w' a
  grows a h = let r = became a h.0 h.1 in (r.0, r.1)

  -- the list of a place before
  pub list_at : (a : ℕ) → IsIn a places → (e : ℕ) × At w a (Unbound e)
  list_at a h = let r = unbound a h in (r.0, (r.1.0, has a r.1.0 r.1.1, r.1.2))

  pub entry_has : (a i b : ℕ) → IsIn a places → i < 3 → b ≡ entry a + i → Has w' b
  entry_has a i b h lt at = go i lt at
    where
      go : (i : ℕ) → i < 3 → b ≡ entry a + i → Has w' b
      go zero lt at =
          let e = list_at a h in let l = laid.laid a e.0 h e.1 in (encoded (Raw p), ap w' (let q : b ≡ entry a = omega arith in q) ∙ l.0)
      go (suc zero) lt at =
          let e = list_at a h in let l = laid.laid a e.0 h e.1 in (
            encoded (Small (pos n)),
            ap w' (let q : b ≡ suc (entry a) = omega arith in q) ∙ l.1.0,
          )
      go (suc (suc zero)) lt at =
          let e = list_at a h in let l = laid.laid a e.0 h e.1 in (
            link_word e.0,
            ap w' (let q : b ≡ suc (suc (entry a)) = omega arith in q) ∙ l.1.1.0,
          )
      go (suc (suc (suc i))) lt at = absurd (omega arith)

  -- a word where none stood is one of an entry
  pub new_word : (c y : ℕ) → w c ≡ None → w' c ≡ Some y → (a e : ℕ) × IsIn a places × At w a (Unbound e) × EntryWord n p e y
  new_word c y free at = let r = laid.new c y free at in let e = list_at r.0 r.2 in (r.0, e.0, r.2, e.1, go r.0 r.1 e.0 r.2 e.1 r.3 r.4)
    where
      link_is : (e : ℕ) → e < 0x100000000 → y ≡ link_word e → EntryWord n p e y
      link_is zero lt h = is_last (ap decoded h ∙ decoded_encoded Nil tt)
      link_is (suc e) lt h = is_link (omega arith) (ap decoded h ∙ decoded_encoded (Cons (suc e)) lt)

      go : (a i e : ℕ) → IsIn a places → At w a (Unbound e) → i < 3 → c ≡ entry a + i → EntryWord n p e y
      go a zero e h is lt q =
          let l = laid.laid a e h is in
          is_process (ap decoded (same_Some _ _ (sym at ∙ ap w' (let z : c ≡ entry a = omega arith in z) ∙ l.0))
          ∙ decoded_encoded (Raw p) laid.small.0)
      go a (suc zero) e h is lt q =
          let l = laid.laid a e h is in
          let lt : n < 0x100000000 = laid.small.1 in
          is_number (ap decoded (same_Some _ _ (sym at ∙ ap w' (let z : c ≡ suc (entry a) = omega arith in z) ∙ l.1.0))
          ∙ decoded_encoded (Small (pos n)) (omega (arith, ints), omega (arith, ints)))
      go a (suc (suc zero)) e h is lt q =
          let l = laid.laid a e h is in
          link_is e (encoded_decoded is.0 (Unbound e) is.2).0 (same_Some _ _ (sym at
          ∙ ap w' (let z : c ≡ suc (suc (entry a)) = omega arith in z) ∙ l.1.1.0))
      go a (suc (suc (suc i))) e h is lt q = absurd (omega arith)

  -- a final word stays
  pub final_stays : (a x : ℕ) → w a ≡ Some x → is_final_word x ≡ true → w' a ≡ Some x
  final_stays a x e fin = let r = became a x e in go r.0 r.1 r.2
    where
      soft : (z : ℕ) (c : Cell) → w a ≡ Some z → decoded z ≡ Some c → is_final_in (Some c) ≡ false → ⊥
      soft z c i d k = true≢false (sym fin ∙ ap is_final_in (ap decoded (same_Some x z (sym e ∙ i)) ∙ d) ∙ k)

      go : (y : ℕ) → w' a ≡ Some y → HangBecame entry n p places a x y → w' a ≡ Some x
      go y h (is_waiting i j) = absurd (soft parent.0 (cell.Status parent.1) (ap w i ∙ has p parent.0 parent.2) parent.3 refl)
      go y h (is_head i j) = (let u = list_at a i in absurd (soft u.1.0 (Unbound u.0) u.1.1 u.1.2 refl))
      go y h (is_same i) = h ∙ ap Some i
      go y h (is_top t u i j) = absurd (soft x (Top t) e i refl)

  -- the words of a new waiting entry are final
  pub entry_final : (e y : ℕ) → EntryWord n p e y → is_final_word y ≡ true
  entry_final e y (is_process d) = ap is_final_in d
  entry_final e y (is_number d) = ap is_final_in d
  entry_final e y (is_last d) = ap is_final_in d
  entry_final e y (is_link lt d) = ap is_final_in d
