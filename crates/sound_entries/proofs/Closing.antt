-- A commit that is laid leads to addresses in use alone.
use Rattle.std.proofs.Common.{◌≡◌, ◌⊎◌, ℕ, suc, ◌+◌, ◌-◌, ◌<◌, ◌≤◌, true, false, List, [], ◌∷◌, length, refl, sym, ap, ◌∙◌, subst, ⊎_elim}
use Rattle.std.proofs.Common.{inl, inr, arith, true≢false, Option, Some, None}
use Rattle.std.specs.Prelude.{slice_get}
use Rattle.std.proofs.lemmas.Option.{same_Some}
use Rattle.heap_words.specs.Cells.{decoded, is_final_word, is_final_in}
use Rattle.heap_words.specs.Refers.{Refers, HasPart, teller, RefersBy, HasPartBy, parts}
use Rattle.heap_words.specs.Trails.{WordList, word_at}
use Rattle.heap_words.specs.declared.cell.Cell.{Cell}
use Rattle.heap_words.specs.declared.cell.Cell.TheVariants.{Unbound, Ref, RoRef, Small, Wide, Str, Nil, Cons, Tuple, Raw, Top}
use Rattle.heap_words.specs.declared.cell.Cell.TheVariants as cell
use Rattle.heap_words.specs.declared.cell.Stand.{Stand}
use Rattle.heap_words.specs.declared.cell.Stand.TheVariants as stand
use Rattle.word_states.specs.Layouts.{moved_cell, moved_in, moved, name_word, CommitLaid}
use Rattle.word_states.specs.Led.{ReadsPlace, IsLed, LeadsOn, AreLed, ReadsStatus}
use Rattle.word_states.specs.Pieces.{rows, StartsAt, RefersOwn}
use Rattle.word_states.specs.Words.{Words, Among, IsIn, Has}
use Rattle.word_states.proofs.Pieces.{rows_in, zero_is, nine_is, the_process}
use Rattle.word_state_laws.proofs.LaidPieces.{get_final, becomes_moved, final_moved, LaidAs, as_moved, as_place_name}
use Rattle.word_state_laws.proofs.LaidPieces.{as_free, as_status, as_process_name}
use Rattle.sound_entries.specs.Closed.{LeadsIn, AreClosed}
use Rattle.sound_entries.proofs.Known.{part_refers, part_by_refers, teller_refers, leads_same, leads_none, leads_nothing, led_leads}
use Rattle.sound_entries.proofs.Known.{moved_raw, name_small, get_of}
use Rattle.sound_entries.proofs.LaidCommits.{done_is, ready_is, Became, is_done, is_woken, is_bound, is_same, is_top, one_final}
use Rattle.sound_entries.proofs.LaidCommits.{two_final, parts_are_final, became, became_as, grows, whole, piece_has, laid_final, new_at}

module _ (f : ℕ → ℕ) (n p : ℕ) (binds : WordList) (ps : List (List ℕ)) (wakes : List ℕ) (w w' : Words)
    (laid : CommitLaid f n p binds ps wakes w w') (reads : WordList) (led : AreLed reads binds ps) (ever : ℕ → ℕ → Type 0)
    (closed : AreClosed ever w) (low : (a x : ℕ) → w a ≡ Some x → a < 4000000000) (has : (a x : ℕ) → Among reads (a, x) → w a ≡ Some x)
    (opened : (a x : ℕ) → word_at binds a ≡ Some x → (e : ℕ) × ReadsPlace reads a e) (parent : ReadsStatus reads p)
    (sleepers : (q : ℕ) → IsIn q wakes → ReadsStatus reads q) where
  abbrev ever' : ℕ → ℕ → Type 0
  ever' a x = ever a x ⊎ (w' a ≡ Some x)

  -- a number that stands in place of a word stood there
  pub raw_old : (t y m : ℕ) → Has w t → w' t ≡ Some y → decoded y ≡ Some (Raw m) → (w t ≡ Some y) × (word_at binds t ≡ None)
  raw_old t y m h e d = go ((became_as f n p binds ps wakes w w' laid) t h.0 y h.1 e)
    where
      go : Became f p binds wakes w' t h.0 y → (w t ≡ Some y) × (word_at binds t ≡ None)
      go (is_done i j) = let bad : Some (cell.Status stand.Done) ≡ Some (Raw m) = sym done_is ∙ ap decoded (sym j) ∙ d in cc
      go (is_woken i j) = let bad : Some (cell.Status stand.Ready) ≡ Some (Raw m) = sym ready_is ∙ ap decoded (sym j) ∙ d in cc
      go (is_bound v i j) = absurd ((led.value t v i).1 m (moved_raw f v m laid.small (ap decoded (sym j) ∙ d)))
      go (is_same i j) = (h.1 ∙ ap Some (sym i), j)
      go (is_top i j k l) = let bad : Some (Top j) ≡ Some (Raw m) = sym l ∙ d in cc

  told : (t y m : ℕ) → Has w t → ever t y ⊎ (w' t ≡ Some y) → decoded y ≡ Some (Raw m) → ever t y
  told t y m h (inl e) d = e
  told t y m h (inr e) d = closed.now t y (raw_old t y m h e d).0

  -- a final word stays
  pub final_stays : (a x : ℕ) → w a ≡ Some x → is_final_word x ≡ true → w' a ≡ Some x
  final_stays a x e fin = let r = (became f n p binds ps wakes w w' laid) a x e in go r.0 r.1 r.2
    where
      soft : (z : ℕ) (c : Cell) → w a ≡ Some z → decoded z ≡ Some c → is_final_in (Some c) ≡ false → ⊥
      soft z c i d k = true≢false (sym fin ∙ ap is_final_in (ap decoded (same_Some x z (sym e ∙ i)) ∙ d) ∙ k)

      status : (q : ℕ) → a ≡ q → ReadsStatus reads q → ⊥
      status q i r = soft r.0 (cell.Status r.1) (ap w i ∙ has q r.0 r.2) r.3 refl

      go : (y : ℕ) → w' a ≡ Some y → Became f p binds wakes w' a x y → w' a ≡ Some x
      go y h (is_done i j) = absurd (status p i parent)
      go y h (is_woken i j) = absurd (status a refl (sleepers a i))
      go y h (is_bound v i j) = (let r = opened a v i in absurd (soft r.1.0 (Unbound r.0) (has a r.1.0 r.1.1) r.1.2 refl))
      go y h (is_same i j) = h ∙ ap Some i
      go y h (is_top t u i j) = absurd (soft x (Top t) e i refl)

  -- a word in use whose word is final has no other one after
  final_after : (b y : ℕ) → Has w b → ((z : ℕ) → ever b z → is_final_word z ≡ true) → ever b y ⊎ (w' b ≡ Some y)
      → is_final_word y ≡ true
  final_after b y h g (inl k) = g y k
  final_after b y h g (inr k) =
      let fin = g h.0 (closed.now b h.0 h.1) in
      ap is_final_word (same_Some y h.0 (sym k ∙ final_stays b h.0 h.1 fin)) ∙ fin

  -- what leads on before does so after
  leads_on : (x : ℕ) → LeadsIn ever w x → LeadsIn (λ a x. ever a x ⊎ (w' a ≡ Some x)) w' x
  leads_on x h = record {
    refers = λ b c d r. (grows f n p binds ps wakes w w' laid) b (h.refers b c d r);
    refers_by =
        λ t y m b c d i k e r. (grows f n p binds ps wakes w w' laid) b (h.refers_by t y m b c d i
        (told t y m (h.refers t c d (teller_refers c t i)) k e) e r);
    part_final = λ b y c d r k. final_after b y (h.refers b c d (part_refers c b r)) (λ z q. h.part_final b z c d r q) k;
    part_final_by = λ t z m b y c d i k e r l.
        (let at = told t z m (h.refers t c d (teller_refers c t i)) k e in
        final_after b y (h.refers_by t z m b c d i at e (part_by_refers m c b r)) (λ u q. h.part_final_by t z m b u c d i at e r q) l);
  }

  -- a word of the store is as it was
  pub same_cell : (x : ℕ) (c : Cell) → LeadsIn ever w x → decoded x ≡ Some c → moved_cell f c ≡ c
  same_cell x c h d = go c d
    where
      below : (b : ℕ) → Has w b → f b ≡ b
      below b k = laid.old b (low b k.0 k.1)

      go : (c : Cell) → decoded x ≡ Some c → moved_cell f c ≡ c
      go (Unbound b) d = refl
      go (Ref b) d = ap Ref (below b (h.refers b (Ref b) d (inl refl)))
      go (RoRef b) d = ap RoRef (below b (h.refers b (RoRef b) d (inl refl)))
      go (Small z) d = refl
      go (Wide b k) d = ap (λ (c : ℕ). Wide c k) (below b (h.refers b (Wide b k) d refl))
      go (Str z) d = refl
      go Nil d = refl
      go (Cons b) d = ap Cons (below b (h.refers b (Cons b) d (inl refl)))
      go (Tuple b) d = ap Tuple (below b (h.refers b (Tuple b) d refl))
      go (cell.Status z) d = refl
      go (Raw z) d = refl
      go (Top z) d = refl

  pub led_same : (x : ℕ) → IsLed reads x → decoded (moved f x) ≡ decoded x
  led_same x h = go (decoded x) refl
    where
      go : (o : Option Cell) → decoded x ≡ o → decoded (moved f x) ≡ decoded x
      go None e = ap decoded (ap (moved_in f x) e)
      go (Some c) e = becomes_moved f x c laid.small e ∙ ap Some (same_cell x c (led_leads ever w closed reads has x h) e) ∙ sym e

  -- where a piece is laid, no word stands or stood
  fresh : (s x y : ℕ) (q : List ℕ) (d : ℕ) → StartsAt 4000000000 ps s q → slice_get q d ≡ Some x → ever (f (s + d)) y → ⊥
  fresh s x y q d h e k =
      let r = closed.within (f (s + d)) y k in
      let bad : None ≡ Some r.0 = sym (laid.free (s + d) x (rows_in 4000000000 s d x ps q h e)) ∙ r.1 in cc

  -- the word y that is laid as the d-th of a piece, or stands or stood there
  at_piece : (s d x t y : ℕ) (q : List ℕ) → StartsAt 4000000000 ps s q → slice_get q d ≡ Some x → d < length q
      → is_final_word x ≡ true → t ≡ f s + d → ever t y ⊎ (w' t ≡ Some y) → y ≡ moved f x
  at_piece s d x t y q h e lt fin at (inl k) =
      absurd (fresh s x y q d h e (subst (λ (b : ℕ). ever b y) (at ∙ sym ((whole f n p binds ps wakes w w' laid) s d q h lt)) k))
  at_piece s d x t y q h e lt fin at (inr k) =
      (laid_final f n p binds ps wakes w w' laid reads led) s d x y q h e lt fin (ap w' (sym at) ∙ k)

  place_refs : (s x b : ℕ) → StartsAt 4000000000 ps s (0 ∷ x ∷ []) → (b ≡ f (suc s)) ⊎ (suc b ≡ f (suc s)) → Has w' b
  place_refs s x b h r =
      let one : suc s ≡ s + 1 = omega arith in
      let next : f (suc s) ≡ f s + 1 = ap f one ∙ (whole f n p binds ps wakes w w' laid) s 1 (0 ∷ x ∷ []) h (omega arith) in
      ⊎_elim (λ (e : b ≡ f (suc s)). (piece_has f n p binds ps wakes w w' laid reads led) s 1 b (0 ∷ x ∷ []) h (omega arith) (e ∙ next))
      (λ (e : suc b ≡ f (suc s)). (piece_has f n p binds ps wakes w w' laid reads led) s 0 b (0 ∷ x ∷ []) h (omega arith) (omega arith)) r

  own_refers : (c : Cell) (b : ℕ) → RefersOwn ps c → Refers (moved_cell f c) b → Has w' b
  own_refers (Unbound a) b h r = absurd h
  own_refers (Ref a) b h r = place_refs h.0 h.1 b h.3 (subst (λ (z : ℕ). (b ≡ f z) ⊎ (suc b ≡ f z)) h.2 r)
  own_refers (RoRef a) b h r = place_refs h.0 h.1 b h.3 (subst (λ (z : ℕ). (b ≡ f z) ⊎ (suc b ≡ f z)) h.2 r)
  own_refers (Small z) b h r = absurd h
  own_refers (Wide a k) b h r =
      let e : b ≡ f a = r in (piece_has f n p binds ps wakes w w' laid reads led) a 0 b (h.0 ∷ []) h.1 (omega arith) (omega arith)
  own_refers (Str z) b h r = absurd h
  own_refers Nil b h r = absurd h
  own_refers (Cons a) b h r =
      ⊎_elim (λ (e : b ≡ f a). (piece_has f n p binds ps wakes w w' laid reads led) a 0 b (h.0 ∷ h.1 ∷ []) h.2 (omega arith) (omega arith))
      (λ (e : b ≡ suc (f a)). (piece_has f n p binds ps wakes w w' laid reads led) a 1 b (h.0 ∷ h.1 ∷ []) h.2 (omega arith) (omega arith)) r
  own_refers (Tuple a) b h r =
      let e : b ≡ f a = r in (piece_has f n p binds ps wakes w w' laid reads led) a 0 b (h.0 ∷ h.2) h.3 (omega arith) (omega arith)
  own_refers (cell.Status z) b h r = absurd h
  own_refers (Raw z) b h r = absurd h
  own_refers (Top z) b h r = absurd h

  own_refers_by : (c : Cell) (t y m b : ℕ) → RefersOwn ps c → teller (moved_cell f c) ≡ Some t → ever t y ⊎ (w' t ≡ Some y)
      → decoded y ≡ Some (Raw m) → RefersBy m (moved_cell f c) b → Has w' b
  own_refers_by (Unbound a) t y m b h i k d r = absurd h
  own_refers_by (Ref a) t y m b h i k d r = absurd r
  own_refers_by (RoRef a) t y m b h i k d r = absurd r
  own_refers_by (Small z) t y m b h i k d r = absurd h
  own_refers_by (Wide a g) t y m b h i k d r = absurd r
  own_refers_by (Str z) t y m b h i k d r = absurd h
  own_refers_by Nil t y m b h i k d r = absurd h
  own_refers_by (Cons a) t y m b h i k d r =
      let e : f a ≡ t = same_Some (f a) t i in
      let is : y ≡ moved f h.0 = at_piece a 0 h.0 t y (h.0 ∷ h.1 ∷ []) h.2 refl (omega arith) h.3 (omega arith) k in
      absurd (h.4 m (moved_raw f h.0 m laid.small (ap decoded (sym is) ∙ d)))
  own_refers_by (Tuple a) t y m b h i k d r =
      let e : f a ≡ t = same_Some (f a) t i in
      let is : y ≡ moved f h.0 = at_piece a 0 h.0 t y (h.0 ∷ h.2) h.3 refl (omega arith) (ap is_final_in h.4) (omega arith) k in
      let num : Raw h.1 ≡ Raw m = same_Some _ _ (sym h.4 ∙ moved_raw f h.0 m laid.small (ap decoded (sym is) ∙ d)) in
      let num' : h.1 ≡ m = cc in
      let size : length h.2 ≡ parts m = h.5 ∙ ap parts num' in
      let lo : f a < b = r.0 in
      let hi : b ≤ f a + parts m = r.1 in
      let lt : b - f a < suc (length h.2) = omega arith in
      let at : b ≡ f a + (b - f a) = omega arith in
      (piece_has f n p binds ps wakes w w' laid reads led) a (b - f a) b (h.0 ∷ h.2) h.3 lt at
  own_refers_by (cell.Status z) t y m b h i k d r = absurd h
  own_refers_by (Raw z) t y m b h i k d r = absurd h
  own_refers_by (Top z) t y m b h i k d r = absurd h

  -- the words of a piece that are final are so after
  piece_final : (s d x b y : ℕ) (q : List ℕ) → StartsAt 4000000000 ps s q → slice_get q d ≡ Some x → d < length q
      → is_final_word x ≡ true
      → b ≡ f s + d → ever b y ⊎ (w' b ≡ Some y) → is_final_word y ≡ true
  piece_final s d x b y q h e lt fin at k =
      ap is_final_word (at_piece s d x b y q h e lt fin at k) ∙ final_moved f x laid.small fin

  own_final : (c : Cell) (b y : ℕ) → RefersOwn ps c → HasPart (moved_cell f c) b → ever b y ⊎ (w' b ≡ Some y) → is_final_word y ≡ true
  own_final (Unbound a) b y h r k = absurd h
  own_final (Ref a) b y h r k = absurd r
  own_final (RoRef a) b y h r k = absurd r
  own_final (Small z) b y h r k = absurd h
  own_final (Wide a g) b y h r k =
      let e : b ≡ f a = r in
      piece_final a 0 h.0 b y (h.0 ∷ []) h.1 refl (omega arith) (one_final h.0 (led.each a (h.0 ∷ []) h.1)) (omega arith) k
  own_final (Str z) b y h r k = absurd h
  own_final Nil b y h r k = absurd h
  own_final (Cons a) b y h r k = ⊎_elim
      (λ (e : b ≡ f a). piece_final a 0 h.0 b y (h.0 ∷ h.1 ∷ []) h.2 refl (omega arith) h.3 (omega arith) k)
      (λ (e : b ≡ suc (f a)). piece_final a 1 h.1 b y (h.0 ∷ h.1 ∷ []) h.2 refl (omega arith)
      (two_final h.0 h.1 h.3 (led.each a (h.0 ∷ h.1 ∷ []) h.2)) (omega arith) k) r
  own_final (Tuple a) b y h r k =
      let e : b ≡ f a = r in
      piece_final a 0 h.0 b y (h.0 ∷ h.2) h.3 refl (omega arith) (ap is_final_in h.4) (omega arith) k
  own_final (cell.Status z) b y h r k = absurd h
  own_final (Raw z) b y h r k = absurd h
  own_final (Top z) b y h r k = absurd h

  own_final_by : (c : Cell) (t z m b y : ℕ) → RefersOwn ps c → teller (moved_cell f c) ≡ Some t → ever t z ⊎ (w' t ≡ Some z)
      → decoded z ≡ Some (Raw m) → HasPartBy m (moved_cell f c) b → ever b y ⊎ (w' b ≡ Some y) → is_final_word y ≡ true
  own_final_by (Unbound a) t z m b y h i k d r l = absurd h
  own_final_by (Ref a) t z m b y h i k d r l = absurd r
  own_final_by (RoRef a) t z m b y h i k d r l = absurd r
  own_final_by (Small u) t z m b y h i k d r l = absurd h
  own_final_by (Wide a g) t z m b y h i k d r l = absurd r
  own_final_by (Str u) t z m b y h i k d r l = absurd h
  own_final_by Nil t z m b y h i k d r l = absurd h
  own_final_by (Cons a) t z m b y h i k d r l =
      let e : f a ≡ t = same_Some (f a) t i in
      let is : z ≡ moved f h.0 = at_piece a 0 h.0 t z (h.0 ∷ h.1 ∷ []) h.2 refl (omega arith) h.3 (omega arith) k in
      absurd (h.4 m (moved_raw f h.0 m laid.small (ap decoded (sym is) ∙ d)))
  own_final_by (Tuple a) t z m b y h i k d r l =
      let e : f a ≡ t = same_Some (f a) t i in
      let is : z ≡ moved f h.0 = at_piece a 0 h.0 t z (h.0 ∷ h.2) h.3 refl (omega arith) (ap is_final_in h.4) (omega arith) k in
      let num : Raw h.1 ≡ Raw m = same_Some _ _ (sym h.4 ∙ moved_raw f h.0 m laid.small (ap decoded (sym is) ∙ d)) in
      let num' : h.1 ≡ m = cc in
      let size : length h.2 ≡ parts m = h.5 ∙ ap parts num' in
      let lo : f a < b = r.0 in
      let hi : b ≤ f a + parts m = r.1 in
      let in_tuple : b - f a - 1 < length h.2 = omega arith in
      let lt : suc (b - f a - 1) < suc (length h.2) = omega arith in
      let at : b ≡ f a + suc (b - f a - 1) = omega arith in
      let x = get_of h.2 (b - f a - 1) in_tuple in
      piece_final a (suc (b - f a - 1)) x.0 b y (h.0 ∷ h.2) h.3 x.1 lt
      (get_final h.2 (b - f a - 1) x.0 (parts_are_final h.0 h.1 h.2 h.4 (led.each a (h.0 ∷ h.2) h.3)) x.1) at l
  own_final_by (cell.Status u) t z m b y h i k d r l = absurd h
  own_final_by (Raw u) t z m b y h i k d r l = absurd h
  own_final_by (Top u) t z m b y h i k d r l = absurd h

  -- the moved word of one that leads on
  leads_moved : (x : ℕ) → LeadsOn reads ps x → LeadsIn (λ a x. ever a x ⊎ (w' a ≡ Some x)) w' (moved f x)
  leads_moved x (inl h) =
      leads_same (λ a x. ever a x ⊎ (w' a ≡ Some x)) w' x (moved f x) (led_same x h)
      (leads_on x (led_leads ever w closed reads has x h))
  leads_moved x (inr h) =
      let is : decoded (moved f x) ≡ Some (moved_cell f h.0) = becomes_moved f x h.0 laid.small h.1 in
      record {
        refers = λ b c d r. own_refers h.0 b h.2 (subst (λ (z : Cell). Refers z b) (same_Some c (moved_cell f h.0) (sym d ∙ is)) r);
        refers_by = λ t y m b c d i k e r.
            (let same : c ≡ moved_cell f h.0 = same_Some c (moved_cell f h.0) (sym d ∙ is) in
            own_refers_by h.0 t y m b h.2 (ap teller (sym same) ∙ i) k e (subst (λ (z : Cell). RefersBy m z b) same r));
        part_final =
            λ b y c d r k. own_final h.0 b y h.2 (subst (λ (z : Cell). HasPart z b) (same_Some c (moved_cell f h.0) (sym d ∙ is)) r) k;
        part_final_by = λ t z m b y c d i k e r l.
            (let same : c ≡ moved_cell f h.0 = same_Some c (moved_cell f h.0) (sym d ∙ is) in
            own_final_by h.0 t z m b y h.2 (ap teller (sym same) ∙ i) k e (subst (λ (u : Cell). HasPartBy m u b) same r) l);
      }

  leads' : (a x : ℕ) → ever a x ⊎ (w' a ≡ Some x) → LeadsIn (λ a x. ever a x ⊎ (w' a ≡ Some x)) w' x
  leads' a x (inl e) = leads_on x (closed.leads a x e)
  leads' a x (inr e) = go (w a) refl
    where
      quiet : (c : Cell) → decoded x ≡ Some c → ((b : ℕ) → Refers c b → ⊥) → LeadsIn (λ a x. ever a x ⊎ (w' a ≡ Some x)) w' x
      quiet = leads_nothing (λ a x. ever a x ⊎ (w' a ≡ Some x)) w' x

      named : (k : ℕ) (o : Option Cell) → decoded x ≡ o → decoded x ≡ decoded (name_word n k)
          → LeadsIn (λ a x. ever a x ⊎ (w' a ≡ Some x)) w' x
      named k None i g = leads_none (λ a x. ever a x ⊎ (w' a ≡ Some x)) w' x i
      named k (Some c) i g = let r = name_small n k c (sym g ∙ i) in quiet (Small r.0) (i ∙ ap Some r.1) (λ b h. h)

      piece : (s d v k i : ℕ) (q : List ℕ) → word_at (rows 4000000000 ps) (s + d) ≡ Some v → LaidAs f n k i q d v x
          → LeadsIn (λ a x. ever a x ⊎ (w' a ≡ Some x)) w' x
      piece s d v k i q r (as_moved fin h) =
          leads_same (λ a x. ever a x ⊎ (w' a ≡ Some x)) w' (moved f v) x (ap decoded h) (leads_moved v (led.own (s + d) v r fin))
      piece s d v k i q r (as_place_name h _ j l) = named k (decoded x) refl (ap decoded l)
      piece s d v k i q r (as_free h _ j l) =
          quiet (Unbound 0) (ap decoded l ∙ becomes_moved f 0 (Unbound 0) laid.small zero_is) (λ b h. let lt : 0 < 0 = h.0 in
          omega arith)
      piece s d v k i q r (as_status h _ j l) = quiet (cell.Status stand.Ready) (ap decoded l ∙ nine_is) (λ b h. h)
      piece s d v k i q r (as_process_name h _ j l) = named i (decoded x) refl (ap decoded l)

      old : (z : ℕ) → w a ≡ Some z → Became f p binds wakes w' a z x → LeadsIn (λ a x. ever a x ⊎ (w' a ≡ Some x)) w' x
      old z i (is_done h j) = quiet (cell.Status stand.Done) (ap decoded j ∙ done_is) (λ b h. h)
      old z i (is_woken h j) = quiet (cell.Status stand.Ready) (ap decoded j ∙ ready_is) (λ b h. h)
      old z i (is_bound v h j) =
          leads_same (λ a x. ever a x ⊎ (w' a ≡ Some x)) w' (moved f v) x (ap decoded j) (leads_moved v (led.bound a v h))
      old z i (is_same h j) = leads_on x (closed.leads a x (closed.now a x (i ∙ ap Some (sym h))))
      old z i (is_top t u h j) = quiet (Top u) j (λ b h. h)

      go : (o : Option ℕ) → w a ≡ o → LeadsIn (λ a x. ever a x ⊎ (w' a ≡ Some x)) w' x
      go None i = let r = (new_at f n p binds ps wakes w w' laid reads led) a x i e in piece r.0 r.1 r.2 r.3 r.4 r.5 r.10 r.11
      go (Some z) i = old z i ((became_as f n p binds ps wakes w w' laid) a z x i e)

  -- a status stands where one stood, or at the head of a process among the pieces
  pub data IsStatus (a : ℕ) : Type 0 where
    old_status : (y : ℕ) (d : Stand) → ever a y → decoded y ≡ Some (cell.Status d) → IsStatus a
    new_status : (s g r m : ℕ) (xs : List ℕ) → a ≡ f s → StartsAt 4000000000 ps s (9 ∷ 0 ∷ g ∷ r ∷ xs) → decoded r ≡ Some (Raw m)
        → length xs ≡ m → IsStatus a

  not_status : (v x : ℕ) (d : Stand) → is_final_word v ≡ true → x ≡ moved f v → decoded x ≡ Some (cell.Status d) → ⊥
  not_status v x d fin e h = true≢false (sym (final_moved f v laid.small fin) ∙ ap is_final_word (sym e) ∙ ap is_final_in h)

  status' : (a x : ℕ) (d : Stand) → ever a x ⊎ (w' a ≡ Some x) → decoded x ≡ Some (cell.Status d) → IsStatus a
  status' a x d (inl e) h = old_status x d e h
  status' a x d (inr e) h = go (w a) refl
    where
      was : (q : ℕ) → a ≡ q → ReadsStatus reads q → IsStatus a
      was q i r = old_status r.0 r.1 (closed.now a r.0 (ap w i ∙ has q r.0 r.2)) r.3

      named : (k : ℕ) → x ≡ name_word n k → IsStatus a
      named k i = let r = name_small n k (cell.Status d) (ap decoded (sym i) ∙ h) in let bad : cell.Status d ≡ Small r.0 = r.1 in cc

      piece : (s d' v k i : ℕ) (q : List ℕ) → StartsAt 4000000000 ps s q → a ≡ f (s + d') → LaidAs f n k i q d' v x → IsStatus a
      piece s d' v k i q g at (as_moved fin j) = absurd (not_status v x d fin j h)
      piece s d' v k i q g at (as_place_name j l c u) = named k u
      piece s d' v k i q g at (as_free j l c u) =
          let bad : Some (Unbound 0) ≡ Some (cell.Status d) = sym (becomes_moved f 0 (Unbound 0) laid.small zero_is)
          ∙ ap decoded (sym u) ∙ h in cc
      piece s d' v k i q g at (as_status j l c u) =
          let t = the_process q (led.each s q g) l in
          let zero' : s + d' ≡ s = omega arith in
          new_status s t.0 t.1 t.2 t.3 (at ∙ ap f zero') (subst (StartsAt 4000000000 ps s) t.4 g) t.5 t.6
      piece s d' v k i q g at (as_process_name j l c u) = named i u

      old : (z : ℕ) → w a ≡ Some z → Became f p binds wakes w' a z x → IsStatus a
      old z i (is_done j k) = was p j parent
      old z i (is_woken j k) = was a refl (sleepers a j)
      old z i (is_bound v j k) = absurd (not_status v x d (led.value a v j).0 k h)
      old z i (is_same j k) = old_status x d (closed.now a x (i ∙ ap Some (sym j))) h
      old z i (is_top t u j k) = let bad : Some (Top u) ≡ Some (cell.Status d) = sym k ∙ h in cc

      go : (o : Option ℕ) → w a ≡ o → IsStatus a
      go None i = let r = (new_at f n p binds ps wakes w w' laid reads led) a x i e in piece r.0 r.1 r.2 r.3 r.4 r.5 r.6 r.8 r.11
      go (Some z) i = old z i ((became_as f n p binds ps wakes w w' laid) a z x i e)

  process' : (a b : ℕ) → IsStatus a → a < b → b ≤ a + 3 → Has w' b
  process' a b (old_status y d e h) l k = (grows f n p binds ps wakes w w' laid) b (closed.process a y b d e h l k)
  process' a b (new_status s g r m xs at h d size) l k =
      let lt : b - f s < suc (suc (suc (suc (length xs)))) = omega arith in
      let is : b ≡ f s + (b - f s) = omega arith in
      (piece_has f n p binds ps wakes w w' laid reads led) s (b - f s) b (9 ∷ 0 ∷ g ∷ r ∷ xs) h lt is

  arguments' : (a y m b : ℕ) → IsStatus a → ever (a + 3) y ⊎ (w' (a + 3) ≡ Some y) → decoded y ≡ Some (Raw m) → a + 3 < b
      → b ≤ a + 3 + m → Has w' b
  arguments' a y m b (old_status z d e h) i j l k =
      (grows f n p binds ps wakes w w' laid) b (closed.arguments a z y m b d e h
      (told (a + 3) y m (closed.process a z (a + 3) d e h (omega arith) (omega arith)) i j)
      j l k)
  arguments' a y m b (new_status s g r m' xs at h d size) i j l k =
      let is : y ≡ moved f r = at_piece s 3 r (a + 3) y (9 ∷ 0 ∷ g ∷ r ∷ xs) h refl (omega arith) (ap is_final_in d)
      (ap (λ (z : ℕ). z + 3) at) i in
      let num : Raw m' ≡ Raw m = same_Some _ _ (sym d ∙ moved_raw f r m laid.small (ap decoded (sym is) ∙ j)) in
      let num' : m' ≡ m = cc in
      let lt : b - f s < suc (suc (suc (suc (length xs)))) = omega arith in
      let to : b ≡ f s + (b - f s) = omega arith in
      (piece_has f n p binds ps wakes w w' laid reads led) s (b - f s) b (9 ∷ 0 ∷ g ∷ r ∷ xs) h lt to

  pub commit_closed : AreClosed (λ a x. ever a x ⊎ (w' a ≡ Some x)) w'
  commit_closed = record {
    now = λ a x e. inr e;
    within =
        λ a x e. ⊎_elim (λ (h : ever a x). (grows f n p binds ps wakes w w' laid) a (closed.within a x h))
        (λ (h : w' a ≡ Some x). (x, h)) e;
    leads = leads';
    process = λ q x b d e h l k. process' q b (status' q x d e h) l k;
    arguments = λ q x y m b d e h i j l k. arguments' q y m b (status' q x d e h) i j l k;
  }
