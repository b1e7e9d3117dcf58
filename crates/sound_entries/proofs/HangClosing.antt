-- A hang that is laid leads to addresses in use alone, and closes no cycle.
use Rattle.std.proofs.Common.{◌≡◌, ◌⊎◌, ℕ, suc, ◌+◌, ◌-◌, ◌<◌, ◌≤◌, true, false, List, refl, sym, ap, ◌∙◌, subst, ⊎_elim, inl, inr}
use Rattle.std.proofs.Common.{arith, true≢false, Option, Some, None, pos}
use Rattle.std.proofs.lemmas.Bool.{cases_lt}
use Rattle.std.proofs.lemmas.Option.{same_Some}
use Rattle.heap_words.specs.Cells.{decoded, encoded, is_final_word, is_final_in}
use Rattle.heap_words.specs.WordsLaws.{Acyclic}
use Rattle.heap_words.specs.Refers.{Refers, HasPart, reaches_refers, reaches_by_refers, teller, RefersBy, ReachesBy, HasPartBy}
use Rattle.heap_words.specs.Trails.{WordList}
use Rattle.heap_words.specs.declared.cell.Cell.{Cell}
use Rattle.heap_words.specs.declared.cell.Cell.TheVariants.{Unbound, Small, Nil, Cons, Raw, Top}
use Rattle.heap_words.specs.declared.cell.Cell.TheVariants as cell
use Rattle.heap_words.specs.declared.cell.Stand.{Stand}
use Rattle.heap_words.specs.declared.cell.Stand.TheVariants as stand
use Rattle.heap_words.proofs.Encodings.{decoded_encoded}
use Rattle.word_states.specs.Layouts.{HangLaid}
use Rattle.word_states.specs.Led.{ReadsStatus, ReadsPlace}
use Rattle.word_states.specs.Tame.{finals, Leads, Edge}
use Rattle.word_states.specs.Words.{Words, At, Among, IsIn, Has}
use Rattle.sound_entries.specs.Closed.{LeadsIn, AreClosed, Stands}
use Rattle.sound_entries.proofs.Known.{part_refers, part_by_refers, teller_refers, teller_of, told_is, leads_nothing}
use Rattle.sound_entries.proofs.Ranking.{plus, all_plus, plus_here, plus_most, plus_all, edge_falls, Falls}
use Rattle.sound_entries.proofs.LaidHangs.{HangBecame, is_waiting, is_head, is_same, is_top, EntryWord, is_process, is_number, is_last}
use Rattle.sound_entries.proofs.LaidHangs.{is_link, became_as, grows, list_at, entry_has, new_word, final_stays, entry_final}

module _ (entry : ℕ → ℕ) (n p : ℕ) (places : List ℕ) (w w' : Words) (laid : HangLaid entry n p places w w') (reads : WordList)
    (has : (a x : ℕ) → Among reads (a, x) → w a ≡ Some x)
    (parent : ReadsStatus reads p) (unbound : (a : ℕ) → IsIn a places → (e : ℕ) × ReadsPlace reads a e) where
  module _ (ever : ℕ → ℕ → Type 0) (closed : AreClosed ever w) where
    pub raw_old : (t y m : ℕ) → Has w t → w' t ≡ Some y → decoded y ≡ Some (Raw m) → w t ≡ Some y
    raw_old t y m h e d = go ((became_as entry n p places w w' laid reads has parent unbound) t h.0 y h.1 e)
      where
        go : HangBecame entry n p places t h.0 y → w t ≡ Some y
        go (is_waiting i j) = let bad : Some (cell.Status (stand.Waiting n)) ≡ Some (Raw m) = sym j ∙ d in cc
        go (is_head i j) = let bad : Some (Unbound (entry t)) ≡ Some (Raw m) = sym j ∙ d in cc
        go (is_same i) = h.1 ∙ ap Some (sym i)
        go (is_top i j k l) = let bad : Some (Top j) ≡ Some (Raw m) = sym l ∙ d in cc

    told : (t y m : ℕ) → Has w t → ever t y ⊎ (w' t ≡ Some y) → decoded y ≡ Some (Raw m) → ever t y
    told t y m h (inl e) d = e
    told t y m h (inr e) d = closed.now t y (raw_old t y m h e d)

    -- a word in use whose word is final has no other one after
    final_after : (b y : ℕ) → Has w b → ((z : ℕ) → ever b z → is_final_word z ≡ true) → ever b y ⊎ (w' b ≡ Some y) → is_final_word y ≡ true
    final_after b y h g (inl k) = g y k
    final_after b y h g (inr k) =
        let fin = g h.0 (closed.now b h.0 h.1) in
        ap is_final_word (same_Some y h.0 (sym k ∙ (final_stays entry n p places w w' laid reads has parent unbound) b h.0 h.1 fin)) ∙ fin

    leads_on : (x : ℕ) → LeadsIn ever w x → LeadsIn (λ a x. ever a x ⊎ (w' a ≡ Some x)) w' x
    leads_on x h = record {
      refers = λ b c d r. (grows entry n p places w w' laid reads has parent unbound) b (h.refers b c d r);
      refers_by =
          λ t y m b c d i k e r. (grows entry n p places w w' laid reads has parent unbound) b
          (h.refers_by t y m b c d i (told t y m (h.refers t c d (teller_refers c t i)) k e) e r);
      part_final = λ b y c d r k. final_after b y (h.refers b c d (part_refers c b r)) (λ z q. h.part_final b z c d r q) k;
      part_final_by = λ t z m b y c d i k e r l.
          (let at = told t z m (h.refers t c d (teller_refers c t i)) k e in
          final_after b y (h.refers_by t z m b c d i at e (part_by_refers m c b r)) (λ u q. h.part_final_by t z m b u c d i at e r q) l);
    }

    -- and what stood there is final
    link_final : (a e b z : ℕ) → At w a (Unbound e) → 0 < e → e ≤ b → b < e + 3 → ever b z → is_final_word z ≡ true
    link_final a e b z is lt lo hi k = (closed.leads a is.0 (closed.now a is.0 is.1)).part_final b z (Unbound e) is.2 (lt, lo, hi) k

    link_has_word : (a e b : ℕ) → At w a (Unbound e) → 0 < e → e ≤ b → b < e + 3 → Has w b
    link_has_word a e b is lt lo hi = (closed.leads a is.0 (closed.now a is.0 is.1)).refers b (Unbound e) is.2 (lt, lo, hi)

    -- what the link of a new entry refers to stood
    pub link_leads : (a e : ℕ) (b t y m : ℕ) → At w a (Unbound e) → 0 < e → (Refers (Cons e) b → Has w b)
        × (ever e y → decoded y ≡ Some (Raw m) → RefersBy m (Cons e) b → Has w b)
    link_leads a e b t y m is lt = (
      (λ r. ⊎_elim (λ (h : b ≡ e). l.refers b (Unbound e) is.2 (lt, omega arith, omega arith))
          (λ (h : b ≡ suc e). l.refers b (Unbound e) is.2 (lt, omega arith, omega arith)) r),
      (λ k d r. ⊎_elim (λ (h : b ≡ m). l.refers_by e y m b (Unbound e) is.2 (teller_of e lt) k d h)
          (λ (h : b ≡ e + 2). l.refers b (Unbound e) is.2 (lt, omega arith, omega arith)) r),
    )
      where
        l : LeadsIn ever w is.0
        l = closed.leads a is.0 (closed.now a is.0 is.1)

    leads' : (a x : ℕ) → ever a x ⊎ (w' a ≡ Some x) → LeadsIn (λ a x. ever a x ⊎ (w' a ≡ Some x)) w' x
    leads' a x (inl e) = leads_on x (closed.leads a x e)
    leads' a x (inr e) = go (w a) refl
      where
        quiet : (c : Cell) → decoded x ≡ Some c → ((b : ℕ) → Refers c b → ⊥) → LeadsIn (λ a x. ever a x ⊎ (w' a ≡ Some x)) w' x
        quiet = leads_nothing (λ a x. ever a x ⊎ (w' a ≡ Some x)) w' x

        head_by : (t y m b : ℕ) → IsIn a places → entry a ≡ t → ever t y ⊎ (w' t ≡ Some y) → decoded y ≡ Some (Raw m) → b ≡ m → Has w' b
        head_by t y m b i g (inl k) d r =
            let h = closed.within t y k in
            let zero' : entry a + 0 ≡ t = omega arith in
            let bad : None ≡ Some h.0 = sym (laid.free a 0 i (omega arith)) ∙ ap w zero' ∙ h.1 in cc
        head_by t y m b i g (inr k) d r =
            let u = (list_at entry n p places w w' laid reads has parent unbound) a i in
            let l = laid.laid a u.0 i u.1 in
            let is : encoded (Raw p) ≡ y = same_Some _ _ (sym l.0 ∙ ap w' g ∙ k) in
            let num : Raw p ≡ Raw m = same_Some _ _ (sym (decoded_encoded (Raw p) laid.small.0) ∙ ap decoded is ∙ d) in
            let num' : p ≡ m = cc in
            subst (Has w') (num' ∙ sym r) ((grows entry n p places w w' laid reads has parent unbound) p (
              parent.0,
              has p parent.0 parent.2,
            ))

        head : (c : Cell) → decoded x ≡ Some c → c ≡ Unbound (entry a) → IsIn a places → LeadsIn (λ a x. ever a x ⊎ (w' a ≡ Some x)) w' x
        head c d q i = record {
          refers = λ b c' d' r.
              let same : c' ≡ Unbound (entry a) = same_Some _ _ (sym d' ∙ d) ∙ q in
              let r' : Refers (Unbound (entry a)) b = subst (λ (z : Cell). Refers z b) same r in
              within' b r';
          refers_by = λ t y m b c' d' j k g r.
              let same : c' ≡ Unbound (entry a) = same_Some _ _ (sym d' ∙ d) ∙ q in
              let at : entry a ≡ t = told_is (entry a) t (ap teller (sym same) ∙ j) in
              head_by t y m b i at k g (subst (λ (z : Cell). RefersBy m z b) same r);
          part_final = λ b y c' d' r k.
              (let same : c' ≡ Unbound (entry a) = same_Some _ _ (sym d' ∙ d) ∙ q in
              let r' : HasPart (Unbound (entry a)) b = subst (λ (z : Cell). HasPart z b) same r in
              final' b y r' k);
          part_final_by = λ t z m b y c' d' j k g r l.
              (let same : c' ≡ Unbound (entry a) = same_Some _ _ (sym d' ∙ d) ∙ q in
              absurd (subst (λ (z : Cell). HasPartBy m z b) same r));
        }
          where
            final' : (b y : ℕ) → (0 < entry a) × (entry a ≤ b) × (b < entry a + 3) → ever b y ⊎ (w' b ≡ Some y) → is_final_word y ≡ true
            final' b y r k = go k
              where
                none : w b ≡ None
                none =
                    let lo = r.1 in let hi = r.2 in
                    let at : entry a + (b - entry a) ≡ b = omega arith in
                    ap w (sym at) ∙ laid.free a (b - entry a) i (omega arith)

                go : ever b y ⊎ (w' b ≡ Some y) → is_final_word y ≡ true
                go (inl e) = (let h = closed.within b y e in let bad : None ≡ Some h.0 = sym none ∙ h.1 in cc)
                go (inr e) =
                    (let h = (new_word entry n p places w w' laid reads has parent unbound) b y none e in
                    (entry_final entry n p places w w' laid reads has parent unbound) h.1 y h.4)

            within' : (b : ℕ) → (0 < entry a) × (entry a ≤ b) × (b < entry a + 3) → Has w' b
            within' b r =
                let lo = r.1 in let hi = r.2 in
                ⊎_elim (λ (l : b < entry a + 1). (entry_has entry n p places w w' laid reads has parent unbound) a 0 b i (omega arith)
                (omega arith))
                (λ (l : entry a + 1 ≤ b). ⊎_elim
                (λ (k : b < entry a + 2). (entry_has entry n p places w w' laid reads has parent unbound) a 1 b i (omega arith)
                (omega arith))
                (λ (k : entry a + 2 ≤ b). (entry_has entry n p places w w' laid reads has parent unbound) a 2 b i (omega arith)
                (omega arith)) (cases_lt b (entry a + 2)))
                (cases_lt b (entry a + 1))

        link : (c e' : ℕ) → At w c (Unbound e') → 0 < e' → decoded x ≡ Some (Cons e') → LeadsIn (λ a x. ever a x ⊎ (w' a ≡ Some x)) w' x
        link c e' is lt d = record {
          refers =
              λ b c' d' r. (grows entry n p places w w' laid reads has parent unbound) b
              ((link_leads c e' b 0 0 0 is lt).0 (subst (λ (z : Cell). Refers z b) (same_Some c' (Cons e') (sym d' ∙ d)) r));
          refers_by = λ t y m b c' d' j k g r.
              let same : c' ≡ Cons e' = same_Some c' (Cons e') (sym d' ∙ d) in
              let at : e' ≡ t = same_Some e' t (ap teller (sym same) ∙ j) in
              let there : Has w e' = (link_leads c e' e' 0 0 0 is lt).0 (inl refl) in
              let k' : ever e' y = told e' y m there (subst (λ (z : ℕ). ever z y ⊎ (w' z ≡ Some y)) (sym at) k) g in
              (grows entry n p places w w' laid reads has parent unbound) b
              ((link_leads c e' b 0 y m is lt).1 k' g (subst (λ (z : Cell). RefersBy m z b) same r));
          part_final = λ b y c' d' r k. of_link b y (subst (λ (z : Cell). HasPart z b) (same_Some c' (Cons e') (sym d' ∙ d)) r) k;
          part_final_by = λ t z m b y c' d' j k g r l.
              of_next b y m (subst (λ (u : Cell). HasPartBy m u b) (same_Some c' (Cons e') (sym d' ∙ d)) r) l;
        }
          where
            of_link : (b y : ℕ) → (b ≡ e') ⊎ (b ≡ suc e') → ever b y ⊎ (w' b ≡ Some y) → is_final_word y ≡ true
            of_link b y r k = ⊎_elim
                (λ (q : b ≡ e'). final_after b y (link_has_word c e' b is lt (omega arith) (omega arith))
                (λ z h. link_final c e' b z is lt (omega arith) (omega arith) h) k)
                (λ (q : b ≡ suc e'). final_after b y (link_has_word c e' b is lt (omega arith) (omega arith))
                (λ z h. link_final c e' b z is lt (omega arith) (omega arith) h) k) r

            of_next : (b y m : ℕ) → b ≡ e' + 2 → ever b y ⊎ (w' b ≡ Some y) → is_final_word y ≡ true
            of_next b y m q k =
                final_after b y (link_has_word c e' b is lt (omega arith) (omega arith))
                (λ z h. link_final c e' b z is lt (omega arith) (omega arith) h) k

        new : (c e' : ℕ) → At w c (Unbound e') → EntryWord n p e' x → LeadsIn (λ a x. ever a x ⊎ (w' a ≡ Some x)) w' x
        new c e' is (is_process d) = quiet (Raw p) d (λ b h. h)
        new c e' is (is_number d) = quiet (Small (pos n)) d (λ b h. h)
        new c e' is (is_last d) = quiet Nil d (λ b h. h)
        new c e' is (is_link lt d) = link c e' is lt d

        old : (z : ℕ) → w a ≡ Some z → HangBecame entry n p places a z x → LeadsIn (λ a x. ever a x ⊎ (w' a ≡ Some x)) w' x
        old z i (is_waiting h d) = quiet (cell.Status (stand.Waiting n)) d (λ b h. h)
        old z i (is_head h d) = head (Unbound (entry a)) d refl h
        old z i (is_same h) = leads_on x (closed.leads a x (closed.now a x (i ∙ ap Some (sym h))))
        old z i (is_top t u h d) = quiet (Top u) d (λ b h. h)

        go : (o : Option ℕ) → w a ≡ o → LeadsIn (λ a x. ever a x ⊎ (w' a ≡ Some x)) w' x
        go None i = let r = (new_word entry n p places w w' laid reads has parent unbound) a x i e in new r.0 r.1 r.3 r.4
        go (Some z) i = old z i ((became_as entry n p places w w' laid reads has parent unbound) a z x i e)

    -- a status stands where one stood
    status' : (a x : ℕ) (d : Stand) → ever a x ⊎ (w' a ≡ Some x) → decoded x ≡ Some (cell.Status d) → (y : ℕ) × (t : Stand) × ever a y
        × (decoded y ≡ Some (cell.Status t))
    status' a x d (inl e) h = (x, d, e, h)
    status' a x d (inr e) h = go (w a) refl
      where
        new : (e' : ℕ) → EntryWord n p e' x → ⊥
        new e' (is_process i) = let bad : Some (Raw p) ≡ Some (cell.Status d) = sym i ∙ h in cc
        new e' (is_number i) = let bad : Some (Small (pos n)) ≡ Some (cell.Status d) = sym i ∙ h in cc
        new e' (is_last i) = let bad : Some Nil ≡ Some (cell.Status d) = sym i ∙ h in cc
        new e' (is_link lt i) = let bad : Some (Cons e') ≡ Some (cell.Status d) = sym i ∙ h in cc

        old : (z : ℕ) → w a ≡ Some z → HangBecame entry n p places a z x → (y : ℕ) × (t : Stand) × ever a y
            × (decoded y ≡ Some (cell.Status t))
        old z i (is_waiting j k) = (parent.0, parent.1, closed.now a parent.0 (ap w j ∙ has p parent.0 parent.2), parent.3)
        old z i (is_head j k) = let bad : Some (Unbound (entry a)) ≡ Some (cell.Status d) = sym k ∙ h in cc
        old z i (is_same j) = (x, d, closed.now a x (i ∙ ap Some (sym j)), h)
        old z i (is_top t u j k) = let bad : Some (Top u) ≡ Some (cell.Status d) = sym k ∙ h in cc

        go : (o : Option ℕ) → w a ≡ o → (y : ℕ) × (t : Stand) × ever a y × (decoded y ≡ Some (cell.Status t))
        go None i = let r = (new_word entry n p places w w' laid reads has parent unbound) a x i e in absurd (new r.1 r.4)
        go (Some z) i = old z i ((became_as entry n p places w w' laid reads has parent unbound) a z x i e)

    pub hang_closed : AreClosed (λ a x. ever a x ⊎ (w' a ≡ Some x)) w'
    hang_closed = record {
      now = λ a x e. inr e;
      within =
          λ a x e. ⊎_elim (λ (h : ever a x). (grows entry n p places w w' laid reads has parent unbound) a (closed.within a x h))
          (λ (h : w' a ≡ Some x). (x, h)) e;
      leads = leads';
      process =
          λ q x b d e h l k. let s =
          status' q x d e h in (grows entry n p places w w' laid reads has parent unbound) b (closed.process q s.0 b s.1 s.2 s.3 l k);
      arguments = λ q x y m b d e h i j l k.
          let s = status' q x d e h in
          let at = closed.process q s.0 (q + 3) s.1 s.2 s.3 (omega arith) (omega arith) in
          (grows entry n p places w w' laid reads has parent unbound) b (closed.arguments q s.0 y m b s.1 s.2 s.3
          (told (q + 3) y m at i j) j l k);
    }

  module _ (size : ℕ) (within : (a x : ℕ) → w a ≡ Some x → a < size) (closed : AreClosed (Stands w) w) (old : Acyclic (finals w)) where
    abbrev rank_in : Option ℕ → ℕ → ℕ
    rank_in None a = suc (all_plus old.rank size)
    rank_in (Some x) a = plus old.rank size a

    rank_of : (a : ℕ) → Has w a → rank_in (w a) a ≡ plus old.rank size a
    rank_of a h = ap (λ (o : Option ℕ). rank_in o a) h.1

    -- what stood refers to what stood
    leads_old : (x b : ℕ) (c : Cell) → LeadsIn (Stands w) w x → decoded x ≡ Some c → Leads w' c b → Leads w c b × Has w b
    leads_old x b c l d (inl r) = (inl r, l.refers b c d (reaches_refers c b r))
    leads_old x b c l d (inr r) =
        let at = raw_old (Stands w) closed r.0 r.1 r.2 (l.refers r.0 c d (teller_refers c r.0 r.3)) r.4 r.5 in
        (inr (r.0, r.1, r.2, r.3, at, r.5, r.6), l.refers_by r.0 r.1 r.2 b c d r.3 at r.5 (reaches_by_refers r.2 c b r.6))

    link_has : (a e b : ℕ) → At w a (Unbound e) → 0 < e → Leads w' (Cons e) b → Has w b
    link_has a e b is lt (inl r) = (link_leads (Stands w) closed a e b 0 0 0 is lt).0 r
    link_has a e b is lt (inr r) = absurd r.6

    falls' : (a b : ℕ) → Edge w' a b → rank_in (w b) b < rank_in (w a) a
    falls' a b e = go (w a) refl
      where
        nothing : (c : Cell) → decoded e.0 ≡ Some c → ((t : ℕ) → Refers c t → ⊥) → ⊥
        nothing c d f =
            ⊎_elim (λ r. f b (subst (λ (z : Cell). Refers z b) (same_Some e.1 c (sym e.4 ∙ d)) (reaches_refers e.1 b r)))
            (λ (r : (t y n : ℕ) × (teller e.1 ≡ Some t) × (w' t ≡ Some y) × (decoded y ≡ Some (Raw n))
            × ReachesBy n e.1 b). f r.0 (subst (λ (z : Cell). Refers z r.0) (same_Some e.1 c (sym e.4 ∙ d))
            (teller_refers e.1 r.0 r.3))) e.5

        new : (c e' : ℕ) → w a ≡ None → At w c (Unbound e') → EntryWord n p e' e.0 → rank_in (w b) b < rank_in (w a) a
        new c e' i is (is_process d) = absurd (nothing (Raw p) d (λ b h. h))
        new c e' i is (is_number d) = absurd (nothing (Small (pos n)) d (λ b h. h))
        new c e' i is (is_last d) = absurd (nothing Nil d (λ b h. h))
        new c e' i is (is_link lt d) =
            let h = link_has c e' b is lt (subst (λ (z : Cell). Leads w' z b) (same_Some e.1 (Cons e') (sym e.4 ∙ d)) e.5) in
            let l = plus_all old.rank size b in
            let g = rank_of b h in
            let k : rank_in (w a) a ≡ suc (all_plus old.rank size) = ap (λ (o : Option ℕ). rank_in o a) i in
            omega arith

        soft : (c : Cell) → decoded e.0 ≡ Some c → is_final_in (Some c) ≡ false → ⊥
        soft c d f = true≢false (sym e.3 ∙ ap is_final_in d ∙ f)

        was : (z : ℕ) → w a ≡ Some z → HangBecame entry n p places a z e.0 → rank_in (w b) b < rank_in (w a) a
        was z i (is_waiting h d) = absurd (soft (cell.Status (stand.Waiting n)) d refl)
        was z i (is_head h d) = absurd (soft (Unbound (entry a)) d refl)
        was z i (is_top t u h d) = absurd (soft (Top u) d refl)
        was z i (is_same h) =
            let stands : w a ≡ Some e.0 = i ∙ ap Some (sym h) in
            let l = leads_old e.0 b e.1 (closed.leads a e.0 stands) e.4 e.5 in
            let f : old.rank b < old.rank a = edge_falls w old a b (e.0, e.1, stands, e.3, e.4, l.0) in
            let x = rank_of a (e.0, stands) in
            let y = rank_of b l.1 in
            let here = plus_here old.rank size a (within a e.0 stands) in
            let most = plus_most old.rank size b in
            omega arith

        go : (o : Option ℕ) → w a ≡ o → rank_in (w b) b < rank_in (w a) a
        go None i = let r = (new_word entry n p places w w' laid reads has parent unbound) a e.0 i e.2 in new r.0 r.1 i r.3 r.4
        go (Some z) i = was z i ((became_as entry n p places w w' laid reads has parent unbound) a z e.0 i e.2)

    pub hang_falls : Falls w'
    hang_falls = record { rank = λ a. rank_in (w a) a; falls = falls' }

  -- a link after the hang leads where one could lead before
  module _ (closed : AreClosed (Stands w) w) where
    of_old : (a c x y m : ℕ) → w a ≡ Some x → decoded x ≡ Some (Cons c) → w' c ≡ Some y → decoded y ≡ Some (Raw m)
        → (w c ≡ Some y) × ((z : ℕ) × (w (c + 2) ≡ Some z) × (is_final_word z ≡ true))
    of_old a c x y m e d g h =
        let l = closed.leads a x e in
        let at = raw_old (Stands w) closed c y m (l.refers c (Cons c) d (inl refl)) g h in
        let z = l.refers_by c y m (c + 2) (Cons c) d refl at h (inr refl) in
        (at, (z.0, z.1, l.part_final_by c y m (c + 2) z.0 (Cons c) d refl at h refl z.1))

    of_new : (a e c y m : ℕ) → At w a (Unbound e) → 0 < e → e ≡ c → w' c ≡ Some y → decoded y ≡ Some (Raw m)
        → (w c ≡ Some y) × ((z : ℕ) × (w (c + 2) ≡ Some z) × (is_final_word z ≡ true))
    of_new a e c y m is lt q g h =
        let there = link_has_word (Stands w) closed a e c is lt (omega arith) (omega arith) in
        let z = link_has_word (Stands w) closed a e (c + 2) is lt (omega arith) (omega arith) in (
          raw_old (Stands w) closed c y m there g h,
          (z.0, z.1, link_final (Stands w) closed a e (c + 2) z.0 is lt (omega arith) (omega arith) z.1),
        )

    pub hang_link : (a c x y m : ℕ) → w' a ≡ Some x → is_final_word x ≡ true → decoded x ≡ Some (Cons c) → w' c ≡ Some y
        → decoded y ≡ Some (Raw m) → (w c ≡ Some y) × ((z : ℕ) × (w (c + 2) ≡ Some z) × (is_final_word z ≡ true))
    hang_link a c x y m e fin d g h = go (w a) refl
      where
        new : (b e' : ℕ) → At w b (Unbound e') → EntryWord n p e' x → (w c ≡ Some y)
            × ((z : ℕ) × (w (c + 2) ≡ Some z) × (is_final_word z ≡ true))
        new b e' is (is_process i) = let bad : Some (Raw p) ≡ Some (Cons c) = sym i ∙ d in cc
        new b e' is (is_number i) = let bad : Some (Small (pos n)) ≡ Some (Cons c) = sym i ∙ d in cc
        new b e' is (is_last i) = let bad : Some Nil ≡ Some (Cons c) = sym i ∙ d in cc
        new b e' is (is_link lt i) =
            let same : Some (Cons e') ≡ Some (Cons c) = sym i ∙ d in
            let q : e' ≡ c = cc in
            of_new b e' c y m is lt q g h

        soft : (u : Cell) → decoded x ≡ Some u → is_final_in (Some u) ≡ false → ⊥
        soft u i f = true≢false (sym fin ∙ ap is_final_in i ∙ f)

        was : (z : ℕ) → w a ≡ Some z → HangBecame entry n p places a z x → (w c ≡ Some y)
            × ((z : ℕ) × (w (c + 2) ≡ Some z) × (is_final_word z ≡ true))
        was z i (is_waiting j k) = absurd (soft (cell.Status (stand.Waiting n)) k refl)
        was z i (is_head j k) = absurd (soft (Unbound (entry a)) k refl)
        was z i (is_same j) = of_old a c x y m (i ∙ ap Some (sym j)) d g h
        was z i (is_top t u j k) = absurd (soft (Top u) k refl)

        go : (o : Option ℕ) → w a ≡ o → (w c ≡ Some y) × ((z : ℕ) × (w (c + 2) ≡ Some z) × (is_final_word z ≡ true))
        go None i = (let r = (new_word entry n p places w w' laid reads has parent unbound) a x i e in new r.0 r.1 r.3 r.4)
        go (Some z) i = was z i ((became_as entry n p places w w' laid reads has parent unbound) a z x i e)
