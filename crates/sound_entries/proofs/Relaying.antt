-- A commit that is laid has no cycle, since the trial's words have none.
use Rattle.std.proofs.Common.{◌≡◌, ◌⊎◌, ℕ, suc, ◌+◌, ◌-◌, ◌<◌, ◌≤◌, Bool, true, false, cond, List, [], ◌∷◌, length, refl, sym, ap, ◌∙◌}
use Rattle.std.proofs.Common.{subst, ⊎_elim, inl, inr, arith, true≢false, Option, Some, None}
use Rattle.std.specs.Prelude.{slice_get, nat_eq, if◌then◌else◌}
use Rattle.std.proofs.lemmas.Bool.{cond-false, eq-eqb, eqb-true, ne_eqb}
use Rattle.std.proofs.lemmas.Option.{same_Some}
use Rattle.heap_words.specs.Cells.{decoded, encoded, is_final_word, is_final_in}
use Rattle.heap_words.specs.Refers.{Refers, reaches_refers, reaches_by_refers, parts}
use Rattle.heap_words.specs.Trails.{WordList, word_at}
use Rattle.heap_words.specs.declared.cell.Cell.{Cell}
use Rattle.heap_words.specs.declared.cell.Cell.TheVariants.{Unbound, Ref, RoRef, Small, Wide, Str, Nil, Cons, Tuple, Raw, Top}
use Rattle.heap_words.specs.declared.cell.Cell.TheVariants as cell
use Rattle.heap_words.specs.declared.cell.Stand.TheVariants as stand
use Rattle.word_states.specs.Layouts.{moved_cell, moved_in, moved, name_word, CommitLaid}
use Rattle.word_states.specs.Led.{ReadsPlace, IsLed, LeadsOn, AreLed, ReadsStatus}
use Rattle.word_states.specs.Pieces.{rows, StartsAt, RefersOwn}
use Rattle.word_states.specs.Tame.{Leads, trial_words}
use Rattle.word_states.specs.Words.{Words, Among, over, first_of, IsIn, Has}
use Rattle.word_states.proofs.Lists.{among_word, word_among}
use Rattle.word_states.proofs.Pieces.{rows_in, zero_is, nine_is}
use Rattle.word_state_laws.proofs.LaidPieces.{becomes_moved, LaidAs, as_moved, as_place_name, as_free, as_status, as_process_name}
use Rattle.sound_entries.specs.Closed.{LeadsIn, AreClosed, Stands}
use Rattle.sound_entries.proofs.LaidCommits.{done_is, ready_is, Became, is_done, is_woken, is_bound, is_same, is_top, became_as, whole}
use Rattle.sound_entries.proofs.LaidCommits.{laid_final, new_at}
use Rattle.sound_entries.proofs.Closing.{raw_old, same_cell}
use Rattle.sound_entries.proofs.Known.{teller_refers, led_leads, moved_raw, name_small, get_of}
use Rattle.sound_entries.proofs.Ranking.{Falls}

-- the address from which f laid a word, where it laid one
abbrev pub back : (ℕ → ℕ) → WordList → ℕ → ℕ
back f [] a = a
back f (x ∷ xs) a = if nat_eq (f x.0) a then x.0 else back f xs a

back_own : (f : ℕ → ℕ) (xs : WordList) (b y : ℕ) → Among xs (b, y) → ((c z : ℕ) → Among xs (c, z) → f c ≡ f b → c ≡ b) → back f xs (f b) ≡ b
back_own f [] b y h g = absurd h
back_own f (x ∷ xs) b y h g = go (nat_eq (f x.0) (f b)) refl h (λ k. back_own f xs b y k (λ c z m e. g c z (inr m) e))
  where
    go : (t : Bool) → nat_eq (f x.0) (f b) ≡ t → (x ≡ (b, y)) ⊎ Among xs (b, y) → (Among xs (b, y) → back f xs (f b) ≡ b)
        → cond t x.0 (back f xs (f b)) ≡ b
    go true i k l = g x.0 x.1 (inl refl) (eqb-true (f x.0) (f b) i)
    go false i (inl k) l = absurd (true≢false (sym (eq-eqb (f x.0) (f b) (ap (λ (z : ℕ × ℕ). f z.0) k)) ∙ i))
    go false i (inr k) l = l k

back_old : (f : ℕ → ℕ) (xs : WordList) (a : ℕ) → ((c z : ℕ) → Among xs (c, z) → f c ≡ a → ⊥) → back f xs a ≡ a
back_old f [] a g = refl
back_old f (x ∷ xs) a g = cond-false _ _ _ (ne_eqb (f x.0) a (g x.0 x.1 (inl refl))) ∙ back_old f xs a (λ c z m e. g c z (inr m) e)

module _ (f : ℕ → ℕ) (n p : ℕ) (binds : WordList) (ps : List (List ℕ)) (wakes : List ℕ) (w w' : Words)
    (laid : CommitLaid f n p binds ps wakes w w') (reads : WordList) (led : AreLed reads binds ps)
    (closed : AreClosed (Stands w) w) (low : (a x : ℕ) → w a ≡ Some x → a < 4000000000) (has : (a x : ℕ) → Among reads (a, x)
    → w a ≡ Some x)
    (opened : (a x : ℕ) → word_at binds a ≡ Some x → (e : ℕ) × ReadsPlace reads a e)
    (parent : ReadsStatus reads p) (sleepers : (q : ℕ) → IsIn q wakes → ReadsStatus reads q) (trial : Falls (trial_words w binds ps))
    (not_own : (a : ℕ) → Has w a → word_at (rows 4000000000 ps) a ≡ None) where
  abbrev home : ℕ → ℕ
  home a = back f (rows 4000000000 ps) a

  home_own : (b y : ℕ) → word_at (rows 4000000000 ps) b ≡ Some y → back f (rows 4000000000 ps) (f b) ≡ b
  home_own b y e =
      back_own f (rows 4000000000 ps) b y (word_among (rows 4000000000 ps) b y e)
      (λ c z m g. let r = among_word (rows 4000000000 ps) c z m in laid.one c b r.0 y r.1 e g)

  home_old : (a : ℕ) → Has w a → back f (rows 4000000000 ps) a ≡ a
  home_old a h =
      back_old f (rows 4000000000 ps) a (λ c z m g. let r = among_word (rows 4000000000 ps) c z m in
      let bad : None ≡ Some h.0 = sym (laid.free c r.0 r.1) ∙ ap w g ∙ h.1 in cc)

  own_word : (v : Words) (b y : ℕ) → word_at (rows 4000000000 ps) b ≡ Some y → trial_words v binds ps b ≡ Some y
  own_word v b y e = ap (λ (o : Option ℕ). first_of o (over binds v b)) e

  store_word : (a : ℕ) → Has w a → word_at binds a ≡ None → trial_words w binds ps a ≡ w a
  store_word a h e = ap (λ (o : Option ℕ). first_of o (over binds w a)) (not_own a h) ∙ ap (λ (o : Option ℕ). first_of o (w a)) e

  bound_word : (a v : ℕ) → Has w a → word_at binds a ≡ Some v → trial_words w binds ps a ≡ Some v
  bound_word a v h e = ap (λ (o : Option ℕ). first_of o (over binds w a)) (not_own a h) ∙ ap (λ (o : Option ℕ). first_of o (w a)) e

  -- a word of the trial from which the cell c of a word after the commit was moved, and which leads to the store or to a piece
  pub record Source (a : ℕ) (c : Cell) : Type 0 where
    pub word : ℕ
    pub from : Cell
    pub here : trial_words w binds ps (back f (rows 4000000000 ps) a) ≡ Some word
    pub final : is_final_word word ≡ true
    pub says : decoded word ≡ Some from
    pub goes : c ≡ moved_cell f from
    pub leads : LeadsIn (Stands w) w word ⊎ RefersOwn ps from

  moved_from : (x : ℕ) (c : Cell) → decoded (moved f x) ≡ Some c → (d : Cell) × (decoded x ≡ Some d) × (c ≡ moved_cell f d)
  moved_from x c e = go (decoded x) refl
    where
      go : (o : Option Cell) → decoded x ≡ o → (d : Cell) × (decoded x ≡ Some d) × (c ≡ moved_cell f d)
      go None i = let bad : None ≡ Some c = sym i ∙ ap decoded (sym (ap (moved_in f x) i)) ∙ e in cc
      go (Some d) i = (d, i, same_Some c (moved_cell f d) (sym e ∙ becomes_moved f x d laid.small i))

  of_moved : (a x : ℕ) (c : Cell) → trial_words w binds ps (back f (rows 4000000000 ps) a) ≡ Some x → is_final_word x ≡ true
      → decoded (moved f x) ≡ Some c → LeadsOn reads ps x → Source a c
  of_moved a x c h fin e l =
      let r = moved_from x c e in
      record {
        word = x;
        from = r.0;
        here = h;
        final = fin;
        says = r.1;
        goes = r.2;
        leads =
            ⊎_elim (λ (k : IsLed reads x). inl (led_leads (Stands w) w closed reads has x k)) (λ (k : (d : Cell) × (decoded x ≡ Some d)
            × RefersOwn ps d). inr (subst (RefersOwn ps) (same_Some k.0 r.0 (sym k.1 ∙ r.1)) k.2)) l;
      }

  -- a final word after the commit refers to nothing, or has a source
  source : (a y : ℕ) (c : Cell) → w' a ≡ Some y → is_final_word y ≡ true → decoded y ≡ Some c → ((b : ℕ) → Refers c b → ⊥) ⊎ Source a c
  source a y c e fin d = go (w a) refl
    where
      soft : (x : ℕ) (u : Cell) → y ≡ x → decoded x ≡ Some u → is_final_in (Some u) ≡ false → ⊥
      soft x u i j k = true≢false (sym fin ∙ ap is_final_in (ap decoded i ∙ j) ∙ k)

      named : (k : ℕ) → y ≡ name_word n k → (b : ℕ) → Refers c b → ⊥
      named k i b r = let g = name_small n k c (ap decoded (sym i) ∙ d) in subst (λ (z : Cell). Refers z b) g.1 r

      piece : (s d' v k i : ℕ) (q : List ℕ) → a ≡ f (s + d') → word_at (rows 4000000000 ps) (s + d') ≡ Some v
          → StartsAt 4000000000 ps s q → slice_get q d' ≡ Some v → LaidAs f n k i q d' v y → ((b : ℕ) → Refers c b → ⊥) ⊎ Source a c
      piece s d' v k i q at r g j (as_moved final h) =
          let at_home : back f (rows 4000000000 ps) a ≡ s + d' = ap (back f (rows 4000000000 ps)) at ∙ home_own (s + d') v r in
          inr (of_moved a v c (ap (trial_words w binds ps) at_home ∙ own_word w (s + d') v r) final (ap decoded (sym h)
          ∙ d) (led.own (s + d') v r final))
      piece s d' v k i q at r g j (as_place_name h u l m) = inl (named k m)
      piece s d' v k i q at r g j (as_free h u l m) =
          absurd (soft (moved f 0) (Unbound 0) m (becomes_moved f 0 (Unbound 0) laid.small zero_is) refl)
      piece s d' v k i q at r g j (as_status h u l m) = absurd (soft 9 (cell.Status stand.Ready) m nine_is refl)
      piece s d' v k i q at r g j (as_process_name h u l m) = inl (named i m)

      old : (x : ℕ) → w a ≡ Some x → Became f p binds wakes w' a x y → ((b : ℕ) → Refers c b → ⊥) ⊎ Source a c
      old x i (is_done h j) = absurd (soft (encoded (cell.Status stand.Done)) (cell.Status stand.Done) j done_is refl)
      old x i (is_woken h j) = absurd (soft (encoded (cell.Status stand.Ready)) (cell.Status stand.Ready) j ready_is refl)
      old x i (is_bound v h j) =
          inr (of_moved a v c (ap (trial_words w binds ps) (home_old a (x, i))
          ∙ bound_word a v (x, i) h) (led.value a v h).0 (ap decoded (sym j) ∙ d) (led.bound a v h))
      old x i (is_same h j) =
          let stands : w a ≡ Some y = i ∙ ap Some (sym h) in
          let l : LeadsIn (Stands w) w y = closed.leads a y stands in
          inr (record {
            word = y;
            from = c;
            here = ap (trial_words w binds ps) (home_old a (x, i)) ∙ store_word a (x, i) j ∙ stands;
            final = fin;
            says = d;
            goes = sym (same_cell f n p binds ps wakes w w' laid reads led (Stands w) closed low has opened parent sleepers y c l d);
            leads = inl l;
          })
      old x i (is_top t u h j) = absurd (soft y (Top u) refl j refl)

      go : (o : Option ℕ) → w a ≡ o → ((b : ℕ) → Refers c b → ⊥) ⊎ Source a c
      go None i = let r = new_at f n p binds ps wakes w w' laid reads led a y i e in piece r.0 r.1 r.2 r.3 r.4 r.5 r.8 r.10 r.6 r.9 r.11
      go (Some x) i = old x i (became_as f n p binds ps wakes w w' laid a x y i e)

  piece_at : (s d b y b' : ℕ) (q : List ℕ) → StartsAt 4000000000 ps s q → slice_get q d ≡ Some y → d < length q → b ≡ s + d
      → b' ≡ f s + d → (word_at (rows 4000000000 ps) b ≡ Some y) × (b' ≡ f b)
  piece_at s d b y b' q h e lt at to = (
    ap (word_at (rows 4000000000 ps)) at ∙ rows_in 4000000000 s d y ps q h e,
    to
        ∙ sym (whole f n p binds ps wakes w w' laid s d q h lt) ∙ ap f (sym at),
  )

  -- the word at the head of a laid piece
  head_is : (a v t y : ℕ) (q : List ℕ) → StartsAt 4000000000 ps a (v ∷ q) → is_final_word v ≡ true → f a ≡ t → w' t ≡ Some y → y ≡ moved f v
  head_is a v t y q h fin e at =
      let to : f a + 0 ≡ t = omega arith in
      laid_final f n p binds ps wakes w w' laid reads led a 0 v y (v ∷ q) h refl (omega arith) fin (ap w' to ∙ at)

  -- where a word goes that refers to a piece
  abbrev Goes : Cell → ℕ → Type 0
  Goes d b' = (b y : ℕ) × (word_at (rows 4000000000 ps) b ≡ Some y) × (b' ≡ f b) × Leads (trial_words w binds ps) d b

  place_goes : (s x a b' : ℕ) → StartsAt 4000000000 ps s (0 ∷ x ∷ []) → a ≡ suc s → b' ≡ f a → (word_at (rows 4000000000 ps) a ≡ Some x)
      × (b' ≡ f a)
  place_goes s x a b' h e g =
      let one : a ≡ s + 1 = omega arith in
      let next : f a ≡ f s + 1 = ap f one ∙ whole f n p binds ps wakes w w' laid s 1 (0 ∷ x ∷ []) h (omega arith) in
      piece_at s 1 a x b' (0 ∷ x ∷ []) h refl (omega arith) one (g ∙ next)

  goes_own : (d : Cell) (b' : ℕ) → RefersOwn ps d → Leads w' (moved_cell f d) b' → Goes d b'
  goes_own (Unbound a) b' h r = absurd h
  goes_own (Ref a) b' h (inl r) = let z = place_goes h.0 h.1 a b' h.3 h.2 r in (a, h.1, z.0, z.1, inl refl)
  goes_own (Ref a) b' h (inr r) = absurd r.6
  goes_own (RoRef a) b' h (inl r) = let z = place_goes h.0 h.1 a b' h.3 h.2 r in (a, h.1, z.0, z.1, inl refl)
  goes_own (RoRef a) b' h (inr r) = absurd r.6
  goes_own (Small z) b' h r = absurd h
  goes_own (Wide a k) b' h (inl r) = absurd r
  goes_own (Wide a k) b' h (inr r) = absurd r.6
  goes_own (Str z) b' h r = absurd h
  goes_own Nil b' h r = absurd h
  goes_own (Cons a) b' h (inl r) = ⊎_elim
      (λ (e : b' ≡ f a). let z = piece_at a 0 a h.0 b' (h.0 ∷ h.1 ∷ []) h.2 refl (omega arith) (omega arith) (omega arith) in
      (a, h.0, z.0, z.1, inl (inl refl)))
      (λ (e : b' ≡ suc (f a)). let z = piece_at a 1 (suc a) h.1 b' (h.0 ∷ h.1 ∷ []) h.2 refl (omega arith) (omega arith) (omega arith) in
      (suc a, h.1, z.0, z.1, inl (inr refl)))
      r
  goes_own (Cons a) b' h (inr r) = absurd r.6
  goes_own (Tuple a) b' h (inl r) = absurd r
  goes_own (Tuple a) b' h (inr r) =
      let is = head_is a h.0 r.0 r.1 h.2 h.3 (ap is_final_in h.4) (same_Some (f a) r.0 r.3) r.4 in
      let says : decoded h.0 ≡ Some (Raw r.2) = moved_raw f h.0 r.2 laid.small (ap decoded (sym is) ∙ r.5) in
      let num : Raw h.1 ≡ Raw r.2 = same_Some _ _ (sym h.4 ∙ says) in
      let num' : h.1 ≡ r.2 = cc in
      let size : length h.2 ≡ parts r.2 = h.5 ∙ ap parts num' in
      let lo : f a < b' = r.6.0 in
      let hi : b' ≤ f a + parts r.2 = r.6.1 in
      let lt : b' - f a < suc (length h.2) = omega arith in
      let g = get_of (h.0 ∷ h.2) (b' - f a) lt in
      let z = piece_at a (b' - f a) (a + (b' - f a)) g.0 b' (h.0 ∷ h.2) h.3 g.1 lt refl (omega arith) in
      let zero' : a ≡ a + 0 = omega arith in
      let head : word_at (rows 4000000000 ps) a ≡ Some h.0 = ap (word_at (rows 4000000000 ps)) zero'
      ∙ rows_in 4000000000 a 0 h.0 ps (h.0 ∷ h.2) h.3 refl in
      (a + (b' - f a), g.0, z.0, z.1, inr (a, h.0, r.2, refl, own_word w a h.0 head, says, (omega arith, omega arith)))
  goes_own (cell.Status z) b' h r = absurd h
  goes_own (Raw z) b' h r = absurd h
  goes_own (Top z) b' h r = absurd h

  goes_store : (x b' : ℕ) (d : Cell) → LeadsIn (Stands w) w x → decoded x ≡ Some d → Leads w' d b' → Has w b'
      × Leads (trial_words w binds ps) d b'
  goes_store x b' d l e (inl r) = (l.refers b' d e (reaches_refers d b' r), inl r)
  goes_store x b' d l e (inr r) =
      let t = l.refers r.0 d e (teller_refers d r.0 r.3) in
      let k = raw_old f n p binds ps wakes w w' laid reads led (Stands w) closed low has opened parent sleepers r.0 r.1 r.2 t r.4 r.5 in (
        l.refers_by r.0 r.1 r.2 b' d e r.3 k.0 r.5 (reaches_by_refers r.2 d b' r.6),
        inr (r.0, r.1, r.2, r.3, store_word r.0 t k.1 ∙ k.0, r.5, r.6),
      )

  goes : (a b' : ℕ) (c : Cell) → Source a c → Leads w' c b'
      → trial.rank (back f (rows 4000000000 ps) b') < trial.rank (back f (rows 4000000000 ps) a)
  goes a b' c s l = ⊎_elim
      (λ (k : LeadsIn (Stands w) w s.word).
      let same : c ≡ s.from = s.goes
      ∙ same_cell f n p binds ps wakes w w' laid reads led (Stands w) closed low has opened parent sleepers s.word s.from k s.says in
      let g = goes_store s.word b' s.from k s.says (subst (λ (z : Cell). Leads w' z b') same l) in
      subst (λ (z : ℕ). trial.rank z < trial.rank (back f (rows 4000000000 ps) a)) (sym (home_old b' g.0))
      (trial.falls (back f (rows 4000000000 ps) a) b' (s.word, s.from, s.here, s.final, s.says, g.1)))
      (λ (k : RefersOwn ps s.from).
      let g = goes_own s.from b' k (subst (λ (z : Cell). Leads w' z b') s.goes l) in
      subst (λ (z : ℕ). trial.rank z < trial.rank (back f (rows 4000000000 ps) a)) (sym (ap (back f (rows 4000000000 ps)) g.3
      ∙ home_own g.0 g.1 g.2))
      (trial.falls (back f (rows 4000000000 ps) a) g.0 (s.word, s.from, s.here, s.final, s.says, g.4)))
      s.leads

  leads_somewhere : (c : Cell) (b' : ℕ) → Leads w' c b' → ((b : ℕ) → Refers c b → ⊥) → ⊥
  leads_somewhere c b' (inl r) f' = f' b' (reaches_refers c b' r)
  leads_somewhere c b' (inr r) f' = f' r.0 (teller_refers c r.0 r.3)

  pub commit_falls : Falls w'
  commit_falls = record {
    rank = λ a. trial.rank (back f (rows 4000000000 ps) a);
    falls = λ a b' e. ⊎_elim
        (λ (k : (b : ℕ) → Refers e.1 b → ⊥). absurd (leads_somewhere e.1 b' e.5 k))
        (λ (k : Source a e.1). goes a b' e.1 k e.5)
        (source a e.0 e.1 e.2 e.3 e.4);
  }

  -- a link after the commit leads where one could lead before
  pub commit_link : (a c x y m : ℕ) → w' a ≡ Some x → is_final_word x ≡ true → decoded x ≡ Some (Cons c) → w' c ≡ Some y
      → decoded y ≡ Some (Raw m) → (w c ≡ Some y) × ((z : ℕ) × (w (c + 2) ≡ Some z) × (is_final_word z ≡ true))
  commit_link a c x y m e fin d g h = ⊎_elim
      (λ (k : (b : ℕ) → Refers (Cons c) b → ⊥). absurd (k c (inl refl)))
      (λ (s : Source a (Cons c)). ⊎_elim (of_store s) (λ (k : RefersOwn ps s.from). absurd (of_piece s.from (sym s.goes) k)) s.leads)
      (source a x (Cons c) e fin d)
    where
      of_store : (s : Source a (Cons c)) → LeadsIn (Stands w) w s.word
          → (w c ≡ Some y) × ((z : ℕ) × (w (c + 2) ≡ Some z) × (is_final_word z ≡ true))
      of_store s l =
          let same : Cons c ≡ s.from =
          s.goes ∙ same_cell f n p binds ps wakes w w' laid reads led (Stands w) closed low has opened parent sleepers s.word s.from
          l s.says in
          let says : decoded s.word ≡ Some (Cons c) = s.says ∙ ap Some (sym same) in
          let there = l.refers c (Cons c) says (inl refl) in
          let at = (raw_old f n p binds ps wakes w w' laid reads led (Stands w) closed low has opened parent sleepers c y m there g h).0 in
          let z = l.refers_by c y m (c + 2) (Cons c) says refl at h (inr refl) in
          (at, (z.0, z.1, l.part_final_by c y m (c + 2) z.0 (Cons c) says refl at h refl z.1))

      of_piece : (d' : Cell) → moved_cell f d' ≡ Cons c → RefersOwn ps d' → ⊥
      of_piece (Cons b) q k =
          let to : f b ≡ c = cc in
          k.4 m (moved_raw f k.0 m laid.small (ap decoded (sym (head_is b k.0 c y (k.1 ∷ []) k.2 k.3 to g)) ∙ h))
      of_piece (Unbound b) q k = k
      of_piece (Ref b) q k = cc
      of_piece (RoRef b) q k = cc
      of_piece (Small z) q k = k
      of_piece (Wide b u) q k = cc
      of_piece (Str z) q k = k
      of_piece Nil q k = k
      of_piece (Tuple b) q k = cc
      of_piece (cell.Status z) q k = k
      of_piece (Raw z) q k = k
      of_piece (Top z) q k = k
