-- What a safe try hands over at a commit is sound by what was kept.
use Rattle.std.proofs.Common.{◌≡◌, ℕ, suc, ◌+◌, ◌<◌, ◌≤◌, Bool, true, false, cond, List, [], ◌∷◌, length, refl, sym, ap, ◌∙◌, subst, ⊎_elim}
use Rattle.std.proofs.Common.{inl, inr, arith, Option, Some, None}
use Rattle.std.specs.Prelude.{slice_get, nat_eq, unwrap_or}
use Rattle.std.proofs.lemmas.Bool.{cases_lt}
use Rattle.std.proofs.lemmas.Option.{same_Some}
use Rattle.heap_words.specs.Cells.{decoded, encoded, is_final_in}
use Rattle.heap_words.specs.Trails.{WordList, word_at, AreOnce, Holds}
use Rattle.heap_words.specs.WordsLaws.{WordsLaws}
use Rattle.heap_words.specs.declared.cell.Cell.TheVariants.{Unbound, Ref}
use Rattle.heap_words.proofs.Encodings.{decoded_encoded}
use Rattle.ro_unify.specs.Walks.{first_some}
use Rattle.word_states.specs.Words.{first_of, Among}
use Rattle.word_states.specs.Pieces.{rows, StartsAt, RefersOwn}
use Rattle.word_states.specs.Led.{was_read, of_known, LeadsOn, ReadsPlace}
use Rattle.word_states.specs.Tame.{trial_words, IsTame}
use Rattle.word_states.specs.Trials.{IsReadCommit}
use Rattle.word_states.proofs.Lists.{get_of, among_word, word_among}
use Rattle.word_states.proofs.Pieces.{in_rows, rows_in}
use Rattle.machine_code.specs.Fresh.{Tops}
use Rattle.trial_laws.specs.AtHand.{AtHand}
use Rattle.trial_laws.specs.Endings.{settled_piece, settled, of_store}
use Rattle.trial_laws.specs.Leading.{IsTermWord}
use Rattle.trial_laws.proofs.Pieces.{none_low}
use Rattle.trial_laws.proofs.Seen.{own_below}
use Rattle.trial_laws.proofs.LedEnds.{led_commit}
use Rattle.trial_laws.proofs.Settling.{starts_on, starts_back, get_settled, in_store, store_low}
use Rattle.tame_commits.specs.Settled.{bound_seen, IsSettled}
use Rattle.tame_commits.proofs.Settling.{settled_tame}
use Rattle.beside_words.specs.Besides.{own_at, HadBeside, LeadsBeside}
use Rattle.beside_words.specs.BesideLaws.{pair_laws}
use Rattle.safe_tries.specs.Safe.{IsSafe, SawOpen, own_words}
use Rattle.safe_tries.specs.Stored.{IsStored}
use Rattle.stored_tries.specs.Calls.{MayCall}
use Rattle.stored_tries.proofs.Lists.{once_apart, once_word, store_apart}
use Rattle.stored_tries.proofs.Stores.{known_low}
use Rattle.stored_tries.proofs.Leading.{known}
use Rattle.stored_tries.proofs.Joined.{joined, joined_own}
use Rattle.stored_tries.proofs.Calling.{same_words, may_call}
use Rattle.stored_tries.proofs.Handing.{reads_of}

same_length : (bs : WordList) (s : ℕ) (p : List ℕ) → length (settled_piece bs s p) ≡ length p
same_length bs s [] = refl
same_length bs s (x ∷ []) = refl
same_length bs s (x ∷ y ∷ []) = go (nat_eq x 0)
  where
    go : (b : Bool) → length (cond b (x ∷ unwrap_or (word_at bs (suc s)) y ∷ []) (x ∷ y ∷ [])) ≡ 2
    go true = refl
    go false = refl
same_length bs s (x ∷ y ∷ z ∷ zs) = refl

module _ {S : Type 0} {addresses : S → ℕ} {sound : S → Type 0} {knows : S → ℕ → Type 0} {had : S → ℕ → ℕ → Type 0} {leads : S → ℕ → Type 0}
    {own shown : S → ℕ → Option ℕ} {later : S → S → Type 0} {gave : S → S → ℕ → ℕ → Type 0}
    (laws : WordsLaws {S = S} addresses sound knows had leads own shown later gave) (kept : WordList) (w : S) (r : AtHand) (τ : Tops)
    (released : ℕ) (stored : IsStored addresses sound had shown later kept w) (safe : IsSafe kept r τ released)
    (binds_once : AreOnce r.binds) (once : AreOnce kept) (terms : (a x : ℕ) → word_at r.binds a ≡ Some x → IsTermWord x) where
  abbrev ps : List (List ℕ)
  ps = settled r.binds 4000000000 r.pieces

  abbrev binds : WordList
  binds = of_store r.binds

  -- a place is bound where an unbound word was seen
  pub own_word : (a x : ℕ) → 4000000000 ≤ a → word_at r.binds a ≡ Some x → (y e : ℕ) × (own_words r.pieces a ≡ Some y)
      × (decoded y ≡ Some (Unbound e))
  own_word a x l e = go (word_at kept a) refl (safe.bound_open a x e)
    where
      go : (o : Option ℕ) → word_at kept a ≡ o → SawOpen kept r a → (y e : ℕ) × (own_words r.pieces a ≡ Some y)
          × (decoded y ≡ Some (Unbound e))
      go (Some z) i k = absurd (let f = safe.below a z i in omega arith)
      go None i k = (k.0, k.1, sym (ap (λ (o : Option ℕ). first_some o (own_words r.pieces a)) i) ∙ k.2, k.3)

  kept_word : (a x : ℕ) → a < 4000000000 → word_at r.binds a ≡ Some x → (y e : ℕ) × (word_at kept a ≡ Some y)
      × (decoded y ≡ Some (Unbound e))
  kept_word a x l e = go (word_at kept a) refl (safe.bound_open a x e)
    where
      go : (o : Option ℕ) → word_at kept a ≡ o → SawOpen kept r a → (y e : ℕ) × (word_at kept a ≡ Some y) × (decoded y ≡ Some (Unbound e))
      go (Some z) i k = (k.0, k.1, i ∙ (sym (ap (λ (o : Option ℕ). first_some o (own_words r.pieces a)) i) ∙ k.2), k.3)
      go None i k = absurd (let f : None ≡ Some k.0 = sym (none_low r.pieces a l)
          ∙ (sym (ap (λ (o : Option ℕ). first_some o (own_words r.pieces a)) i) ∙ k.2) in cc)

  -- a bound place that is an own one is the place of a piece
  pub own_place : (a x : ℕ) → 4000000000 ≤ a → word_at r.binds a ≡ Some x → (s v : ℕ) × (a ≡ suc s)
      × StartsAt 4000000000 r.pieces s (0 ∷ v ∷ [])
  own_place a x l e = go (safe.led.places a x e).0
    where
      small : a < 0x100000000
      small = let k = own_word a x l e in own_below r.pieces safe.led.pieces a k.0 k.2

      is : decoded (encoded (Ref a)) ≡ Some (Ref a)
      is = decoded_encoded (Ref a) small

      of_known_low : (b : ℕ) → knows w b → b < 4000000000
      of_known_low b k = known_low laws kept w b stored.sound stored.few k

      go : LeadsOn kept r.pieces (encoded (Ref a)) → (s v : ℕ) × (a ≡ suc s) × StartsAt 4000000000 r.pieces s (0 ∷ v ∷ [])
      go (inl (was_read b m)) =
          let k = safe.low.refers b a (encoded (Ref a)) (Ref a) (once_word kept once b _ m) is (inl refl) in absurd (omega arith)
      go (inl (of_known h)) =
          let k = of_known_low a (known laws kept w stored once a ((h (Ref a) is).2 a (inl refl))) in absurd (omega arith)
      go (inr h) = subst (RefersOwn r.pieces) (same_Some _ _ (sym h.1 ∙ is)) h.2

  -- the words of the settled pieces
  filled : (a x : ℕ) → 4000000000 ≤ a → word_at r.binds a ≡ Some x → word_at (rows 4000000000 ps) a ≡ Some x
  filled a x l e =
      let p = own_place a x l e in
      let at : word_at r.binds (suc p.0) ≡ Some x = subst (λ (c : ℕ). word_at r.binds c ≡ Some x) p.2 e in
      let word : slice_get (settled_piece r.binds p.0 (0 ∷ p.1 ∷ [])) 1 ≡ Some x = ap (λ (o : Option ℕ). Some (unwrap_or o p.1)) at in
      let here : word_at (rows 4000000000 ps) (p.0 + 1) ≡ Some x =
      rows_in 4000000000 p.0 1 x ps _ (starts_on r.binds 4000000000 r.pieces p.0 (0 ∷ p.1 ∷ []) p.3) word in
      ap (word_at (rows 4000000000 ps)) (let q : a ≡ suc p.0 = p.2 in let g : a ≡ p.0 + 1 = omega arith in g) ∙ here

  left_word : (a y : ℕ) → word_at r.binds a ≡ None → own_words r.pieces a ≡ Some y → word_at (rows 4000000000 ps) a ≡ Some y
  left_word a y n e =
      let q = in_rows 4000000000 a y r.pieces e in
      ap (word_at (rows 4000000000 ps)) q.5
      ∙ rows_in 4000000000 q.0 q.1 y ps _ (starts_on r.binds 4000000000 r.pieces q.0 q.2 q.3)
      (get_settled r.binds q.0 q.2 q.1 y q.6 (subst (λ (c : ℕ). word_at r.binds c ≡ None) q.5 n))

  left_none : (a : ℕ) → own_words r.pieces a ≡ None → word_at (rows 4000000000 ps) a ≡ None
  left_none a e = go (word_at (rows 4000000000 ps) a) refl
    where
      go : (o : Option ℕ) → word_at (rows 4000000000 ps) a ≡ o → word_at (rows 4000000000 ps) a ≡ None
      go None i = i
      go (Some z) i =
          let q = in_rows 4000000000 a z ps i in
          let b = starts_back r.binds 4000000000 r.pieces q.0 q.2 q.3 in
          let size : length q.2 ≡ length b.0 = ap length b.2 ∙ same_length r.binds q.0 b.0 in
          let d : q.1 < length q.2 = q.4 in
          let g = get_of b.0 q.1 (omega arith) in
          let there : word_at (rows 4000000000 r.pieces) (q.0 + q.1) ≡ Some g.0 = rows_in 4000000000 q.0 q.1 g.0 r.pieces b.0 b.1 g.1 in
          absurd (let f : None ≡ Some g.0 = sym e ∙ (ap (word_at (rows 4000000000 r.pieces)) q.5 ∙ there) in cc)

  own_same : (a : ℕ) → 4000000000 ≤ a → word_at (rows 4000000000 ps) a ≡ first_some (word_at r.binds a) (own_words r.pieces a)
  own_same a l = go (word_at r.binds a) refl (own_words r.pieces a) refl
    where
      go : (o : Option ℕ) → word_at r.binds a ≡ o → (q : Option ℕ) → own_words r.pieces a ≡ q
          → word_at (rows 4000000000 ps) a ≡ first_some (word_at r.binds a) (own_words r.pieces a)
      go (Some x) i q j = filled a x l i ∙ sym (ap (λ (o : Option ℕ). first_some o (own_words r.pieces a)) i)
      go None i (Some y) j = left_word a y i j ∙ sym (ap (λ (o : Option ℕ). first_some o (own_words r.pieces a)) i ∙ j)
      go None i None j = left_none a j ∙ sym (ap (λ (o : Option ℕ). first_some o (own_words r.pieces a)) i ∙ j)

  no_kept : (a : ℕ) → 4000000000 ≤ a → word_at kept a ≡ None
  no_kept a l = go (word_at kept a) refl
    where
      go : (o : Option ℕ) → word_at kept a ≡ o → word_at kept a ≡ None
      go None i = i
      go (Some z) i = absurd (let f = safe.below a z i in omega arith)

  no_bind : (a : ℕ) → 4000000000 ≤ a → word_at binds a ≡ None
  no_bind a l = go (word_at binds a) refl
    where
      go : (o : Option ℕ) → word_at binds a ≡ o → word_at binds a ≡ None
      go None i = i
      go (Some z) i = absurd (let f = store_low r.binds a z i in omega arith)

  -- the settled words are those that were seen under the bindings
  same : (a : ℕ) → trial_words (word_at kept) binds ps a ≡ bound_seen r.binds kept (own_words r.pieces) a
  same a = ⊎_elim low high (cases_lt a 4000000000)
    where
      both : (o q : Option ℕ) → first_of o q ≡ first_some o (first_some q None)
      both (Some x) q = refl
      both None (Some y) = refl
      both None None = refl

      low : a < 4000000000 → trial_words (word_at kept) binds ps a ≡ bound_seen r.binds kept (own_words r.pieces) a
      low l =
          ap (λ (o : Option ℕ). first_of o (first_of (word_at binds a) (word_at kept a))) (none_low ps a l)
          ∙ (ap (λ (o : Option ℕ). first_of o (word_at kept a)) (in_store r.binds a l)
          ∙ (both (word_at r.binds a) (word_at kept a)
          ∙ ap (λ (o : Option ℕ). first_some (word_at r.binds a) (first_some (word_at kept a) o)) (sym (none_low r.pieces a l))))

      alone : (o : Option ℕ) → first_of o None ≡ o
      alone None = refl
      alone (Some x) = refl

      high : 4000000000 ≤ a → trial_words (word_at kept) binds ps a ≡ bound_seen r.binds kept (own_words r.pieces) a
      high l =
          ap (λ (o : Option ℕ). first_of (word_at (rows 4000000000 ps) a) (first_of o (word_at kept a))) (no_bind a l)
          ∙ (ap (λ (o : Option ℕ). first_of (word_at (rows 4000000000 ps) a) o) (no_kept a l)
          ∙ (alone (word_at (rows 4000000000 ps) a)
          ∙ (own_same a l
          ∙ ap (λ (o : Option ℕ). first_some (word_at r.binds a) (first_some o (own_words r.pieces a))) (sym (no_kept a l)))))

  fewer : (a x : ℕ) → word_at binds a ≡ Some x → word_at r.binds a ≡ Some x
  fewer a x e = sym (in_store r.binds a (store_low r.binds a x e)) ∙ e

  is_settled : IsSettled kept r.binds (own_words r.pieces) binds ps
  is_settled = record {
    value = λ a x n e. (terms a x e).1 n;
    opened = λ a x e. let k = safe.bound_open a x e in (k.0, k.2, ap is_final_in k.3);
    same = same;
    fewer = fewer;
  }

  abbrev ws : List ℕ
  ws = joined r.pieces

  asked : MayCall addresses sound knows had leads shown later kept r w ws
  asked = may_call laws kept r τ released w ws stored once safe (joined_own r.pieces)

  holds : Holds {S = S × List ℕ} (λ b a x. HadBeside had b.0 b.1 a x) (λ b x. LeadsBeside knows leads b.0 b.1 x) kept r.binds (w, ws)
  holds = record { kept_had = asked.kept_had; kept_below = asked.kept_below; bound_leads = asked.bound }

  tame : IsTame kept binds ps
  tame = settled_tame (pair_laws laws) kept r.binds (w, ws) (4000000000 + length ws) asked.sound holds asked.tame is_settled'.value
      is_settled'.opened binds ps is_settled'
    where
      is_settled' : IsSettled kept r.binds (own_at ws) binds ps
      is_settled' = subst (λ (f : ℕ → Option ℕ). IsSettled kept r.binds f binds ps) (sym (same_words r.pieces ws (joined_own r.pieces)))
          is_settled

  -- what is bound in the store was read unbound
  opened : (a x : ℕ) → Among binds (a, x) → (e : ℕ) × ReadsPlace kept a e
  opened a x m =
      let k = among_word binds a x m in
      let o = kept_word a k.0 (store_low r.binds a k.0 k.1) (fewer a k.0 k.1) in
      (o.1, (o.0, word_among kept a o.0 o.2, o.3))

  pub commit : IsReadCommit kept binds ps
  commit = record {
    led = led_commit kept r safe.led terms;
    tame = tame;
    reads = reads_of kept once safe.below;
    apart = store_apart r.binds (once_apart r.binds binds_once);
    opened = opened;
  }
