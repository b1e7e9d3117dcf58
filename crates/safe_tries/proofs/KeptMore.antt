-- What was safe is safe after more was kept: a walk along what is new stays in the store.
use Rattle.std.proofs.Common.{◌≡◌, ◌⊎◌, ℕ, suc, ◌+◌, ◌<◌, ◌≤◌, Bool, true, false, List, [], ◌∷◌, refl, sym, ap, ◌∙◌, subst}
use Rattle.std.proofs.Common.{inl, inr, ⊎_elim, arith, Option, Some, None}
use Rattle.std.specs.Prelude.{slice_get, unwrap_or, max}
use Rattle.std.proofs.lemmas.Option.{same_Some}
use Rattle.heap_words.specs.Cells.{decoded, is_final_word, is_final_in}
use Rattle.heap_words.specs.Trails.{WordList, Memory, AreOnce, word_at}
use Rattle.heap_words.specs.declared.cell.Cell.TheVariants.{Tuple}
use Rattle.ro_unify.specs.declared.occurrence.Whole.{Whole}
use Rattle.ro_unify.specs.declared.occurrence.Whole.TheVariants as whole
use Rattle.ro_unify.specs.Value.{leads_on}
use Rattle.ro_unify.specs.Occurs.{whole_of, count_of}
use Rattle.ro_unify.specs.Walks.{first_some, seen_at, seen_memory, Node, place, part, count, address, IsPlaceOf, IsPartOf, IsCountOf}
use Rattle.ro_unify.specs.Walks.{Goes, Edge}
use Rattle.ro_unify.proofs.Leads.{place_stands, is_pair, is_tuple_at}
use Rattle.ro_unify.proofs.Seeing.{nil_goes}
use Rattle.word_states.specs.Words.{Among}
use Rattle.word_states.specs.Pieces.{rows, RefersOwn}
use Rattle.word_states.specs.Led.{LeadsOn, was_read, of_known}
use Rattle.word_states.proofs.Lists.{word_among, among_word}
use Rattle.word_states.proofs.Pieces.{rows_above, starts_above}
use Rattle.trial_laws.proofs.LedPieces.{led_by_more}
use Rattle.safe_tries.specs.Safe.{StayLow, SawOpen, own_words}
use Rattle.safe_tries.specs.Loads.{SafeMore}
use Rattle.safe_tries.proofs.Steps.{end_above, none_kept, kept_low}

-- where a word stands in a list
position : (ws : WordList) (z : ℕ × ℕ) → Among ws z → (i : ℕ) × (slice_get ws i ≡ Some z)
position [] z h = absurd h
position (y ∷ ys) z (inl e) = (0, ap (λ (x : ℕ × ℕ). Some x) e)
position (y ∷ ys) z (inr h) = let r = position ys z h in (suc r.0, r.1)

-- a word of a list that has each address once is the word at its address
pub once_word : (ws : WordList) → AreOnce ws → (a x : ℕ) → Among ws (a, x) → word_at ws a ≡ Some x
once_word ws once a x h =
    let q = among_word ws a x h in
    let i = position ws (a, x) h in
    let j = position ws (a, q.0) (word_among ws a q.0 q.1) in
    let e : i.0 ≡ j.0 = once i.0 j.0 a x q.0 i.1 j.1 in
    let f : (a, x) ≡ (a, q.0) = same_Some _ _ (sym i.1 ∙ (ap (λ (k : ℕ). slice_get ws k) e ∙ j.1)) in
    q.1 ∙ ap (λ (z : ℕ × ℕ). Some z.1) (sym f)

-- a word from which a walk goes on is final
pub goes_final : (m : Memory) (x : ℕ) (b : Node) → Goes m x b → is_final_word x ≡ true
goes_final m x (place q) r = go (leads_on false (decoded x)) refl r
  where
    go : (o : Option (Bool × ℕ)) → leads_on false (decoded x) ≡ o → IsPlaceOf o q → is_final_word x ≡ true
    go (Some p) f i = (place_stands (decoded x) false p.0 p.1 f).final
    go None f i = absurd i
goes_final m x (part q) r = go (whole_of (decoded x)) refl r
  where
    go : (o : Whole) → whole_of (decoded x) ≡ o → IsPartOf m o q → is_final_word x ≡ true
    go whole.Atom f i = absurd i
    go (whole.Pair a) f i = ap is_final_in (is_pair (decoded x) a f)
    go (whole.Tuple a) f i = ap is_final_in (is_tuple_at (decoded x) a f)
goes_final m x (count q) r = go (whole_of (decoded x)) refl r
  where
    go : (o : Whole) → whole_of (decoded x) ≡ o → IsCountOf o q → is_final_word x ≡ true
    go whole.Atom f i = absurd i
    go (whole.Pair a) f i = absurd i
    go (whole.Tuple a) f i = ap is_final_in (is_tuple_at (decoded x) a f)

-- the words of two lists and of the same pieces, where the second list has those of the first, and none but the store's
module _ (kept kept' : WordList) (ps : List (List ℕ)) (once : AreOnce kept)
    (grows : (a x : ℕ) → word_at kept a ≡ Some x → word_at kept' a ≡ Some x)
    (below : (a x : ℕ) → word_at kept' a ≡ Some x → a < 4000000000) (low : StayLow (word_at kept')) where
  abbrev m : Memory
  m = seen_memory kept (own_words ps)

  abbrev m' : Memory
  m' = seen_memory kept' (own_words ps)

  none_before : (a : ℕ) → word_at kept' a ≡ None → word_at kept a ≡ None
  none_before a e = go (word_at kept a) refl
    where
      go : (o : Option ℕ) → word_at kept a ≡ o → word_at kept a ≡ None
      go None f = f
      go (Some x) f = absurd (let k : Some x ≡ None = sym (grows a x f) ∙ e in cc)

  -- where the second list has no word, what was seen is the same
  same_none : (a : ℕ) → word_at kept' a ≡ None → m' a ≡ m a
  same_none a e =
      ap (λ (o : Option ℕ). unwrap_or (first_some o (own_words ps a)) 6) e
      ∙ sym (ap (λ (o : Option ℕ). unwrap_or (first_some o (own_words ps a)) 6) (none_before a e))

  kept_word : (a x : ℕ) → word_at kept' a ≡ Some x → m' a ≡ x
  kept_word a x e = ap (λ (o : Option ℕ). unwrap_or (first_some o (own_words ps a)) 6) e

  -- a word that leads on goes on as before, or in the store
  pub more_goes : (x : ℕ) (b : Node) → LeadsOn kept ps x → Goes (seen_memory kept' (own_words ps)) x b
      → Goes (seen_memory kept (own_words ps)) x b ⊎ (address b < 4000000000)
  more_goes x (place q) l r = inl r
  more_goes x (count q) l r = inl r
  more_goes x (part q) l r = go (whole_of (decoded x)) refl r
    where
      tuple : (c : ℕ) → decoded x ≡ Some (Tuple c) → (c < q) × (q ≤ c + count_of (decoded (m' c))) → LeadsOn kept ps x
          → ((c < q) × (q ≤ c + count_of (decoded (m c)))) ⊎ (q < 4000000000)
      tuple c e i (inl (was_read a h)) = inr (kept_low kept' ps low a x (part q) (grows a x (once_word kept once a x h)) r)
      tuple c e i (inl (of_known h)) = absurd (let k : Some c ≡ None = (h (Tuple c) e).0 in cc)
      tuple c e i (inr h) =
          let k : RefersOwn ps (Tuple c) = subst (RefersOwn ps) (same_Some _ _ (sym h.1 ∙ e)) h.2 in
          let s = same_none c (none_kept kept' below c (starts_above 4000000000 ps c _ k.3)) in
          inl (i.0, subst (λ (y : ℕ). q ≤ c + count_of (decoded y)) s i.1)

      go : (o : Whole) → whole_of (decoded x) ≡ o → IsPartOf m' o q → IsPartOf m o q ⊎ (q < 4000000000)
      go whole.Atom e i = absurd i
      go (whole.Pair c) e i = inl i
      go (whole.Tuple c) e i = tuple c (is_tuple_at (decoded x) c e) i l

  module _ (bs : WordList) (bound : (a x : ℕ) → word_at bs a ≡ Some x → LeadsOn kept ps x)
      (own : (a x : ℕ) → word_at (rows 4000000000 ps) a ≡ Some x → is_final_word x ≡ true → LeadsOn kept ps x) where
    word_goes : (a : ℕ) (b : Node) → Goes m' (m' a) b → Goes m (m a) b ⊎ (address b < 4000000000)
    word_goes a b r = go (word_at kept' a) refl
      where
        of_own : word_at kept' a ≡ None → (o : Option ℕ) → own_words ps a ≡ o → Goes m (m a) b ⊎ (address b < 4000000000)
        of_own e None f = absurd (nil_goes m' b (subst (λ (y : ℕ). Goes m' y b) (same_none a e
            ∙ (ap (λ (o : Option ℕ). unwrap_or (first_some o (own_words ps a)) 6) (none_before a e)
            ∙ ap (λ (o : Option ℕ). unwrap_or o 6) f)) r))
        of_own e (Some x) f =
            let s : m a ≡ x = ap (λ (o : Option ℕ). unwrap_or (first_some o (own_words ps a)) 6) (none_before a e)
            ∙ ap (λ (o : Option ℕ). unwrap_or o 6) f in
            let g : Goes m' x b = subst (λ (y : ℕ). Goes m' y b) (same_none a e ∙ s) r in
            ⊎_elim (λ k. inl (subst (λ (y : ℕ). Goes m y b) (sym s) k)) (λ k. inr k) (more_goes x b (own a x f (goes_final m' x b g)) g)

        go : (o : Option ℕ) → word_at kept' a ≡ o → Goes m (m a) b ⊎ (address b < 4000000000)
        go (Some x) e = inr (kept_low kept' ps low a x b e (subst (λ (y : ℕ). Goes m' y b) (kept_word a x e) r))
        go None e = of_own e (own_words ps a) refl

    -- each step of a walk is one as before, or leads into the store
    pub more_edges : (a b : Node) → Edge bs (seen_memory kept' (own_words ps)) a b
        → Edge bs (seen_memory kept (own_words ps)) a b ⊎ (address b < 4000000000)
    more_edges (place a) b r = go (word_at bs a) refl r
      where
        go : (o : Option ℕ) → word_at bs a ≡ o → Goes m' (unwrap_or o (m' a)) b → Goes m (unwrap_or o (m a)) b ⊎ (address b < 4000000000)
        go (Some x) e g = more_goes x b (bound a x e) g
        go None e g = word_goes a b g
    more_edges (part a) b r = word_goes a b r
    more_edges (count a) b r = absurd (nil_goes m' b r)

  -- what was seen still is
  pub seen_more : (a x : ℕ) → seen_at kept (own_words ps) a ≡ Some x → seen_at kept' (own_words ps) a ≡ Some x
  seen_more a x e = go (word_at kept a) refl
    where
      go : (o : Option ℕ) → word_at kept a ≡ o → seen_at kept' (own_words ps) a ≡ Some x
      go (Some y) f =
          let g : Some y ≡ Some x = sym (ap (λ (o : Option ℕ). first_some o (own_words ps a)) f) ∙ e in
          ap (λ (o : Option ℕ). first_some o (own_words ps a)) (grows a x (f ∙ g))
      go None f =
          let g : own_words ps a ≡ Some x = sym (ap (λ (o : Option ℕ). first_some o (own_words ps a)) f) ∙ e in
          ap (λ (o : Option ℕ). first_some o (own_words ps a)) (none_kept kept' below a (rows_above 4000000000 a x ps g)) ∙ g

pub safe_more : SafeMore
safe_more kept r τ released h kept' k = record {
  below = k.below;
  low = k.low;
  led = led_by_more kept r h.led kept'
      (λ z i. word_among kept' z.0 z.1 (k.grows z.0 z.1 (once_word kept k.once z.0 z.1 i)));
  tame = k.tame;
  topped = record {
    high = h.topped.high;
    store = h.topped.store;
    place = h.topped.place;
    climbs = λ a b e. ⊎_elim (λ o. h.topped.climbs a b o) (λ l. stored b (h.topped.high (address a)) l)
        (more_edges kept kept' r.pieces k.once k.grows k.below k.low r.binds h.led.bound h.led.own a b e);
    slots = λ i b g. ⊎_elim (λ o. h.topped.slots i b o) (λ l. stored b (τ i) l)
        (more_goes kept kept' r.pieces k.once k.grows k.below k.low (r.slots i) b (h.led.slots i) g);
    near = λ i b g. ⊎_elim (λ o. h.topped.near i b o)
        (λ l. let z = end_above 4000000000 r.pieces in omega (arith, z, l))
        (more_goes kept kept' r.pieces k.once k.grows k.below k.low (r.slots i) b (h.led.slots i) g);
    bound = h.topped.bound;
    unfilled = h.topped.unfilled;
  };
  bound_open = λ a x e. open_more a (h.bound_open a x e);
  read_open = λ a i l. open_more a (h.read_open a i l);
  waits_open = λ a i. let o = h.waits_open a i in (o.0, o.1, k.grows a o.0 o.2, o.3);
  waits_apart = h.waits_apart;
}
  where
    stored : (b : Node) (t : ℕ) → address b < 4000000000 → h.topped.high (address b) ≤ max t released
    stored b t l = let s = h.topped.store (address b) l in omega (arith, s)

    open_more : (a : ℕ) → SawOpen kept r a → SawOpen kept' r a
    open_more a o = (o.0, o.1, seen_more kept kept' r.pieces k.once k.grows k.below k.low a o.0 o.2, o.3)
