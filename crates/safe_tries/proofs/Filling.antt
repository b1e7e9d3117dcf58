-- The law of the instruction that binds a variable at its first occurrence: the variable is above all that is behind the slot's term.
use Rattle.std.proofs.Common.{◌≡◌, ◌⊎◌, ℕ, zero, suc, ◌+◌, ◌<◌, ◌≤◌, max, Bool, true, false, cond, List, [], ◌∷◌}
use Rattle.std.proofs.Common.{refl, sym, ap, ◌∙◌, subst, inl, inr, ⊎_elim, arith, true≢false, Option, Some, None}
use Rattle.std.specs.Prelude.{◌&&◌, slice_get, nat_lt, unwrap_or}
use Rattle.std.proofs.lemmas.Bool.{lt-ltb, le-ltb, ltb-true, ltb-false, cond-true, cond-false}
use Rattle.fcp_model.specs.Places.{own}
use Rattle.heap_words.specs.Cells.{decoded}
use Rattle.heap_words.specs.Trails.{WordList, Memory, word_at}
use Rattle.heap_words.specs.declared.cell.Cell.TheVariants.{Raw}
use Rattle.ro_unify.specs.Occurs.{count_of}
use Rattle.ro_unify.specs.Walks.{first_some, seen_at, IsSeen, Node, place, part, count, address, node_word, Goes, Edge, Tame}
use Rattle.ro_unify.proofs.Leads.{is_raw}
use Rattle.ro_unify.proofs.Seeing.{nil_goes}
use Rattle.word_states.specs.Denoting.{Listed}
use Rattle.word_states.specs.Pieces.{StartsAt, place_words, numbered}
use Rattle.word_states.proofs.Lists.{nat_same}
use Rattle.word_states.proofs.Pieces.{in_rows, rows_in, starts_above, zero_is}
use Rattle.machine_code.specs.Fresh.{Tops}
use Rattle.trial_laws.specs.AtHand.{AtHand, term_word, end_of}
use Rattle.trial_laws.specs.Laws.{IsFilled}
use Rattle.trial_laws.proofs.Pieces.{starts_once, not_empty}
use Rattle.trial_laws.proofs.LedPieces.{slot_leads}
use Rattle.trial_laws.proofs.LedLaws.{led_first}
use Rattle.safe_tries.specs.Safe.{own_words, seen, IsTopped, SawOpen, IsSafe}
use Rattle.safe_tries.specs.Puts.{SafeFirst}
use Rattle.safe_tries.proofs.Steps.{goes_same, none_kept, opened_on}

-- a word that is no `Raw` counts nothing
no_count : (x : ℕ) → ((n : ℕ) → decoded x ≡ Some (Raw n) → ⊥) → count_of (decoded x) ≡ 0
no_count x none = go (count_of (decoded x)) refl
  where
    go : (n : ℕ) → count_of (decoded x) ≡ n → count_of (decoded x) ≡ 0
    go zero e = e
    go (suc n) e = absurd (let k = is_raw (decoded x) (omega (arith, e)) in none k.0 k.1)

-- The own place after `at` takes the word of slot i.
module _ (kept : WordList) (r : AtHand) (τ : Tops) (q : ℕ) (s : IsSafe kept r τ q) (i k at : ℕ)
    (listed : Listed (numbered 1 (place_words 4000000000 r.pieces)) (own k) (suc at)) (fresh : τ i < k) (above : q < k) where
  at_high : s.topped.high (suc at) ≡ k
  at_high = s.topped.place k (suc at) listed

  pub free : word_at r.binds (suc at) ≡ None
  free = go (word_at r.binds (suc at)) refl
    where
      go : (o : Option ℕ) → word_at r.binds (suc at) ≡ o → word_at r.binds (suc at) ≡ None
      go None e = e
      go (Some x) e = absurd (omega (arith, s.topped.bound (suc at) x e, at_high))

  pub was_open : StartsAt 4000000000 r.pieces at (0 ∷ 0 ∷ [])
  was_open = s.topped.unfilled k at listed above

  module _ (ps : List (List ℕ)) (f : IsFilled at (term_word r i) r.pieces ps) where
    abbrev x : ℕ
    x = term_word r i

    abbrev m : Memory
    m = seen kept r

    abbrev m' : Memory
    m' = seen kept (record r { pieces = ps })

    only : (p : List ℕ) → StartsAt 4000000000 r.pieces at p → p ≡ 0 ∷ 0 ∷ []
    only p h = starts_once 4000000000 r.pieces at p (0 ∷ 0 ∷ []) (not_empty p (s.led.pieces.each at p h)) (omega arith) h f.was

    now_only : (p : List ℕ) → StartsAt 4000000000 ps at p → p ≡ 0 ∷ term_word r i ∷ []
    now_only p h = starts_once 4000000000 ps at p (0 ∷ x ∷ []) (f.no_empty at p h) (omega arith) h f.now

    -- the word at that place is new, and all others are as they were
    at_word : own_words ps (suc at) ≡ Some (term_word r i)
    at_word =
        subst (λ (c : ℕ). own_words ps c ≡ Some x) (let e : at + 1 ≡ suc at = omega arith in e)
        (rows_in 4000000000 at 1 x ps (0 ∷ x ∷ []) f.now refl)

    was_word : own_words r.pieces (suc at) ≡ Some 0
    was_word =
        subst (λ (c : ℕ). own_words r.pieces c ≡ Some 0) (let e : at + 1 ≡ suc at = omega arith in e)
        (rows_in 4000000000 at 1 0 r.pieces (0 ∷ 0 ∷ []) f.was refl)

    -- the name before the place's word
    name_of : (v : ℕ) (qs : List (List ℕ)) → StartsAt 4000000000 qs at (0 ∷ v ∷ []) → (a d y u : ℕ) → (a ≡ suc at → ⊥) → a ≡ at + d
        → slice_get (0 ∷ u ∷ []) d ≡ Some y → own_words qs a ≡ Some y
    name_of v qs h a zero y u n c e =
        subst (λ (b : ℕ). own_words qs b ≡ Some y) (sym c) (rows_in 4000000000 at 0 y qs (0 ∷ v ∷ []) h e)
    name_of v qs h a (suc zero) y u n c e = absurd (n (let z : a ≡ suc at = omega arith in z))
    name_of v qs h a (suc (suc d)) y u n c e = let z : None ≡ Some y = e in cc

    to_new : (a y : ℕ) → (a ≡ suc at → ⊥) → own_words r.pieces a ≡ Some y → own_words ps a ≡ Some y
    to_new a y n e =
        let o = in_rows 4000000000 a y r.pieces e in
        ⊎_elim (λ g. here o.0 o.1 o.2 g o.5 o.3 o.6)
        (λ g. subst (λ (b : ℕ). own_words ps b ≡ Some y) (sym o.5) (rows_in 4000000000 o.0 o.1 y ps o.2 (f.others o.0 o.2 g o.3) o.6))
        (nat_same o.0 at)
      where
        here : (b d : ℕ) (p : List ℕ) → b ≡ at → a ≡ b + d → StartsAt 4000000000 r.pieces b p → slice_get p d ≡ Some y
            → own_words ps a ≡ Some y
        here b d p g c h l =
            name_of x ps f.now a d y 0 n (c ∙ ap (λ (z : ℕ). z + d) g)
            (sym (ap (λ (z : List ℕ). slice_get z d) (only p (subst (λ (z : ℕ). StartsAt 4000000000 r.pieces z p) g h))) ∙ l)

    to_old : (a y : ℕ) → (a ≡ suc at → ⊥) → own_words ps a ≡ Some y → own_words r.pieces a ≡ Some y
    to_old a y n e =
        let o = in_rows 4000000000 a y ps e in
        ⊎_elim (λ g. here o.0 o.1 o.2 g o.5 o.3 o.6)
        (λ g. subst (λ (b : ℕ). own_words r.pieces b ≡ Some y) (sym o.5)
        (rows_in 4000000000 o.0 o.1 y r.pieces o.2 (f.back o.0 o.2 g o.3) o.6)) (nat_same o.0 at)
      where
        here : (b d : ℕ) (p : List ℕ) → b ≡ at → a ≡ b + d → StartsAt 4000000000 ps b p → slice_get p d ≡ Some y
            → own_words r.pieces a ≡ Some y
        here b d p g c h l =
            name_of 0 r.pieces f.was a d y x n (c ∙ ap (λ (z : ℕ). z + d) g)
            (sym (ap (λ (z : List ℕ). slice_get z d) (now_only p (subst (λ (z : ℕ). StartsAt 4000000000 ps z p) g h))) ∙ l)

    own_other : (a : ℕ) → (a ≡ suc at → ⊥) → own_words ps a ≡ own_words r.pieces a
    own_other a n = go (own_words r.pieces a) (own_words ps a) refl refl
      where
        go : (o o' : Option ℕ) → own_words r.pieces a ≡ o → own_words ps a ≡ o' → own_words ps a ≡ own_words r.pieces a
        go (Some y) o' e g = to_new a y n e ∙ sym e
        go None None e g = g ∙ sym e
        go None (Some y) e g = absurd (let h : None ≡ Some y = sym e ∙ to_old a y n g in cc)

    seen_other : (a : ℕ) → (a ≡ suc at → ⊥) → seen_at kept (own_words ps) a ≡ seen_at kept (own_words r.pieces) a
    seen_other a n = ap (λ (o : Option ℕ). first_some (word_at kept a) o) (own_other a n)

    not_kept : word_at kept (suc at) ≡ None
    not_kept = none_kept kept s.below (suc at) (let l = starts_above 4000000000 r.pieces at _ f.was in omega arith)

    seen_now : seen_at kept (own_words ps) (suc at) ≡ Some (term_word r i)
    seen_now = ap (λ (o : Option ℕ). first_some o (own_words ps (suc at))) not_kept ∙ at_word

    seen_was : seen_at kept (own_words r.pieces) (suc at) ≡ Some 0
    seen_was = ap (λ (o : Option ℕ). first_some o (own_words r.pieces (suc at))) not_kept ∙ was_word

    memory_other : (a : ℕ) → (a ≡ suc at → ⊥) → seen kept (record r { pieces = ps }) a ≡ seen kept r a
    memory_other a n = ap (λ (o : Option ℕ). unwrap_or o 6) (seen_other a n)

    memory_now : seen kept (record r { pieces = ps }) (suc at) ≡ term_word r i
    memory_now = ap (λ (o : Option ℕ). unwrap_or o 6) seen_now

    -- no number of parts stands there
    numbers : (t : ℕ) → count_of (decoded (seen kept (record r { pieces = ps }) t)) ≡ count_of (decoded (seen kept r t))
    numbers t = ⊎_elim here (λ n. ap (λ (z : ℕ). count_of (decoded z)) (memory_other t n)) (nat_same t (suc at))
      where
        now : count_of (decoded (seen kept (record r { pieces = ps }) (suc at))) ≡ 0
        now = ap (λ (z : ℕ). count_of (decoded z)) memory_now ∙ no_count x (slot_leads kept r s.led i).1.1

        was : count_of (decoded (seen kept r (suc at))) ≡ 0
        was = ap (λ (o : Option ℕ). count_of (decoded (unwrap_or o 6))) seen_was ∙ ap count_of zero_is

        here : t ≡ suc at → count_of (decoded (seen kept (record r { pieces = ps }) t)) ≡ count_of (decoded (seen kept r t))
        here e =
            subst (λ (z : ℕ). count_of (decoded (seen kept (record r { pieces = ps }) z)) ≡ count_of (decoded (seen kept r z))) (sym e)
            (now ∙ sym was)

    same_goes : (y : ℕ) (b : Node) → Goes (seen kept (record r { pieces = ps })) y b → Goes (seen kept r) y b
    same_goes y b g = goes_same m m' y b (λ t _. numbers t) g

    -- a step is an old one, or goes on from the slot's word
    data Step (a b : Node) : Type 0 where
      as_before : Edge r.binds (seen kept r) a b → Step a b
      from_slot : address a ≡ suc at → Goes (seen kept r) (term_word r i) b → Step a b

    step : (a b : Node) → Edge r.binds (seen kept (record r { pieces = ps })) a b → Step a b
    step (place a) b e = ⊎_elim here other (nat_same a (suc at))
      where
        here : a ≡ suc at → Step (place a) b
        here g =
            from_slot g (same_goes x b (subst (λ (y : ℕ). Goes m' y b)
            (ap (λ (z : ℕ). node_word r.binds m' (place z)) g ∙ (ap (λ (o : Option ℕ). unwrap_or o (m' (suc at))) free ∙ memory_now)) e))

        other : (a ≡ suc at → ⊥) → Step (place a) b
        other n =
            as_before (same_goes (node_word r.binds m (place a)) b (subst (λ (y : ℕ). Goes m' y b)
            (ap (λ (y : ℕ). unwrap_or (word_at r.binds a) y) (memory_other a n)) e))
    step (part a) b e = ⊎_elim here other (nat_same a (suc at))
      where
        here : a ≡ suc at → Step (part a) b
        here g = from_slot g (same_goes x b (subst (λ (y : ℕ). Goes m' y b) (ap m' g ∙ memory_now) e))

        other : (a ≡ suc at → ⊥) → Step (part a) b
        other n = as_before (same_goes (m a) b (subst (λ (y : ℕ). Goes m' y b) (memory_other a n) e))
    step (count a) b e = absurd (nil_goes m' b e)

    -- the slot's word leads below the variable
    slot_below : (b : Node) → Goes (seen kept r) (term_word r i) b
        → (s.topped.high (address b) < k) × (address b < end_of 4000000000 r.pieces)
    slot_below b g = go (r.operators i) g
      where
        go : (o : Bool) → Goes (seen kept r) (cond o 6 (r.slots i)) b
            → (s.topped.high (address b) < k) × (address b < end_of 4000000000 r.pieces)
        go true h = absurd (nil_goes m b h)
        go false h = (omega (arith, s.topped.slots i b h, fresh, above), s.topped.near i b h)

    -- what leads to the variable is put above all else
    abbrev below : Node → Bool
    below a = nat_lt (s.topped.high (address a)) k

    abbrev rank : Node → ℕ
    rank a = cond (below a) (s.tame.rank a) (suc s.tame.top + s.tame.rank a)

    rank_below : (a : Node) → s.topped.high (address a) < k → rank a ≡ s.tame.rank a
    rank_below a l = cond-true _ _ _ (lt-ltb (s.topped.high (address a)) k l)

    rank_above : (a : Node) → k ≤ s.topped.high (address a) → rank a ≡ suc s.tame.top + s.tame.rank a
    rank_above a l = cond-false _ _ _ (le-ltb (s.topped.high (address a)) k l)

    side : (a : Node) → (s.topped.high (address a) < k) ⊎ (k ≤ s.topped.high (address a))
    side a = go (below a) refl
      where
        go : (t : Bool) → nat_lt (s.topped.high (address a)) k ≡ t → (s.topped.high (address a) < k) ⊎ (k ≤ s.topped.high (address a))
        go true e = inl (ltb-true (s.topped.high (address a)) k e)
        go false e = inr (ltb-false (s.topped.high (address a)) k e)

    falls : (a b : Node) → Step a b → rank b < rank a
    falls a b (as_before e) = ⊎_elim low high (side a)
      where
        low : s.topped.high (address a) < k → rank b < rank a
        low l =
            let h : s.topped.high (address b) < k = omega (arith, l, above, s.topped.climbs a b e) in
            omega (arith, rank_below a l, rank_below b h, s.tame.falls a b e)

        high : k ≤ s.topped.high (address a) → rank b < rank a
        high l =
            ⊎_elim (λ h. omega (arith, rank_above a l, rank_below b h, s.tame.low b))
            (λ h. omega (arith, rank_above a l, rank_above b h, s.tame.falls a b e)) (side b)
    falls a b (from_slot e g) =
        let h : k ≤ s.topped.high (address a) = omega (arith, ap s.topped.high e, at_high) in
        omega (arith, rank_above a h, rank_below b (slot_below b g).0, s.tame.low b)

    low_rank : (a : Node) → rank a ≤ suc s.tame.top + s.tame.top
    low_rank a = ⊎_elim (λ l. omega (arith, rank_below a l, s.tame.low a)) (λ l. omega (arith, rank_above a l, s.tame.low a)) (side a)

    within : (a b : Node) → Step a b → address b < end_of 4000000000 ps
    within a b (as_before e) = omega (arith, f.same_end, s.tame.within a b e)
    within a b (from_slot e g) = omega (arith, f.same_end, (slot_below b g).1)

    both : (c d : Bool) → (c && d) ≡ true → (c ≡ true) × (d ≡ true)
    both true true e = (refl, refl)
    both true false e = absurd (true≢false (sym e))
    both false d e = absurd (true≢false (sym e))

    and_true : (c d : Bool) → c ≡ true → d ≡ true → (c && d) ≡ true
    and_true c d e g = ap (λ (t : Bool). t && d) e ∙ g

    stays : (a b : Node) → Step a b → (s.tame.inner a && below a) ≡ true → (s.tame.inner b && below b) ≡ true
    stays a b (as_before e) h =
        let o = both (s.tame.inner a) (below a) h in
        let l : s.topped.high (address a) < k = ltb-true (s.topped.high (address a)) k o.1 in
        and_true (s.tame.inner b) (below b) (s.tame.stays a b e o.0)
        (lt-ltb (s.topped.high (address b)) k (omega (arith, l, above, s.topped.climbs a b e)))
    stays a b (from_slot e g) h =
        let o = both (s.tame.inner a) (below a) h in
        absurd (true≢false (sym o.1 ∙ le-ltb (s.topped.high (address a)) k (omega (arith, ap s.topped.high e, at_high))))

    seen_still : (a : ℕ) → IsSeen kept (own_words r.pieces) a → IsSeen kept (own_words ps) a
    seen_still a h = ⊎_elim here (λ n. record { word = h.word; there = seen_other a n ∙ h.there }) (nat_same a (suc at))
      where
        here : a ≡ suc at → IsSeen kept (own_words ps) a
        here e = subst (λ (z : ℕ). IsSeen kept (own_words ps) z) (sym e) (record { word = x; there = seen_now })

    filled_tame : Tame r.binds kept (own_words ps) (end_of 4000000000 ps)
    filled_tame = record {
      rank = rank;
      top = suc s.tame.top + s.tame.top;
      low = low_rank;
      falls = λ a b e. falls a b (step a b e);
      within = λ a b e. within a b (step a b e);
      inner = λ a. s.tame.inner a && below a;
      stays = λ a b e h. stays a b (step a b e) h;
      bound_inner = λ a y e. and_true (s.tame.inner (place a)) (below (place a)) (s.tame.bound_inner a y e)
          (lt-ltb (s.topped.high a) k (omega (arith, above, s.topped.bound a y e)));
      inner_seen = λ a h. seen_still (address a) (s.tame.inner_seen a (both (s.tame.inner a) (below a) h).0);
    }

    climbs : (a b : Node) → Step a b → s.topped.high (address b) ≤ max (s.topped.high (address a)) k
    climbs a b (as_before e) = omega (arith, above, s.topped.climbs a b e)
    climbs a b (from_slot e g) = omega (arith, (slot_below b g).0)

    listed_before : (j a : ℕ) → Listed (numbered 1 (place_words 4000000000 ps)) (own j) a
        → Listed (numbered 1 (place_words 4000000000 r.pieces)) (own j) a
    listed_before j a l = subst (λ (as' : List ℕ). Listed (numbered 1 as') (own j) a) f.same_places l

    unfilled : (j a : ℕ) → Listed (numbered 1 (place_words 4000000000 ps)) (own j) (suc a) → k < j → StartsAt 4000000000 ps a (0 ∷ 0 ∷ [])
    unfilled j a l h =
        let o = listed_before j (suc a) l in
        f.others a (0 ∷ 0 ∷ []) (λ e. let g : s.topped.high (suc a) ≡ s.topped.high (suc at) = ap (λ (z : ℕ). s.topped.high (suc z)) e in
        omega (arith, g, at_high, s.topped.place j (suc a) o, h)) (s.topped.unfilled j a o (omega (arith, h, above)))

    filled_topped : IsTopped kept (record r { pieces = ps }) τ k
    filled_topped = record {
      high = s.topped.high;
      store = λ a l. omega (arith, above, s.topped.store a l);
      place = λ j a l. s.topped.place j a (listed_before j a l);
      climbs = λ a b e. climbs a b (step a b e);
      slots = λ j b g. omega (arith, above, s.topped.slots j b (same_goes (r.slots j) b g));
      near = λ j b g. omega (arith, f.same_end, s.topped.near j b (same_goes (r.slots j) b g));
      bound = λ a y e. omega (arith, above, s.topped.bound a y e);
      unfilled = unfilled;
    }

    -- what was unbound elsewhere still is
    opened : (a : ℕ) → (a ≡ suc at → ⊥) → SawOpen kept r a → SawOpen kept (record r { pieces = ps }) a
    opened a n o = opened_on kept r (record r { pieces = ps }) a (λ y e. seen_other a n ∙ e) o

    not_bound : (a y : ℕ) → word_at r.binds a ≡ Some y → a ≡ suc at → ⊥
    not_bound a y e g = let h : None ≡ Some y = sym free ∙ (ap (word_at r.binds) (sym g) ∙ e) in cc

    pub safe_filled : IsSafe kept (record r { pieces = ps }) τ k
    safe_filled = record {
      below = s.below;
      low = s.low;
      led = led_first kept r s.led i at ps f;
      tame = filled_tame;
      topped = filled_topped;
      bound_open = λ a y e. opened a (not_bound a y e) (s.bound_open a y e);
      read_open = λ a h l. opened a (λ g. let o = starts_above 4000000000 r.pieces at _ f.was in omega (arith, g, l)) (s.read_open a h l);
      waits_open = s.waits_open;
      waits_apart = s.waits_apart;
    }

pub safe_first : SafeFirst
safe_first kept r τ q s i k at listed fresh above = (
  free kept r τ q s i k at listed fresh above,
  was_open kept r τ q s i k at listed fresh above,
  safe_filled kept r τ q s i k at listed fresh above,
)
