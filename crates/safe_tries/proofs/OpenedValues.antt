-- A value is opened: its parts go into slots, from which walks come no further than from the slot that was opened.
use Rattle.std.proofs.Common.{◌≡◌, ℕ, zero, suc, ◌+◌, ◌<◌, ◌≤◌, Bool, true, false, cond, refl, sym, ap, ◌∙◌, subst}
use Rattle.std.proofs.Common.{inl, inr, arith, Option, Some, None}
use Rattle.std.specs.Prelude.{unwrap_or, max, nat_eq}
use Rattle.std.proofs.lemmas.Bool.{eqb-true}
use Rattle.std.proofs.lemmas.Bool.Decides.{nat_tests}
use Rattle.heap_words.specs.Cells.{decoded}
use Rattle.heap_words.specs.Trails.{WordList, Memory, word_at, under}
use Rattle.heap_words.specs.declared.cell.Cell.{Cell}
use Rattle.heap_words.specs.declared.cell.Cell.TheVariants.{Cons, Tuple, Raw}
use Rattle.ro_unify.specs.declared.look.Look.{Look}
use Rattle.ro_unify.specs.declared.look.Look.TheVariants.{Writable, ReadOnly, Solid}
use Rattle.ro_unify.specs.declared.look.Step.{Step}
use Rattle.ro_unify.specs.declared.look.Step.TheVariants.{End, On}
use Rattle.ro_unify.specs.declared.occurrence.Whole.{Whole}
use Rattle.ro_unify.specs.declared.occurrence.Whole.TheVariants as whole
use Rattle.ro_unify.specs.Value.{Values, ends, goes, step_of}
use Rattle.ro_unify.specs.Occurs.{whole_of, count_of, words_after}
use Rattle.ro_unify.specs.Walks.{first_some, Node, place, part, address, IsPlaceOf, IsPartOf, Goes, Edge}
use Rattle.ro_unify.proofs.Measures.{Stepped, stepped, solid, opens, bound, passes}
use Rattle.ro_unify.proofs.Seeing.{nil_goes}
use Rattle.word_states.specs.Pieces.{rows}
use Rattle.word_states.specs.Led.{LeadsOn, was_read}
use Rattle.word_states.proofs.Lists.{word_among}
use Rattle.machine_code.specs.Fresh.{Tops, topped, all_topped}
use Rattle.trial_laws.specs.AtHand.{AtHand, term_word, end_of}
use Rattle.trial_laws.specs.Laws.{holding}
use Rattle.trial_laws.specs.Opening.{pair_in, pair_at, is_count, tuple_in, tuple_at, holding_all, LookAt}
use Rattle.trial_laws.specs.Leading.{IsTermWord}
use Rattle.trial_laws.proofs.LedPieces.{led_slot, nil_leads, parts_few}
use Rattle.safe_tries.specs.Safe.{IsSafe, seen}
use Rattle.safe_tries.specs.Loads.{AreTermWords, SafePairOpened, SafeTupleOpened}

-- a word that a slot may take: it leads on, it is one of a term, and walks from it come so far
pub record Fits (kept : WordList) (r : AtHand) (f : ℕ → ℕ) (t x : ℕ) : Type 0 where
  pub leads : LeadsOn kept r.pieces x
  pub term : IsTermWord x
  pub comes : (b : Node) → Goes (seen kept r) x b → f (address b) ≤ t
  pub near : (b : Node) → Goes (seen kept r) x b → address b < end_of 4000000000 r.pieces

-- what is at hand is safe by this bound
abbrev pub SafeBy : WordList → AtHand → Tops → ℕ → (ℕ → ℕ) → Type 0
SafeBy kept r τ released f = (h : IsSafe kept r τ released) × (h.topped.high ≡ f)

-- a slot takes such a word
pub hold_slot : (kept : WordList) (r : AtHand) (τ : Tops) (released : ℕ) (f : ℕ → ℕ) → SafeBy kept r τ released f → (j x t : ℕ)
    → Fits kept r f (max t released) x → SafeBy kept (holding r j x false) (topped τ j t) released f
hold_slot kept r τ released f s j x t g = (
  record {
    below = s.0.below;
    low = s.0.low;
    led = led_slot kept r s.0.led j x false g.leads g.term;
    tame = s.0.tame;
    topped = record {
      high = s.0.topped.high;
      store = s.0.topped.store;
      place = s.0.topped.place;
      climbs = s.0.topped.climbs;
      slots = λ i b. at_slot i b (nat_eq i j);
      near = λ i b. near_slot i b (nat_eq i j);
      bound = s.0.topped.bound;
      unfilled = s.0.topped.unfilled;
    };
    bound_open = s.0.bound_open;
    read_open = s.0.read_open;
    waits_open = s.0.waits_open;
    waits_apart = s.0.waits_apart;
  },
  s.1,
)
  where
    at_slot : (i : ℕ) (b : Node) (c : Bool) → Goes (seen kept r) (cond c x (r.slots i)) b
        → s.0.topped.high (address b) ≤ max (cond c t (τ i)) released
    at_slot i b true e = subst (λ (k : ℕ → ℕ). k (address b) ≤ max t released) (sym s.1) (g.comes b e)
    at_slot i b false e = s.0.topped.slots i b e

    near_slot : (i : ℕ) (b : Node) (c : Bool) → Goes (seen kept r) (cond c x (r.slots i)) b → address b < end_of 4000000000 r.pieces
    near_slot i b true e = g.near b e
    near_slot i b false e = s.0.topped.near i b e

-- so many slots take the words after an address
hold_after : (n : ℕ) (kept : WordList) (r : AtHand) (τ : Tops) (released : ℕ) (f : ℕ → ℕ) → SafeBy kept r τ released f → (from c t : ℕ)
    → ((b : ℕ) → c < b → b ≤ c + n → Fits kept r f (max t released) (seen kept r b))
    → SafeBy kept (holding_all r from (words_after (seen kept r) c n)) (all_topped τ from n t) released f
hold_after zero kept r τ released f s from c t fits = s
hold_after (suc n) kept r τ released f s from c t fits =
    hold_after n kept (holding r from (seen kept r (c + 1)) false) (topped τ from t) released f
    (hold_slot kept r τ released f s from (seen kept r (c + 1)) t (fits (c + 1) (omega arith) (omega arith))) (suc from) (c + 1) t
    (λ b l u. let k = fits b (omega arith) (omega arith) in record { leads = k.leads; term = k.term; comes = k.comes; near = k.near })

-- a step of a value goes through a place
step_on : (bs : WordList) (m : Memory) (only o : Bool) (w x : ℕ) (s : Step) → Stepped bs m only w s → s ≡ On o x
    → (a : ℕ) × Goes m w (place a) × (under bs m a ≡ x)
step_on bs m only o w x _ (solid e) i = cc
step_on bs m only o w x _ (opens s c a e j k) i = cc
step_on bs m only o w x _ (bound s c a y e j) i = (
  a,
  subst (λ (q : Option (Bool × ℕ)). IsPlaceOf q a) (sym e) refl,
  ap (λ (q : Option ℕ). unwrap_or q (m a)) j ∙ (let k : y ≡ x = cc in k),
)
step_on bs m only o w x _ (passes s c a e j k) i = (
  a,
  subst (λ (q : Option (Bool × ℕ)). IsPlaceOf q a) (sym e) refl,
  ap (λ (q : Option ℕ). unwrap_or q (m a)) j ∙ (let l : m a ≡ x = cc in l),
)

-- or ends at the word itself
step_end : (bs : WordList) (m : Memory) (only : Bool) (w x : ℕ) (s : Step) → Stepped bs m only w s → s ≡ End (Solid x) → w ≡ x
step_end bs m only w x _ (solid e) i = cc
step_end bs m only w x _ (opens s true a e j k) i = cc
step_end bs m only w x _ (opens s false a e j k) i = cc
step_end bs m only w x _ (bound s c a y e j) i = cc
step_end bs m only w x _ (passes s c a e j k) i = cc

-- from a value walks come no further than from the word
value_comes : (bs : WordList) (m : Memory) (f : ℕ → ℕ) (released t : ℕ)
    → ((a b : Node) → Edge bs m a b → f (address b) ≤ max (f (address a)) released) → released ≤ t → (only : Bool) (w : ℕ) (l : Look)
    → Values bs m only w l → (x : ℕ) → l ≡ Solid x → ((b : Node) → Goes m w b → f (address b) ≤ t) → (b : Node) → Goes m x b
    → f (address b) ≤ t
value_comes bs m f released t climbs less _ _ _ (ends only w l e) x i h b g =
    h b (subst (λ (z : ℕ). Goes m z b) (sym (step_end bs m only w x (step_of bs m only w) (stepped bs m only w) (e ∙ ap End i))) g)
value_comes bs m f released t climbs less _ _ _ (goes only w o y l e v) x i h b g =
    let q = step_on bs m only o w y (step_of bs m only w) (stepped bs m only w) e in
    value_comes bs m f released t climbs less o y l v x i
    (λ d k. let c = climbs (place q.0) d (subst (λ (z : ℕ). Goes m z d) (sym q.2) k) in
    let j = h (place q.0) q.1 in omega (arith, c, j, less)) b g

module _ (kept : WordList) (r : AtHand) (τ : Tops) (released : ℕ) (h : IsSafe kept r τ released) where
  -- each word that was seen leads on, where it is one of a term
  seen_leads : (a : ℕ) → IsTermWord (seen kept r a) → LeadsOn kept r.pieces (seen kept r a)
  seen_leads a t = go (word_at kept a) refl (word_at (rows 4000000000 r.pieces) a) refl t
    where
      go : (o : Option ℕ) → word_at kept a ≡ o → (p : Option ℕ) → word_at (rows 4000000000 r.pieces) a ≡ p
          → IsTermWord (unwrap_or (first_some o p) 6) → LeadsOn kept r.pieces (unwrap_or (first_some o p) 6)
      go (Some x) e p i k = inl (was_read a (word_among kept a x e))
      go None e (Some x) i k = h.led.own a x i k.0
      go None e None i k = nil_leads kept r.pieces

  -- and it fits where walks come to its address
  part_fits : (t a : ℕ) → IsTermWord (seen kept r a) → h.topped.high a ≤ t → released ≤ t → Fits kept r h.topped.high t (seen kept r a)
  part_fits t a term near less = record {
    leads = seen_leads a term;
    term = term;
    comes = λ b g. let k = h.topped.climbs (part a) b g in omega (arith, k, near, less);
    near = λ b g. h.tame.within (part a) b g;
  }

  -- from the value of a slot walks come no further than from the slot
  pub slot_comes : (i x : ℕ) (l : Look) → LookAt r (seen kept r) i l → l ≡ Solid x → (b : Node) → Goes (seen kept r) x b
      → h.topped.high (address b) ≤ max (τ i) released
  slot_comes i x l v e =
      value_comes r.binds (seen kept r) h.topped.high released (max (τ i) released) h.topped.climbs (omega arith) false
      (term_word r i) l v x e (word_comes (r.operators i))
    where
      word_comes : (o : Bool) (b : Node) → Goes (seen kept r) (cond o 6 (r.slots i)) b → h.topped.high (address b) ≤ max (τ i) released
      word_comes true b g = absurd (nil_goes (seen kept r) b g)
      word_comes false b g = h.topped.slots i b g

  -- the parts of a pair
  pair_opened : (i left right x c : ℕ) (l : Look) → LookAt r (seen kept r) i l → l ≡ Solid x → decoded x ≡ Some (Cons c)
      → IsTermWord (seen kept r c) → IsTermWord (seen kept r (c + 1))
      → SafeBy kept (holding (holding r left (seen kept r c) false) right (seen kept r (c + 1)) false)
      (topped (topped τ left (τ i)) right (τ i)) released h.topped.high
  pair_opened i left right x c l v e d first second =
      let near = slot_comes i x l v e in
      let to : whole_of (decoded x) ≡ whole.Pair c = ap whole_of d in
      let one = part_fits (max (τ i) released) c first
      (near (part c) (subst (λ (o : Whole). IsPartOf (seen kept r) o c) (sym to) (inl refl))) (omega arith) in
      let two = part_fits (max (τ i) released) (c + 1) second
      (near (part (c + 1)) (subst (λ (o : Whole). IsPartOf (seen kept r) o (c + 1)) (sym to) (inr refl))) (omega arith) in
      hold_slot kept (holding r left (seen kept r c) false) (topped τ left (τ i)) released h.topped.high
      (hold_slot kept r τ released h.topped.high (h, refl) left (seen kept r c) (τ i) one) right (seen kept r (c + 1)) (τ i)
      (record { leads = two.leads; term = two.term; comes = two.comes; near = two.near })

  -- and those of a tuple
  tuple_opened : (i from n x c : ℕ) (l : Look) → LookAt r (seen kept r) i l → l ≡ Solid x → decoded x ≡ Some (Tuple c)
      → n ≤ count_of (decoded (seen kept r c)) → ((b : ℕ) → c < b → b ≤ c + n → IsTermWord (seen kept r b))
      → SafeBy kept (holding_all r from (words_after (seen kept r) c n)) (all_topped τ from n (τ i)) released h.topped.high
  tuple_opened i from n x c l v e d few terms =
      hold_after n kept r τ released h.topped.high (h, refl) from c (τ i) (λ b j k. part_fits (max (τ i) released) b (terms b j k)
      (slot_comes i x l v e (part b)
      (subst (λ (o : Whole). IsPartOf (seen kept r) o b) (sym (ap whole_of d)) (j, omega (arith, k, few)))) (omega arith))

-- where a value is a pair
pair_is : (l : Look) (c : ℕ) → pair_at l ≡ Some c → (x : ℕ) × (l ≡ Solid x) × (decoded x ≡ Some (Cons c))
pair_is (Writable a) c e = let k : None ≡ Some c = e in cc
pair_is (ReadOnly a) c e = let k : None ≡ Some c = e in cc
pair_is (Solid x) c e = (x, refl, go (decoded x) e)
  where
    go : (o : Option Cell) → pair_in o ≡ Some c → o ≡ Some (Cons c)
    go (Some (Cons d)) f = let k : d ≡ c = cc in ap (λ (z : ℕ). Some (Cons z)) k
    go _ f = let k : None ≡ Some c = f in cc

-- and where it is a tuple of so many parts
tuple_is : (m : Memory) (n : ℕ) (l : Look) (c : ℕ) → tuple_at m n l ≡ Some c
    → (x : ℕ) × (l ≡ Solid x) × (decoded x ≡ Some (Tuple c)) × (decoded (m c) ≡ Some (Raw n))
tuple_is m n (Writable a) c e = let k : None ≡ Some c = e in cc
tuple_is m n (ReadOnly a) c e = let k : None ≡ Some c = e in cc
tuple_is m n (Solid x) c e = let r = go (decoded x) e in (x, refl, r.0, r.1)
  where
    counted : (o : Option Cell) → is_count n o ≡ true → o ≡ Some (Raw n)
    counted (Some (Raw k)) f = ap (λ (z : ℕ). Some (Raw z)) (eqb-true k n f)
    counted _ f = let k : false ≡ true = f in cc

    tuple : (d : ℕ) (t : Bool) → is_count n (decoded (m d)) ≡ t → cond t (Some d) None ≡ Some c
        → (Some (Tuple d) ≡ Some (Tuple c)) × (decoded (m c) ≡ Some (Raw n))
    tuple d true f g =
        let k : d ≡ c = cc in
        (ap (λ (z : ℕ). Some (Tuple z)) k, subst (λ (z : ℕ). decoded (m z) ≡ Some (Raw n)) k (counted (decoded (m d)) f))
    tuple d false f g = let k : None ≡ Some c = g in cc

    go : (o : Option Cell) → tuple_in m n o ≡ Some c → (o ≡ Some (Tuple c)) × (decoded (m c) ≡ Some (Raw n))
    go (Some (Tuple d)) f = tuple d (is_count n (decoded (m d))) refl f
    go _ f = let k : None ≡ Some c = f in cc

-- each of the words after an address
term_after : (m : Memory) (n c : ℕ) → AreTermWords (words_after m c n) → (b : ℕ) → c < b → b ≤ c + n → IsTermWord (m b)
term_after m zero c h b l u = absurd (omega arith)
term_after m (suc n) c h b l u = go (term_after m n (c + 1) h.1 b) (nat_eq b (c + 1)) refl
  where
    go : (c + 1 < b → b ≤ c + 1 + n → IsTermWord (m b)) → (t : Bool) → nat_eq b (c + 1) ≡ t → IsTermWord (m b)
    go rec true e = subst (λ (z : ℕ). IsTermWord (m z)) (sym (eqb-true b (c + 1) e)) h.0
    go rec false e = rec (let k : c + 1 < b = grind (arith, nat_tests, l) in k) (omega (arith, u))

pub safe_pair_opened : SafePairOpened
safe_pair_opened kept r τ released h i left right c l v e _ _ first second =
    let q = pair_is l c e in (pair_opened kept r τ released h i left right q.0 c l v q.1 q.2 first second).0

pub safe_tuple_opened : SafeTupleOpened
safe_tuple_opened kept r τ released h i from n c l small v e _ terms =
    let q = tuple_is (seen kept r) n l c e in
    let few : count_of (decoded (seen kept r c)) ≡ n = ap count_of q.3 ∙ parts_few n small in
    (tuple_opened kept r τ released h i from n q.0 c l v q.1 q.2 (omega (arith, few)) (term_after (seen kept r) n c terms)).0
