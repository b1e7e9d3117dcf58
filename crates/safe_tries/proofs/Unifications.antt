-- Two slots were unified: what was read and bound was unbound, and all to which walks from the slots come is released.
use Rattle.std.proofs.Common.{◌≡◌, ℕ, zero, suc, ◌+◌, ◌<◌, ◌≤◌, Bool, true, false, cond, List, [], ◌∷◌, refl, sym, ap, ◌∙◌, subst}
use Rattle.std.proofs.Common.{inl, inr, ⊎_elim, arith, Option, Some, None}
use Rattle.std.specs.Prelude.{unwrap_or, max}
use Rattle.heap_words.specs.Cells.{decoded, encoded}
use Rattle.heap_words.specs.Trails.{WordList, Memory, word_at}
use Rattle.heap_words.specs.declared.cell.Cell.{Cell}
use Rattle.heap_words.specs.declared.cell.Cell.TheVariants.{Unbound, Ref, RoRef}
use Rattle.heap_words.proofs.Encodings.{decoded_encoded, encoded_decoded}
use Rattle.ro_unify.specs.declared.occurrence.Whole.{Whole}
use Rattle.ro_unify.specs.declared.occurrence.Whole.TheVariants as whole
use Rattle.ro_unify.specs.Value.{leads_on, is_unbound, IsOpen}
use Rattle.ro_unify.specs.Occurs.{Each, whole_of, count_of, parts_of, words_after}
use Rattle.ro_unify.specs.Unify.{Unifies, Ended, done, clash, stop}
use Rattle.ro_unify.specs.Walks.{first_some, Node, place, part, count, address, IsPlaceOf, IsPartOf, Goes, Edge}
use Rattle.ro_unify.proofs.Chains.{open_seen, place_only}
use Rattle.ro_unify.proofs.Closing.{IsClosed, BindsIn, binds_closed}
use Rattle.ro_unify.proofs.Measures.{same_place}
use Rattle.ro_unify.proofs.Opened.{reads_ended, bound_open, reads_so}
use Rattle.ro_unify.proofs.Seeing.{nil_goes, seen_word}
use Rattle.word_states.specs.Words.{IsIn}
use Rattle.trial_laws.specs.AtHand.{AtHand, term_word}
use Rattle.trial_laws.proofs.Seen.{own_below}
use Rattle.trial_laws.proofs.LedEnds.{led_unification}
use Rattle.machine_code.specs.Fresh.{Tops}
use Rattle.safe_tries.specs.Safe.{IsSafe, SawOpen, seen, own_words}
use Rattle.safe_tries.specs.Loads.{reads_at, SafeUnified, UnificationReads}

-- the cell of an unbound place
unbound_is : (o : Option Cell) → is_unbound o ≡ true → (e : ℕ) × (o ≡ Some (Unbound e))
unbound_is (Some (Unbound e)) h = (e, refl)
unbound_is _ h = let k : false ≡ true = h in cc

-- a place that is open over what was seen was seen
open_saw : (kept : WordList) (r : AtHand) (a : ℕ) → IsOpen r.binds (seen kept r) a → SawOpen kept r a
open_saw kept r a o =
    let s = open_seen kept (own_words r.pieces) a o.1 in
    let u = unbound_is (decoded (seen kept r a)) o.1 in
    (s.word, u.0, s.there, ap decoded (sym (seen_word kept (own_words r.pieces) a s.word s.there)) ∙ u.1)

each_of : (P : ℕ → Type 0) (xs : List ℕ) → ((a : ℕ) → IsIn a xs → P a) → Each P xs
each_of P [] h = tt
each_of P (x ∷ xs) h = (h x (inl refl), each_of P xs (λ a i. h a (inr i)))

of_each : (P : ℕ → Type 0) (xs : List ℕ) → Each P xs → (a : ℕ) → IsIn a xs → P a
of_each P [] h a i = absurd i
of_each P (x ∷ xs) h a (inl i) = subst P i h.0
of_each P (x ∷ xs) h a (inr i) = of_each P xs h.1 a i

-- so for an address of the store
abbrev StoreOpen : WordList → AtHand → ℕ → Type 0
StoreOpen kept r a = a < 4000000000 → SawOpen kept r a

pub unification_reads : UnificationReads
unification_reads kept r τ released h i j e u a n =
    go e
    (reads_so (seen kept r) r.binds r.reads ((term_word r i, term_word r j) ∷ []) e (StoreOpen kept r) (λ b o l. open_saw kept r b o) u
    (each_of (StoreOpen kept r) r.reads h.read_open)) n
  where
    go : (e : Ended) → Each (StoreOpen kept r) (reads_ended e) → IsIn a (reads_at e) → StoreOpen kept r a
    go (done bs rs) g k = of_each (StoreOpen kept r) rs g a k
    go (clash rs) g k = of_each (StoreOpen kept r) rs g a k
    go (stop rs) g k = of_each (StoreOpen kept r) rs g a k

-- a place that was seen has an address of 32 bits
saw_few : (kept : WordList) (r : AtHand) (τ : Tops) (released : ℕ) → IsSafe kept r τ released → (a : ℕ) → SawOpen kept r a
    → a < 0x100000000
saw_few kept r τ released h a o = go (word_at kept a) refl
  where
    go : (k : Option ℕ) → word_at kept a ≡ k → a < 0x100000000
    go (Some x) e = let l = h.below a x e in omega arith
    go None e = own_below r.pieces h.led.pieces a o.0 (sym (ap (λ (k : Option ℕ). first_some k (own_words r.pieces a)) e) ∙ o.2)

-- the address of a step, if there is one
abbrev second : ℕ → Option (Bool × ℕ) → ℕ
second d None = d
second d (Some q) = q.1

-- the place of a reference has an address of 32 bits
few_of : (w a : ℕ) (s : Bool) (o : Option Cell) → decoded w ≡ o → leads_on false o ≡ Some (s, a) → a < 0x100000000
few_of w a s (Some (Ref b)) d e = subst (λ (z : ℕ). z < 0x100000000) (ap (second a) e) (encoded_decoded w (Ref b) d).0
few_of w a s (Some (RoRef b)) d e = subst (λ (z : ℕ). z < 0x100000000) (ap (second a) e) (encoded_decoded w (RoRef b) d).0
few_of w a s _ d e = absurd (let k : None ≡ Some (s, a) = e in cc)

-- walks that begin with two slots come no further than to what is released then
module _ (kept : WordList) (r : AtHand) (τ : Tops) (released : ℕ) (h : IsSafe kept r τ released) (i j : ℕ) where
  abbrev limit : ℕ
  limit = max released (max (τ i) (τ j))

  abbrev m : Memory
  m = seen kept r

  abbrev From : ℕ → Type 0
  From x = (b : Node) → Goes (seen kept r) x b → h.topped.high (address b) ≤ limit

  abbrev At : ℕ → Type 0
  At a = (h.topped.high a ≤ limit) × (a < 0x100000000)

  seen_from : (a : ℕ) → h.topped.high a ≤ limit → From (m a)
  seen_from a l b g = let c = h.topped.climbs (part a) b g in omega (arith, c, l)

  after_from : (a n : ℕ) → ((b : ℕ) → a < b → b ≤ a + n → From (m b)) → Each From (words_after m a n)
  after_from a zero f = tt
  after_from a (suc n) f = (f (a + 1) (omega arith) (omega arith), after_from (a + 1) n (λ b l u. f b (omega arith) (omega arith)))

  parts_from : (w : ℕ) → From w → Each From (parts_of m (whole_of (decoded w)))
  parts_from w k = go (whole_of (decoded w)) refl
    where
      near : (v : Whole) → whole_of (decoded w) ≡ v → (b : ℕ) → IsPartOf m v b → From (m b)
      near v e b p = seen_from b (k (part b) (subst (λ (o : Whole). IsPartOf m o b) (sym e) p))

      go : (v : Whole) → whole_of (decoded w) ≡ v → Each From (parts_of m v)
      go whole.Atom e = tt
      go (whole.Pair a) e = (near (whole.Pair a) e a (inl refl), (near (whole.Pair a) e (a + 1) (inr refl), tt))
      go (whole.Tuple a) e = after_from a (count_of (decoded (m a))) (λ b l u. near (whole.Tuple a) e b (l, u))

  place_from : (w a : ℕ) (only o : Bool) → From w → leads_on only (decoded w) ≡ Some (o, a) → At a
  place_from w a only o k e =
      let q = same_place only o (decoded w) a e in
      (k (place a) (subst (λ (s : Option (Bool × ℕ)). IsPlaceOf s a) (sym q.1) refl), few_of w a q.0 (decoded w) refl q.1)

  -- a reference goes on to its place alone
  ref_from : (a x : ℕ) (s : Bool) → leads_on false (decoded x) ≡ Some (s, a) → At a → From x
  ref_from a x s e k b g =
      subst (λ (z : Node). h.topped.high (address z) ≤ limit) (sym (place_only m x s a b e g)) k.0

  closed : IsClosed r.binds m From At
  closed = record {
    place = place_from;
    word = λ a q n u. seen_from a q.0;
    parts = parts_from;
    writable = λ a q. ref_from a (encoded (Ref a)) false (ap (leads_on false) (decoded_encoded (Ref a) q.1)) q;
    read_only = λ a q. ref_from a (encoded (RoRef a)) true (ap (leads_on false) (decoded_encoded (RoRef a) q.1)) q;
  }

  bound_before : BindsIn From At r.binds
  bound_before a x e =
      let l = h.topped.bound a x e in (
        ((omega (arith, l)), saw_few kept r τ released h a (h.bound_open a x e)),
        (λ b g. let c = h.topped.climbs (place a) b
            (subst (λ (z : ℕ). Goes m z b) (sym (ap (λ (o : Option ℕ). unwrap_or o (m a)) e)) g) in omega (arith, c, l)),
      )

  slot_from : (k : ℕ) → τ k ≤ max (τ i) (τ j) → From (term_word r k)
  slot_from k l = go (r.operators k)
    where
      go : (o : Bool) → From (cond o 6 (r.slots k))
      go true b g = absurd (nil_goes m b g)
      go false b g = let c = h.topped.slots k b g in omega (arith, c, l)

  module _ (bs : WordList) (rs : List ℕ)
      (u : Unifies (seen kept r) r.binds r.reads ((term_word r i, term_word r j) ∷ []) (done bs rs)) where
    pub now_bound : BindsIn (λ x. (b : Node) → Goes (seen kept r) x b → h.topped.high (address b) ≤ max released (max (τ i) (τ j)))
        (λ a. (h.topped.high a ≤ max released (max (τ i) (τ j))) × (a < 0x100000000)) bs
    now_bound =
        binds_closed r.binds bs m From At closed r.reads rs ((term_word r i, term_word r j) ∷ []) bound_before
        ((slot_from i (omega arith), slot_from j (omega arith)), tt) u

    pub now_climbs : (a b : Node) → Edge bs (seen kept r) a b
        → h.topped.high (address b) ≤ max (h.topped.high (address a)) (max released (max (τ i) (τ j)))
    now_climbs (part a) b e = let c = h.topped.climbs (part a) b e in omega (arith, c)
    now_climbs (count a) b e = let c = h.topped.climbs (count a) b e in omega (arith, c)
    now_climbs (place a) b e = go (word_at bs a) refl e
      where
        go : (o : Option ℕ) → word_at bs a ≡ o → Goes m (unwrap_or o (m a)) b
            → h.topped.high (address b) ≤ max (h.topped.high a) limit
        go (Some x) f g = let c = (now_bound a x f).1 b g in omega (arith, c)
        go None f g = let c = h.topped.climbs (part a) b g in omega (arith, c)

    pub now_open : (a x : ℕ) → word_at bs a ≡ Some x → SawOpen kept r a
    now_open a x e =
        ⊎_elim (λ k. h.bound_open a x k) (λ k. open_saw kept r a k)
        (bound_open (seen kept r) r.binds r.reads ((term_word r i, term_word r j) ∷ []) (done bs rs) u a x e)

pub safe_unified : SafeUnified
safe_unified kept r τ released h i j bs rs u tame = record {
  below = h.below;
  low = h.low;
  led = led_unification kept r h.led i j bs rs u;
  tame = tame;
  topped = record {
    high = h.topped.high;
    store = λ a l. let k = h.topped.store a l in omega (arith, k);
    place = h.topped.place;
    climbs = now_climbs kept r τ released h i j bs rs u;
    slots = λ s b g. let k = h.topped.slots s b g in omega (arith, k);
    near = h.topped.near;
    bound = λ a x e. (now_bound kept r τ released h i j bs rs u a x e).0.0;
    unfilled = λ k s l b. h.topped.unfilled k s l (omega (arith, b));
  };
  bound_open = now_open kept r τ released h i j bs rs u;
  read_open = unification_reads kept r τ released h i j (done bs rs) u;
  waits_open = h.waits_open;
  waits_apart = h.waits_apart;
}
