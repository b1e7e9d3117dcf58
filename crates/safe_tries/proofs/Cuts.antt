-- The pieces that a test put are cut: what was at hand before them is safe over what the test kept.
use Rattle.std.proofs.Common.{◌≡◌, ◌⊎◌, ℕ, ◌+◌, ◌<◌, ◌≤◌, Bool, true, false, List, [], ◌∷◌, ◌++◌, length, refl, sym, ap, ◌∙◌}
use Rattle.std.proofs.Common.{subst, inl, inr, ⊎_elim, arith, Option, Some, None}
use Rattle.std.specs.Prelude.{unwrap_or, ◌&&◌, nat_lt}
use Rattle.std.proofs.lemmas.Bool.{lt-ltb}
use Rattle.std.proofs.lemmas.Bool.Decides.{nat_tests}
use Rattle.heap_words.specs.Cells.{decoded}
use Rattle.heap_words.specs.Trails.{WordList, Memory, AreOnce, word_at}
use Rattle.ro_unify.specs.declared.occurrence.Whole.{Whole}
use Rattle.ro_unify.specs.declared.occurrence.Whole.TheVariants as whole
use Rattle.ro_unify.specs.Occurs.{whole_of, count_of}
use Rattle.ro_unify.specs.Walks.{first_some, IsSeen, seen_memory, Node, place, part, count, address, IsPartOf, Goes, Edge, Tame}
use Rattle.ro_unify.proofs.Seeing.{nil_goes}
use Rattle.word_states.specs.Pieces.{StartsAt}
use Rattle.word_states.proofs.Pieces.{in_rows, rows_in, starts_above}
use Rattle.machine_code.specs.Fresh.{Tops}
use Rattle.trial_laws.specs.AtHand.{AtHand, end_of}
use Rattle.trial_laws.proofs.Pieces.{starts_left}
use Rattle.trial_laws.proofs.Slots.{nil_is}
use Rattle.safe_tries.specs.Safe.{IsSafe, SawOpen, own_words}
use Rattle.safe_tries.specs.Loads.{Kept}
use Rattle.safe_tries.specs.Puts.{Puts, SafeCut}
use Rattle.safe_tries.proofs.Steps.{end_above, seen_kept, seen_near}
use Rattle.safe_tries.proofs.KeptMore.{safe_more, more_edges}

-- a piece of two lists is one of the first or of the second
starts_either : (b : ℕ) (ps qs : List (List ℕ)) (a : ℕ) (p : List ℕ) → StartsAt b (ps ++ qs) a p
    → StartsAt b ps a p ⊎ StartsAt (end_of b ps) qs a p
starts_either b [] qs a p h = inr h
starts_either b (q ∷ ps) qs a p (inl h) = inl (inl h)
starts_either b (q ∷ ps) qs a p (inr h) = ⊎_elim (λ k. inl (inr k)) (λ k. inr k) (starts_either (b + length q) ps qs a p h)

module _ (ps more : List (List ℕ)) where
  -- with more pieces an own word stays
  own_more : (a x : ℕ) → own_words ps a ≡ Some x → own_words (ps ++ more) a ≡ Some x
  own_more a x e =
      let q = in_rows 4000000000 a x ps e in
      subst (λ (c : ℕ). own_words (ps ++ more) c ≡ Some x) (sym q.5)
      (rows_in 4000000000 q.0 q.1 x (ps ++ more) q.2 (starts_left 4000000000 ps more q.0 q.2 q.3) q.6)

  -- and those before their end are the same
  own_less : (a x : ℕ) → a < end_of 4000000000 ps → own_words (ps ++ more) a ≡ Some x → own_words ps a ≡ Some x
  own_less a x l e =
      let q = in_rows 4000000000 a x (ps ++ more) e in
      ⊎_elim (λ k. subst (λ (c : ℕ). own_words ps c ≡ Some x) (sym q.5) (rows_in 4000000000 q.0 q.1 x ps q.2 k q.6))
      (λ k. absurd (let s = starts_above (end_of 4000000000 ps) more q.0 q.2 k in let c = q.5 in omega (arith, s, c, l)))
      (starts_either 4000000000 ps more q.0 q.2 q.3)

-- the same list of words over fewer pieces
module _ (kept : WordList) (ps more : List (List ℕ)) where
  abbrev m : Memory
  m = seen_memory kept (own_words ps)

  abbrev m' : Memory
  m' = seen_memory kept (own_words (ps ++ more))

  -- each word is the same, or there is none
  same_or_none : (a : ℕ) → (m a ≡ m' a) ⊎ (m a ≡ 6)
  same_or_none a = go (word_at kept a) refl (own_words ps a) refl
    where
      go : (o : Option ℕ) → word_at kept a ≡ o → (p : Option ℕ) → own_words ps a ≡ p → (m a ≡ m' a) ⊎ (m a ≡ 6)
      go (Some x) e p f =
          inl (ap (λ (o : Option ℕ). unwrap_or (first_some o (own_words ps a)) 6) e
          ∙ sym (ap (λ (o : Option ℕ). unwrap_or (first_some o (own_words (ps ++ more) a)) 6) e))
      go None e (Some x) f =
          inl (ap (λ (o : Option ℕ). unwrap_or (first_some o (own_words ps a)) 6) e
          ∙ (ap (λ (o : Option ℕ). unwrap_or o 6) (f ∙ sym (own_more ps more a x f))
          ∙ sym (ap (λ (o : Option ℕ). unwrap_or (first_some o (own_words (ps ++ more) a)) 6) e)))
      go None e None f =
          inr (ap (λ (o : Option ℕ). unwrap_or (first_some o (own_words ps a)) 6) e ∙ ap (λ (o : Option ℕ). unwrap_or o 6) f)

  goes_on : (x : ℕ) (b : Node) → Goes m x b → Goes m' x b
  goes_on x (place q) r = r
  goes_on x (count q) r = r
  goes_on x (part q) r = go (whole_of (decoded x)) r
    where
      tuple : (c : ℕ) → (c < q) × (q ≤ c + count_of (decoded (m c))) → (m c ≡ m' c) ⊎ (m c ≡ 6)
          → (c < q) × (q ≤ c + count_of (decoded (m' c)))
      tuple c i (inl e) = (i.0, subst (λ (y : ℕ). q ≤ c + count_of (decoded y)) e i.1)
      tuple c i (inr e) =
          let z : count_of (decoded (m c)) ≡ 0 = ap (λ (y : ℕ). count_of (decoded y)) e ∙ ap count_of nil_is in
          absurd (omega (arith, i, z))

      go : (o : Whole) → IsPartOf m o q → IsPartOf m' o q
      go whole.Atom i = i
      go (whole.Pair c) i = i
      go (whole.Tuple c) i = tuple c i (same_or_none c)

  word_on : (a : ℕ) (b : Node) → Goes m (m a) b → Goes m' (m' a) b
  word_on a b r =
      ⊎_elim (λ e. goes_on (m' a) b (subst (λ (y : ℕ). Goes m y b) e r))
      (λ e. absurd (nil_goes m b (subst (λ (y : ℕ). Goes m y b) e r))) (same_or_none a)

  -- each step of a walk is one over all pieces
  pub edges_on : (bs : WordList) (a b : Node) → Edge bs (seen_memory kept (own_words ps)) a b
      → Edge bs (seen_memory kept (own_words (ps ++ more))) a b
  edges_on bs (place a) b r = go (word_at bs a) refl r
    where
      go : (o : Option ℕ) → word_at bs a ≡ o → Goes m (unwrap_or o (m a)) b → Goes m' (unwrap_or o (m' a)) b
      go (Some x) e g = goes_on x b g
      go None e g = word_on a b g
  edges_on bs (part a) b r = word_on a b r
  edges_on bs (count a) b r = absurd (nil_goes m b r)

  -- what was seen before the end of the pieces
  pub seen_before : (a : ℕ) → a < end_of 4000000000 ps → IsSeen kept (own_words (ps ++ more)) a → IsSeen kept (own_words ps) a
  seen_before a l s = go (word_at kept a) refl
    where
      go : (o : Option ℕ) → word_at kept a ≡ o → IsSeen kept (own_words ps) a
      go (Some x) e = record { word = x; there = ap (λ (o : Option ℕ). first_some o (own_words ps a)) e }
      go None e =
          let f : own_words (ps ++ more) a ≡ Some s.word =
          sym (ap (λ (o : Option ℕ). first_some o (own_words (ps ++ more) a)) e) ∙ s.there in
          record {
            word = s.word;
            there = ap (λ (o : Option ℕ). first_some o (own_words ps a)) e ∙ own_less ps more a s.word l f;
          }

-- walks end over fewer pieces, where they lead nowhere else
module _ (bs kept : WordList) (ps more : List (List ℕ)) (n : ℕ) (t : Tame bs kept (own_words (ps ++ more)) n)
    (near : (a b : Node) → Edge bs (seen_memory kept (own_words ps)) a b → address b < end_of 4000000000 ps)
    (bound : (a x : ℕ) → word_at bs a ≡ Some x → a < end_of 4000000000 ps) where
  -- the node stands before the end of the pieces
  abbrev before : Node → Bool
  before a = nat_lt (address a) (end_of 4000000000 ps)

  both : (c d : Bool) → c ≡ true → d ≡ true → (c && d) ≡ true
  both true d e f = f
  both false d e f = let k : false ≡ true = e in cc

  first : (c d : Bool) → (c && d) ≡ true → c ≡ true
  first true d e = refl
  first false d e = let k : false ≡ true = e in cc

  second : (c d : Bool) → (c && d) ≡ true → d ≡ true
  second true d e = e
  second false d e = let k : false ≡ true = e in cc

  pub tame_cut : Tame bs kept (own_words ps) (end_of 4000000000 ps)
  tame_cut = record {
    rank = t.rank;
    top = t.top;
    low = t.low;
    falls = λ a b e. t.falls a b (edges_on kept ps more bs a b e);
    within = near;
    inner = λ a. t.inner a && nat_lt (address a) (end_of 4000000000 ps);
    stays = λ a b e i. both (t.inner b) (before b) (t.stays a b (edges_on kept ps more bs a b e) (first (t.inner a) (before a) i))
        (lt-ltb (address b) (end_of 4000000000 ps) (near a b e));
    bound_inner = λ a x e. both (t.inner (place a)) (before (place a)) (t.bound_inner a x e)
        (lt-ltb a (end_of 4000000000 ps) (bound a x e));
    inner_seen = λ a i. seen_before kept ps more (address a) (below (address a) (second (t.inner a) (before a) i))
        (t.inner_seen a (first (t.inner a) (before a) i));
  }
    where
      below : (a : ℕ) → nat_lt a (end_of 4000000000 ps) ≡ true → a < end_of 4000000000 ps
      below a e = grind (arith, nat_tests)

module _ (kept : WordList) (b : AtHand) (τ : Tops) (released : ℕ) (h : IsSafe kept b τ released) (kept' : WordList) (r : AtHand) (υ : Tops)
    (q : ℕ) (once : AreOnce kept) (k : IsSafe kept' r υ q) (p : Puts b r)
    (grows : (a x : ℕ) → word_at kept a ≡ Some x → word_at kept' a ≡ Some x) where
  tame_all : Tame b.binds kept' (own_words (b.pieces ++ p.more)) (end_of 4000000000 r.pieces)
  tame_all =
      subst (λ (ps : List (List ℕ)). Tame b.binds kept' (own_words ps) (end_of 4000000000 r.pieces)) p.pieces
      (subst (λ (bs : WordList). Tame bs kept' (own_words r.pieces) (end_of 4000000000 r.pieces)) p.same_binds k.tame)

  near : (x y : Node) → Edge b.binds (seen_memory kept' (own_words b.pieces)) x y → address y < end_of 4000000000 b.pieces
  near x y e =
      ⊎_elim (λ o. h.tame.within x y o) (λ l. let z = end_above 4000000000 b.pieces in omega (arith, z, l))
      (more_edges kept kept' b.pieces once grows k.below k.low b.binds h.led.bound h.led.own x y e)

  bound_near : (a x : ℕ) → word_at b.binds a ≡ Some x → a < end_of 4000000000 b.pieces
  bound_near a x e = let o = h.bound_open a x e in seen_near kept b.pieces h.below a o.0 o.2

  pub kept_cut : Kept kept b kept'
  kept_cut = record {
    once = once;
    grows = grows;
    below = k.below;
    low = k.low;
    tame = tame_cut b.binds kept' b.pieces p.more (end_of 4000000000 r.pieces) tame_all near bound_near;
  }

  -- a place of the store that the test read is one that was kept
  pub read_before : (a : ℕ) → a < 4000000000 → SawOpen kept' r a → SawOpen kept' b a
  read_before a l o = (o.0, o.1, seen_kept kept' b.pieces a l ∙ (sym (seen_kept kept' r.pieces a l) ∙ o.2), o.3)

pub safe_cut : SafeCut
safe_cut kept b τ released h kept' r υ q once k p grows =
    let s = safe_more kept b τ released h kept' (kept_cut kept b τ released h kept' r υ q once k p grows) in record {
      below = s.below;
      low = s.low;
      led = record {
        pieces = s.led.pieces;
        slots = s.led.slots;
        terms = s.led.terms;
        bound = s.led.bound;
        places = s.led.places;
        own = s.led.own;
      };
      tame = s.tame;
      topped = record {
        high = s.topped.high;
        store = s.topped.store;
        place = s.topped.place;
        climbs = s.topped.climbs;
        slots = s.topped.slots;
        near = s.topped.near;
        bound = s.topped.bound;
        unfilled = s.topped.unfilled;
      };
      bound_open = s.bound_open;
      read_open = λ a i l. read_before kept b τ released h kept' r υ q once k p grows a l (k.read_open a i l);
      waits_open = k.waits_open;
      waits_apart = k.waits_apart;
    }
