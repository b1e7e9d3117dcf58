-- The two facts of a try are kept.
use Rattle.std.proofs.Common.{◌≡◌, ℕ, zero, suc, ◌+◌, ◌<◌, ◌≤◌, max, Bool, true, false, cond, [], ◌∷◌, ◌++◌}
use Rattle.std.proofs.Common.{Option, Some, None, refl, sym, ap, ◌∙◌, subst, arith, inl, inr, ⊎_elim}
use Rattle.std.specs.Prelude.{◌⊎◌, ◌||◌, nat_eq, nat_lt, unwrap_or}
use Rattle.std.proofs.lemmas.Bool.{eqb-true, eq-eqb, lt-ltb, cond-true}
use Rattle.std.proofs.lemmas.Bool.Decides.{nat_tests}
use Rattle.heap_words.specs.Cells.{decoded}
use Rattle.heap_words.specs.WordsLaws.{WordsLaws, Acyclic}
use Rattle.heap_words.specs.Trails.{WordList, Memory, word_at, under, Holds, KeepsLoads}
use Rattle.heap_words.proofs.Keeps.{word_at-append, or_at, one_at}
use Rattle.ro_unify.specs.declared.occurrence.Whole.{Whole}
use Rattle.ro_unify.specs.declared.occurrence.Whole.TheVariants as whole
use Rattle.ro_unify.specs.Occurs.{whole_of, count_of}
use Rattle.ro_unify.specs.Walks.{seen_at, IsSeen, seen_memory, Node, place, part, count, address}
use Rattle.ro_unify.specs.Walks.{node_word, IsPartOf, IsCountOf, Goes, Edge, Tame, Walked}
use Rattle.ro_unify.proofs.Seeing.{Falls, goes_seen, nil_goes, seen_had, goes_known, goes_down, seen_on, seen_word}

-- no rank of an address below n is above this
abbrev top_of : (ℕ → ℕ) → ℕ → ℕ
top_of f zero = 0
top_of f (suc n) = max (f n) (top_of f n)

below_top : (f : ℕ → ℕ) (n a : ℕ) → a < n → f a ≤ top_of f n
below_top f zero a h = absurd (omega arith)
below_top f (suc n) a h = go (below_top f n a) (nat_eq a n) refl
  where
    go : (a < n → f a ≤ top_of f n) → (x : Bool) → nat_eq a n ≡ x → f a ≤ max (f n) (top_of f n)
    go rec true e = omega (arith, ap f (eqb-true a n e))
    go rec false e = let i : a < n = grind (arith, nat_tests) in omega (arith, rec i)

-- a set lies below all else
abbrev pub layered : (Node → Bool) → (Node → ℕ) → ℕ → (Node → ℕ) → Node → ℕ
layered set r top s a = cond (set a) (r a) (suc top + s a)

layered_low : (set : Node → Bool) (r : Node → ℕ) (top : ℕ) (s : Node → ℕ) (high : ℕ) → ((a : Node) → r a ≤ top) → ((a : Node) → s a ≤ high)
    → (a : Node) → layered set r top s a ≤ suc top + high
layered_low set r top s high f g a = go (set a)
  where
    go : (x : Bool) → cond x (r a) (suc top + s a) ≤ suc top + high
    go true = omega (arith, f a)
    go false = omega (arith, g a)

layered_falls : (set : Node → Bool) (r : Node → ℕ) (top : ℕ) (s : Node → ℕ) (a b : Node) → ((c : Node) → r c ≤ top)
    → (set a ≡ true → set b ≡ true) → (set a ≡ true → r b < r a) → (set a ≡ false → set b ≡ false → s b < s a)
    → layered set r top s b < layered set r top s a
layered_falls set r top s a b low stay inside outside = go (set a) (set b) refl refl
  where
    go : (x y : Bool) → set a ≡ x → set b ≡ y → cond y (r b) (suc top + s b) < cond x (r a) (suc top + s a)
    go true true e f = inside e
    go true false e f = absurd (let k : true ≡ false = sym (stay e) ∙ f in cc)
    go false true e f = omega (arith, low b)
    go false false e f = omega (arith, outside e f)

-- The rank of an address below n as that of a node. Numbers of parts stand below all, with the addresses from n on.
abbrev capped : (ℕ → ℕ) → ℕ → Node → ℕ
capped f n (place a) = cond (nat_lt a n) (suc (f a)) 0
capped f n (part a) = cond (nat_lt a n) (suc (f a)) 0
capped f n (count a) = 0

capped_word : (f : ℕ → ℕ) (n a : ℕ) → cond (nat_lt a n) (suc (f a)) 0 ≤ suc (top_of f n)
capped_word f n a = go (nat_lt a n) refl
  where
    go : (x : Bool) → nat_lt a n ≡ x → cond x (suc (f a)) 0 ≤ suc (top_of f n)
    go true e = let h : a < n = grind (arith, nat_tests) in omega (arith, below_top f n a h)
    go false e = omega arith

capped_low : (f : ℕ → ℕ) (n : ℕ) (a : Node) → capped f n a ≤ suc (top_of f n)
capped_low f n (place a) = capped_word f n a
capped_low f n (part a) = capped_word f n a
capped_low f n (count a) = omega arith

-- a node has a word, which a walk goes on from
abbrev HasWord : Node → Type 0
HasWord (place a) = Unit {0}
HasWord (part a) = Unit {0}
HasWord (count a) = ⊥

has_word : (bs : WordList) (m : Memory) (a b : Node) → Edge bs m a b → HasWord a
has_word bs m (place a) b e = tt
has_word bs m (part a) b e = tt
has_word bs m (count a) b e = nil_goes m b e

capped_at : (f : ℕ → ℕ) (n : ℕ) (a : Node) → HasWord a → address a < n → capped f n a ≡ suc (f (address a))
capped_at f n (place a) h l = cond-true _ _ _ (lt-ltb a n l)
capped_at f n (part a) h l = cond-true _ _ _ (lt-ltb a n l)
capped_at f n (count a) h l = absurd h

capped_falls : (f : ℕ → ℕ) (n : ℕ) (a b : Node) → HasWord a → address a < n → address b < n → Falls f (address a) b
    → capped f n b < capped f n a
capped_falls f n a (place b) w h i j = omega (arith, capped_at f n a w h, capped_at f n (place b) tt i, j)
capped_falls f n a (part b) w h i j = omega (arith, capped_at f n a w h, capped_at f n (part b) tt i, j)
capped_falls f n a (count b) w h i j = omega (arith, capped_at f n a w h)

module _ {S : Type 0} {addresses : S → ℕ} {sound : S → Type 0} {knows : S → ℕ → Type 0} {had : S → ℕ → ℕ → Type 0} {leads : S → ℕ → Type 0}
    {own shown : S → ℕ → Option ℕ} {later : S → S → Type 0} {gave : S → S → ℕ → ℕ → Type 0}
    (laws : WordsLaws {S = S} addresses sound knows had leads own shown later gave) where
  -- more was seen, by loads or by further own words
  pub tame_grown : {kept binds kept' : WordList} {before : ℕ → Option ℕ} {w : S} (n n' : ℕ) → sound w → Holds had leads kept' binds w
      → ((a x : ℕ) → seen_at kept before a ≡ Some x → seen_at kept' (own w) a ≡ Some x) → n ≤ n' → n' ≡ addresses w
      → Tame binds kept before n → Tame binds kept' (own w) n'
  tame_grown {kept = kept} {binds = binds} {kept' = kept'} {before = before} {w = w} n n' so holds more wide size t = record {
    rank = layered t.inner t.rank t.top (capped s.rank n');
    top = suc t.top + suc (top_of s.rank n');
    low = layered_low t.inner t.rank t.top (capped s.rank n') (suc (top_of s.rank n')) t.low (capped_low s.rank n');
    falls = λ a b e. layered_falls t.inner t.rank t.top (capped s.rank n') a b t.low (stay a b e) (λ i. t.falls a b (back a b e i))
        (λ i _. outside a b e i);
    within = under_n;
    inner = t.inner;
    stays = stay;
    bound_inner = t.bound_inner;
    inner_seen = λ a i. seen_again (address a) (t.inner_seen a i);
  }
    where
      seen_again : (a : ℕ) → IsSeen kept before a → IsSeen kept' (own w) a
      seen_again a i = record { word = i.word; there = more a i.word i.there }

      word_again : (a : ℕ) → IsSeen kept before a → seen_memory kept' (own w) a ≡ seen_memory kept before a
      word_again a i = seen_word kept' (own w) a i.word (more a i.word i.there) ∙ sym (seen_word kept before a i.word i.there)

      s : Acyclic (shown w)
      s = laws.no_cycle w so

      m : Memory
      m = seen_memory kept before

      m' : Memory
      m' = seen_memory kept' (own w)

      -- inside the set nothing is new
      word_back : (a : Node) → t.inner a ≡ true → node_word binds m' a ≡ node_word binds m a
      word_back (place a) i = ap (λ (x : ℕ). unwrap_or (word_at binds a) x) (word_again a (t.inner_seen (place a) i))
      word_back (part a) i = word_again a (t.inner_seen (part a) i)
      word_back (count a) i = refl

      goes_back : (a b : Node) → t.inner a ≡ true → Goes m' (node_word binds m a) b → Goes m (node_word binds m a) b
      goes_back a (place q) i r = r
      goes_back a (count q) i r = r
      goes_back a (part q) i r = go (whole_of (decoded (node_word binds m a))) refl r
        where
          go : (o : Whole) → whole_of (decoded (node_word binds m a)) ≡ o → IsPartOf m' o q → IsPartOf m o q
          go whole.Atom e j = j
          go (whole.Pair c) e j = j
          go (whole.Tuple c) e j =
              let edge : Edge binds m a (count c) = subst (λ (o : Whole). IsCountOf o c) (sym e) refl in
              let k : m' c ≡ m c = word_again c (t.inner_seen (count c) (t.stays a (count c) edge i)) in
              (j.0, subst (λ (x : ℕ). q ≤ c + count_of (decoded x)) k j.1)

      back : (a b : Node) → Edge binds m' a b → t.inner a ≡ true → Edge binds m a b
      back a b e i = goes_back a b i (subst (λ (x : ℕ). Goes m' x b) (word_back a i) e)

      stay : (a b : Node) → Edge binds m' a b → t.inner a ≡ true → t.inner b ≡ true
      stay a b e i = t.stays a b (back a b e i) i

      -- outside of it each step follows a final word that is shown
      plain : (a : ℕ) → t.inner (place a) ≡ false → under binds m' a ≡ m' a
      plain a i = go (word_at binds a) refl
        where
          go : (o : Option ℕ) → word_at binds a ≡ o → under binds m' a ≡ m' a
          go None e = ap (λ (o : Option ℕ). unwrap_or o (m' a)) e
          go (Some x) e = absurd (let k : true ≡ false = sym (t.bound_inner a x e) ∙ i in cc)

      holds_now : Holds had leads kept' binds w
      holds_now = holds

      outer : (a b : Node) → Edge binds m' a b → t.inner a ≡ false → (x : ℕ) × (seen_at kept' (own w) (address a) ≡ Some x) × Goes m' x b
      outer (place a) b e i = goes_seen kept' (own w) m' a b (subst (λ (x : ℕ). Goes m' x b) (plain a i) e)
      outer (part a) b e i = goes_seen kept' (own w) m' a b e
      outer (count a) b e i = absurd (nil_goes m' b e)

      under_n : (a b : Node) → Edge binds m' a b → address b < n'
      under_n a b e = go (t.inner a) refl
        where
          go : (x : Bool) → t.inner a ≡ x → address b < n'
          go true i = omega (arith, t.within a b (back a b e i))
          go false i =
              let o = outer a b e i in
              let k =
              goes_known laws o.0 b so holds_now
              (laws.had_leads w (address a) o.0 so (seen_had laws (address a) o.0 so holds_now o.1)) o.2 in
              omega (arith, laws.in_range w (address b) so k)

      outside : (a b : Node) → Edge binds m' a b → t.inner a ≡ false → capped s.rank n' b < capped s.rank n' a
      outside a b e i =
          let o = outer a b e i in
          let h = seen_had laws (address a) o.0 so holds_now o.1 in
          let k = goes_known laws o.0 b so holds_now (laws.had_leads w (address a) o.0 so h) o.2 in
          capped_falls s.rank n' a b (has_word binds m' a b e)
          (omega (arith, laws.in_range w (address a) so (laws.had_known w (address a) o.0 so h)))
          (omega (arith, laws.in_range w (address b) so k))
          (goes_down laws (address a) o.0 b so holds_now o.1 o.2 s)

  pub tame_on : {kept binds kept' binds' : WordList} {v w : S} (n : ℕ) → KeepsLoads sound had leads later gave kept binds v kept' binds' w
      → binds' ≡ binds → n ≡ addresses w → Tame binds kept (own v) n → Tame binds kept' (own w) n
  tame_on {kept = kept} {binds = binds} {kept' = kept'} {v = v} {w = w} n p same size t =
      tame_grown n n p.sound (subst (λ (bs : WordList). Holds had leads kept' bs w) same p.holds) (seen_on laws p) (omega arith) size t

  -- where nothing is bound, each step follows a final word that is shown
  pub tame_free : {kept : WordList} {w : S} → sound w → Holds had leads kept [] w → Tame [] kept (own w) (addresses w)
  tame_free {kept = kept} {w = w} s h = record {
    rank = capped k.rank (addresses w);
    top = suc (top_of k.rank (addresses w));
    low = capped_low k.rank (addresses w);
    falls =
        λ a b e. let o = step a b e in capped_falls k.rank (addresses w) a b (has_word [] m a b e) (near a o.0 o.1) (target a b o.0 o.1 o.2)
        (goes_down laws (address a) o.0 b s h o.1 o.2 k);
    within = λ a b e. let o = step a b e in target a b o.0 o.1 o.2;
    inner = λ _. false;
    stays = λ a b e i. absurd (let c : false ≡ true = i in cc);
    bound_inner = λ a x e. absurd (let c : None ≡ Some x = e in cc);
    inner_seen = λ a i. absurd (let c : false ≡ true = i in cc);
  }
    where
      k : Acyclic (shown w)
      k = laws.no_cycle w s

      m : Memory
      m = seen_memory kept (own w)

      step : (a b : Node) → Edge [] m a b → (x : ℕ) × (seen_at kept (own w) (address a) ≡ Some x) × Goes m x b
      step (place a) b e = goes_seen kept (own w) m a b e
      step (part a) b e = goes_seen kept (own w) m a b e
      step (count a) b e = absurd (nil_goes m b e)

      near : (a : Node) (x : ℕ) → seen_at kept (own w) (address a) ≡ Some x → address a < addresses w
      near a x e = laws.in_range w (address a) s (laws.had_known w (address a) x s (seen_had laws (address a) x s h e))

      target : (a b : Node) (x : ℕ) → seen_at kept (own w) (address a) ≡ Some x → Goes m x b → address b < addresses w
      target a b x e r =
          laws.in_range w (address b) s (goes_known laws x b s h (laws.had_leads w (address a) x s (seen_had laws (address a) x s h e)) r)

  -- the same, with the number of addresses of each state
  pub tame_later : {kept binds kept' binds' : WordList} {v w : S} → KeepsLoads sound had leads later gave kept binds v kept' binds' w
      → binds' ≡ binds → Tame binds kept (own v) (addresses v) → Tame binds' kept' (own w) (addresses w)
  tame_later {kept = kept} {binds = binds} {kept' = kept'} {binds' = binds'} {v = v} {w = w} p same t =
      subst (λ (bs : WordList). Tame bs kept' (own w) (addresses w)) (sym same)
      (subst (λ (n : ℕ). Tame binds kept' (own w) n) (sym (laws.fixed v w p.went.between))
      (tame_on (addresses v) p same (sym (laws.fixed v w p.went.between)) t))

-- the node is the place p
abbrev is_place : ℕ → Node → Bool
is_place p (place a) = nat_eq a p
is_place p (part a) = false
is_place p (count a) = false

place_is : (p : ℕ) (a : Node) → is_place p a ≡ true → a ≡ place p
place_is p (place a) e = ap (λ (z : ℕ). place z) (eqb-true a p e)
place_is p (part a) e = cc
place_is p (count a) e = cc

-- the bindings with one more, at other places and at this one
under_other : (binds : WordList) (p x : ℕ) (m : Memory) (a : ℕ) → nat_eq a p ≡ false → under (binds ++ (p, x) ∷ []) m a ≡ under binds m a
under_other binds p x m a e = go (word_at binds a) refl
  where
    go : (o : Option ℕ) → word_at binds a ≡ o → under (binds ++ (p, x) ∷ []) m a ≡ under binds m a
    go (Some y) i =
        ap (λ (o : Option ℕ). unwrap_or o (m a)) (word_at-append binds p x a ∙ (ap (λ (o : Option ℕ). or_at o (one_at p x a)) i ∙ sym i))
    go None i = ap (λ (o : Option ℕ). unwrap_or o (m a))
        (word_at-append binds p x a ∙
        (ap (λ (o : Option ℕ). or_at o (one_at p x a)) i ∙ (ap (λ (c : Bool). cond c (Some x) None) e ∙ sym i)))

under_this : (binds : WordList) (p x : ℕ) (m : Memory) → word_at binds p ≡ None → under (binds ++ (p, x) ∷ []) m p ≡ x
under_this binds p x m e =
    ap (λ (o : Option ℕ). unwrap_or o (m p))
    (word_at-append binds p x p ∙
    (ap (λ (o : Option ℕ). or_at o (one_at p x p)) e ∙ ap (λ (c : Bool). cond c (Some x) None) (eq-eqb p p refl)))

other_word : (binds : WordList) (p x : ℕ) (m : Memory) (a : Node) → is_place p a ≡ false
    → node_word (binds ++ (p, x) ∷ []) m a ≡ node_word binds m a
other_word binds p x m (place a) e = under_other binds p x m a e
other_word binds p x m (part a) e = refl
other_word binds p x m (count a) e = refl

-- A place is bound to a word from which all walks stay in a set that was walked, in which the place is not.
pub tame_bound : (binds kept : WordList) (own : ℕ → Option ℕ) (n p x : ℕ) → Tame binds kept own n → word_at binds p ≡ None
    → IsSeen kept own p → ((b : Node) → Goes (seen_memory kept own) x b → address b < n) → Walked binds kept own p x
    → Tame (binds ++ (p, x) ∷ []) kept own n
tame_bound binds kept own n p x t none here near w = record {
  rank = layered w.walked t.rank t.top t.rank;
  top = suc t.top + t.top;
  low = layered_low w.walked t.rank t.top t.rank t.top t.low t.low;
  falls = λ a b e. falling a b e (is_place p a) refl;
  within = λ a b e. ⊎_elim (λ o. t.within a b o.1) (λ o. near b o.1) (split a b e);
  inner = λ a. t.inner a || (w.walked a || is_place p a);
  stays = λ a b e i. ⊎_elim (λ o. old_stays a b o.0 o.1 i) (λ o. in_walked b (w.start b o.1)) (split a b e);
  bound_inner = λ a y e. bound_in a y e (nat_eq a p) refl;
  inner_seen = λ a i. seen_in a (t.inner a) (w.walked a) (is_place p a) refl refl refl i;
}
  where
    m : Memory
    m = seen_memory kept own

    -- a step is an old one, or goes on from the word
    split : (a b : Node) → Edge (binds ++ (p, x) ∷ []) m a b
        → ((is_place p a ≡ false) × Edge binds m a b) ⊎ ((is_place p a ≡ true) × Goes m x b)
    split a b e = go (is_place p a) refl
      where
        go : (c : Bool) → is_place p a ≡ c → ((is_place p a ≡ false) × Edge binds m a b) ⊎ ((is_place p a ≡ true) × Goes m x b)
        go false i = inl (i, subst (λ (y : ℕ). Goes m y b) (other_word binds p x m a i) e)
        go true i = inr (
          i,
          subst (λ (y : ℕ). Goes m y b)
              (ap (node_word (binds ++ (p, x) ∷ []) m) (place_is p a i) ∙ under_this binds p x m none) e,
        )

    falling : (a b : Node) → Edge (binds ++ (p, x) ∷ []) m a b → (c : Bool) → is_place p a ≡ c
        → layered w.walked t.rank t.top t.rank b < layered w.walked t.rank t.top t.rank a
    falling a b e true i =
        let none_walked : w.walked a ≡ false = ap w.walked (place_is p a i) ∙ w.free in
        let step : Goes m x b =
        subst (λ (y : ℕ). Goes m y b) (ap (node_word (binds ++ (p, x) ∷ []) m) (place_is p a i) ∙ under_this binds p x m none) e in
        layered_falls w.walked t.rank t.top t.rank a b t.low (λ j. w.start b step)
        (λ j. absurd (let k : true ≡ false = sym j ∙ none_walked in cc))
        (λ _ j. absurd (let k : true ≡ false = sym (w.start b step) ∙ j in cc))
    falling a b e false i =
        let step : Edge binds m a b = subst (λ (y : ℕ). Goes m y b) (other_word binds p x m a i) e in
        layered_falls w.walked t.rank t.top t.rank a b t.low (w.closed a b step) (λ _. t.falls a b step) (λ _ _. t.falls a b step)

    in_inner : (b : Node) → t.inner b ≡ true → (t.inner b || (w.walked b || is_place p b)) ≡ true
    in_inner b i = ap (λ (c : Bool). c || (w.walked b || is_place p b)) i

    or_true : (c d : Bool) → (c || (true || d)) ≡ true
    or_true true d = refl
    or_true false d = refl

    or_last : (c d : Bool) → (c || (d || true)) ≡ true
    or_last true d = refl
    or_last false true = refl
    or_last false false = refl

    in_walked : (b : Node) → w.walked b ≡ true → (t.inner b || (w.walked b || is_place p b)) ≡ true
    in_walked b i = ap (λ (c : Bool). t.inner b || (c || is_place p b)) i ∙ or_true (t.inner b) (is_place p b)

    old_stays : (a b : Node) → is_place p a ≡ false → Edge binds m a b → (t.inner a || (w.walked a || is_place p a)) ≡ true
        → (t.inner b || (w.walked b || is_place p b)) ≡ true
    old_stays a b f e i = go (t.inner a) (w.walked a) refl refl i
      where
        go : (c d : Bool) → t.inner a ≡ c → w.walked a ≡ d → (c || (d || is_place p a)) ≡ true
            → (t.inner b || (w.walked b || is_place p b)) ≡ true
        go true d j k h = in_inner b (t.stays a b e j)
        go false true j k h = in_walked b (w.closed a b e k)
        go false false j k h = absurd (let l : false ≡ true = sym f ∙ h in cc)

    bound_in : (a y : ℕ) → word_at (binds ++ (p, x) ∷ []) a ≡ Some y → (c : Bool) → nat_eq a p ≡ c
        → (t.inner (place a) || (w.walked (place a) || nat_eq a p)) ≡ true
    bound_in a y e true i =
        ap (λ (c : Bool). t.inner (place a) || (w.walked (place a) || c)) i ∙ or_last (t.inner (place a)) (w.walked (place a))
    bound_in a y e false i = go (word_at binds a) refl
      where
        go : (o : Option ℕ) → word_at binds a ≡ o → (t.inner (place a) || (w.walked (place a) || nat_eq a p)) ≡ true
        go (Some z) j = in_inner (place a) (t.bound_inner a z j)
        go None j = absurd (let k : None ≡ Some y = sym
            (word_at-append binds p x a ∙ (ap (λ (o : Option ℕ). or_at o (one_at p x a)) j ∙ ap (λ (c : Bool). cond c (Some x) None) i))
            ∙ e in cc)

    seen_in : (a : Node) (c d e : Bool) → t.inner a ≡ c → w.walked a ≡ d → is_place p a ≡ e → (c || (d || e)) ≡ true
        → IsSeen kept own (address a)
    seen_in a true d e i j k h = t.inner_seen a i
    seen_in a false true e i j k h = w.was_seen a j
    seen_in a false false true i j k h = subst (λ (b : Node). IsSeen kept own (address b)) (sym (place_is p a k)) here
    seen_in a false false false i j k h = absurd (let l : false ≡ true = h in cc)

module _ {S : Type 0} {addresses : S → ℕ} {sound : S → Type 0} {knows : S → ℕ → Type 0} {had : S → ℕ → ℕ → Type 0} {leads : S → ℕ → Type 0}
    {own shown : S → ℕ → Option ℕ} {later : S → S → Type 0} {gave : S → S → ℕ → ℕ → Type 0}
    (laws : WordsLaws {S = S} addresses sound knows had leads own shown later gave) where
  pub bound_tame : {kept binds kept' binds' : WordList} {w : S} (p x : ℕ) → sound w → Holds had leads kept binds w → leads w x
      → kept' ≡ kept → binds' ≡ binds ++ (p, x) ∷ [] → word_at binds p ≡ None → IsSeen kept (own w) p → Walked binds kept (own w) p x
      → Tame binds kept (own w) (addresses w) → Tame binds' kept' (own w) (addresses w)
  bound_tame {kept = kept} {binds = binds} {kept' = kept'} {binds' = binds'} {w = w} p x s h l k b none here walk t =
      subst (λ (ks : WordList). Tame binds' ks (own w) (addresses w)) (sym k)
      (subst (λ (bs : WordList). Tame bs kept (own w) (addresses w)) (sym b)
      (tame_bound binds kept (own w) (addresses w) p x t none here
      (λ n r. laws.in_range w (address n) s (goes_known laws x n s h l r)) walk))
