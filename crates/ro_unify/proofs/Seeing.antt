-- What was seen, and how it grows while only loads are made.
use Rattle.std.proofs.Common.{◌≡◌, ℕ, zero, suc, ◌+◌, ◌<◌, ◌≤◌, Bool, true, false, Option, Some}
use Rattle.std.proofs.Common.{None, refl, sym, ap, ◌∙◌, subst, arith, inl, inr, ⊎_elim}
use Rattle.std.specs.Prelude.{unwrap_or, nat_eq}
use Rattle.std.proofs.Math.Path.{fun_ext}
use Rattle.heap_words.specs.Cells.{decoded, is_final_in}
use Rattle.heap_words.specs.WordsLaws.{WordsLaws, Acyclic}
use Rattle.heap_words.specs.Trails.{WordList, Memory, word_at, Agrees, Holds, KeepsLoads, Says}
use Rattle.heap_words.specs.declared.cell.Cell.{Cell}
use Rattle.heap_words.specs.declared.cell.Cell.TheVariants.{Nil, Cons, Tuple, Raw}
use Rattle.heap_words.proofs.Encodings.{decoded_encoded}
use Rattle.ro_unify.specs.declared.occurrence.Whole.{Whole}
use Rattle.ro_unify.specs.declared.occurrence.Whole.TheVariants as whole
use Rattle.ro_unify.specs.Value.{leads_on}
use Rattle.ro_unify.specs.Occurs.{whole_of, count_of}
use Rattle.ro_unify.specs.Walks.{first_some, seen_at, IsSeen, seen_memory, Node, place, part, count, address}
use Rattle.ro_unify.specs.Walks.{IsPlaceOf, IsPartOf, IsCountOf, Goes, PartsSeen, lacks}
use Rattle.ro_unify.proofs.Leads.{place_stands, is_pair, is_tuple_at, is_raw}

-- the memory of what was seen, with the word d at all other addresses
abbrev pub memory_with : ℕ → WordList → (ℕ → Option ℕ) → Memory
memory_with d kept own a = unwrap_or (seen_at kept own a) d

-- the word of the empty list goes nowhere
nil_is : decoded 6 ≡ Some Nil
nil_is = decoded_encoded Nil tt

pub nil_goes : (m : Memory) (b : Node) → Goes m 6 b → ⊥
nil_goes m (place q) r = subst (λ (o : Option Cell). IsPlaceOf (leads_on false o) q) nil_is r
nil_goes m (part q) r = subst (λ (o : Option Cell). IsPartOf m (whole_of o) q) nil_is r
nil_goes m (count q) r = subst (λ (o : Option Cell). IsCountOf (whole_of o) q) nil_is r

-- a node from which a walk goes on was seen
pub goes_seen : (kept : WordList) (own : ℕ → Option ℕ) (m : Memory) (a : ℕ) (b : Node) → Goes m (seen_memory kept own a) b
    → (x : ℕ) × (seen_at kept own a ≡ Some x) × Goes m x b
goes_seen kept own m a b r = go (seen_at kept own a) refl
  where
    go : (o : Option ℕ) → seen_at kept own a ≡ o → (x : ℕ) × (seen_at kept own a ≡ Some x) × Goes m x b
    go (Some x) e = (x, e, subst (λ (y : ℕ). Goes m y b) (ap (λ (o : Option ℕ). unwrap_or o 6) e) r)
    go None e = absurd (nil_goes m b (subst (λ (y : ℕ). Goes m y b) (ap (λ (o : Option ℕ). unwrap_or o 6) e) r))

pub seen_word : (kept : WordList) (own : ℕ → Option ℕ) (a x : ℕ) → seen_at kept own a ≡ Some x → seen_memory kept own a ≡ x
seen_word kept own a x e = ap (λ (o : Option ℕ). unwrap_or o 6) e

-- counts above 0 stand at an address that was seen
count_seen : (kept : WordList) (own : ℕ → Option ℕ) (a : ℕ) → 0 < count_of (decoded (seen_memory kept own a))
    → (x : ℕ) × (seen_at kept own a ≡ Some x) × (seen_memory kept own a ≡ x)
count_seen kept own a h = go (seen_at kept own a) refl
  where
    go : (o : Option ℕ) → seen_at kept own a ≡ o → (x : ℕ) × (seen_at kept own a ≡ Some x) × (seen_memory kept own a ≡ x)
    go (Some x) e = (x, e, seen_word kept own a x e)
    go None e = absurd (let k : count_of (decoded (seen_memory kept own a)) ≡ 0 = ap
        (λ (o : Option ℕ). count_of (decoded (unwrap_or o 6))) e ∙ ap count_of nil_is in omega arith)

-- a rank falls from an address to a node, unless this is the number of a tuple's parts, where a walk ends
abbrev pub Falls : (ℕ → ℕ) → ℕ → Node → Type 0
Falls f a (place b) = f b < f a
Falls f a (part b) = f b < f a
Falls f a (count b) = Unit {0}

module _ {S : Type 0} {addresses : S → ℕ} {sound : S → Type 0} {knows : S → ℕ → Type 0} {had : S → ℕ → ℕ → Type 0} {leads : S → ℕ → Type 0}
    {own shown : S → ℕ → Option ℕ} {later : S → S → Type 0} {gave : S → S → ℕ → ℕ → Type 0}
    (laws : WordsLaws {S = S} addresses sound knows had leads own shown later gave) where
  -- what was seen was loaded
  pub seen_had : {kept binds : WordList} {w : S} (a x : ℕ) → sound w → Holds had leads kept binds w → seen_at kept (own w) a ≡ Some x
      → had w a x
  seen_had {kept = kept} {w = w} a x s h e = go (word_at kept a) refl
    where
      go : (o : Option ℕ) → word_at kept a ≡ o → had w a x
      go (Some z) i = h.kept_had a x (i ∙ (sym (ap (λ (o : Option ℕ). first_some o (own w a)) i) ∙ e))
      go None i = laws.own_had w a x s (sym (ap (λ (o : Option ℕ). first_some o (own w a)) i) ∙ e)

  -- a memory that has what was seen agrees with it
  pub agrees : {kept binds : WordList} {w : S} (d : ℕ) → Holds had leads kept binds w → Agrees (own w) kept (memory_with d kept (own w))
  agrees {kept = kept} {w = w} d h = record {
    kept_same = λ a x e. ap (λ (o : Option ℕ). unwrap_or (first_some o (own w a)) d) e;
    own_same = λ a x e. go a x e (word_at kept a) refl;
  }
    where
      go : (a x : ℕ) → own w a ≡ Some x → (o : Option ℕ) → word_at kept a ≡ o → memory_with d kept (own w) a ≡ x
      go a x e None i = ap (λ (o : Option ℕ). unwrap_or (first_some o (own w a)) d) i ∙ ap (λ (o : Option ℕ). unwrap_or o d) e
      go a x e (Some z) i =
          absurd (let lo : 4000000000 ≤ a = laws.own_range w a x e in let hi : a < 4000000000 = h.kept_below a z i in omega arith)

  -- what is said of every memory that agrees is said of an address that was seen
  pub said_seen : {kept binds : WordList} {w : S} (a x : ℕ) → Holds had leads kept binds w → Says (own w) kept (λ m. m a ≡ x)
      → IsSeen kept (own w) a
  said_seen {kept = kept} {w = w} a x h f = go (seen_at kept (own w) a) refl
    where
      go : (o : Option ℕ) → seen_at kept (own w) a ≡ o → IsSeen kept (own w) a
      go (Some z) i = record { word = z; there = i }
      go None i =
          let j : 6 ≡ x = sym (ap (λ (o : Option ℕ). unwrap_or o 6) i) ∙ f (memory_with 6 kept (own w)) (agrees 6 h) in
          let k : 7 ≡ x = sym (ap (λ (o : Option ℕ). unwrap_or o 7) i) ∙ f (memory_with 7 kept (own w)) (agrees 7 h) in
          absurd (omega arith)

  -- where a walk goes on from a word that stands at a: to known addresses, and downwards in the final words shown
  pub goes_known : {kept binds : WordList} {w : S} (x : ℕ) (b : Node) → sound w → Holds had leads kept binds w → leads w x
      → Goes (seen_memory kept (own w)) x b → knows w (address b)
  goes_known {kept = kept} {binds = binds} {w = w} x (place q) s h l r = go (leads_on false (decoded x)) refl r
    where
      go : (o : Option (Bool × ℕ)) → leads_on false (decoded x) ≡ o → IsPlaceOf o q → knows w q
      go (Some p) e i = let t = place_stands (decoded x) false p.0 p.1 e in laws.reaches w x q t.cell s l t.is (t.refers q (inl i))
      go None e i = absurd i
  goes_known {kept = kept} {binds = binds} {w = w} x (part q) s h l r = go (whole_of (decoded x)) refl r
    where
      tuple : (a : ℕ) → whole_of (decoded x) ≡ whole.Tuple a → (a < q) × (q ≤ a + count_of (decoded (seen_memory kept (own w) a)))
          → knows w q
      tuple a e i =
          let c = count_seen kept (own w) a (omega (arith, i)) in
          let n = is_raw (decoded (seen_memory kept (own w) a)) (omega (arith, i)) in
          laws.reaches_by w x a c.0 n.0 q (Tuple a) s l (is_tuple_at (decoded x) a e) refl (seen_had a c.0 s h c.1)
          (ap decoded (sym c.2) ∙ n.1) (i.0, omega (arith, i, n.2))

      go : (o : Whole) → whole_of (decoded x) ≡ o → IsPartOf (seen_memory kept (own w)) o q → knows w q
      go whole.Atom e i = absurd i
      go (whole.Pair a) e i =
          laws.reaches w x q (Cons a) s l (is_pair (decoded x) a e)
          (⊎_elim (λ j. inl j) (λ j. inr (let k : q ≡ suc a = omega arith in k)) i)
      go (whole.Tuple a) e i = tuple a e i
  goes_known {kept = kept} {binds = binds} {w = w} x (count q) s h l r = go (whole_of (decoded x)) refl r
    where
      go : (o : Whole) → whole_of (decoded x) ≡ o → IsCountOf o q → knows w q
      go whole.Atom e i = absurd i
      go (whole.Pair a) e i = absurd i
      go (whole.Tuple a) e i = laws.reaches w x q (Tuple a) s l (is_tuple_at (decoded x) a e) i

  pub goes_down : {kept binds : WordList} {w : S} (a x : ℕ) (b : Node) → sound w → Holds had leads kept binds w
      → seen_at kept (own w) a ≡ Some x → Goes (seen_memory kept (own w)) x b → (s : Acyclic (shown w)) → Falls s.rank a b
  goes_down {kept = kept} {binds = binds} {w = w} a x (place q) s h e r k = go (leads_on false (decoded x)) refl r
    where
      go : (o : Option (Bool × ℕ)) → leads_on false (decoded x) ≡ o → IsPlaceOf o q → k.rank q < k.rank a
      go (Some p) f i =
          let t =
          place_stands (decoded x) false p.0 p.1 f in k.falls a q x t.cell (laws.had_shown w a x s (seen_had a x s h e) t.final) t.is
          (t.reaches q i)
      go None f i = absurd i
  goes_down {kept = kept} {binds = binds} {w = w} a x (part q) s h e r k = go (whole_of (decoded x)) refl r
    where
      at : (c : Cell) → decoded x ≡ Some c → is_final_in (Some c) ≡ true → shown w a ≡ Some x
      at c i f = laws.had_shown w a x s (seen_had a x s h e) (ap is_final_in i ∙ f)

      tuple : (t : ℕ) → decoded x ≡ Some (Tuple t) → (t < q) × (q ≤ t + count_of (decoded (seen_memory kept (own w) t)))
          → k.rank q < k.rank a
      tuple t f i =
          let c = count_seen kept (own w) t (omega (arith, i)) in
          let n = is_raw (decoded (seen_memory kept (own w) t)) (omega (arith, i)) in
          let raw : decoded c.0 ≡ Some (Raw n.0) = ap decoded (sym c.2) ∙ n.1 in
          k.falls_by a q x t c.0 n.0 (Tuple t) (at (Tuple t) f refl) f refl
          (laws.had_shown w t c.0 s (seen_had t c.0 s h c.1) (ap is_final_in raw)) raw (i.0, omega (arith, i, n.2))

      go : (o : Whole) → whole_of (decoded x) ≡ o → IsPartOf (seen_memory kept (own w)) o q → k.rank q < k.rank a
      go whole.Atom f i = absurd i
      go (whole.Pair c) f i =
          k.falls a q x (Cons c) (at (Cons c) (is_pair (decoded x) c f) refl) (is_pair (decoded x) c f)
          (⊎_elim (λ j. inl j) (λ j. inr (let l : q ≡ suc c = omega arith in l)) i)
      go (whole.Tuple t) f i = tuple t (is_tuple_at (decoded x) t f) i
  goes_down a x (count q) s h e r k = tt

  -- what was seen before is seen after more loads
  module _ {kept binds kept' binds' : WordList} {v w : S} (p : KeepsLoads sound had leads later gave kept binds v kept' binds' w) where
    pub own_kept_on : own w ≡ own v
    own_kept_on = fun_ext (λ a. laws.same_own v w a p.went.between)

    pub seen_on : (a x : ℕ) → seen_at kept (own v) a ≡ Some x → seen_at kept' (own w) a ≡ Some x
    seen_on a x e = go (word_at kept a) (word_at kept' a) refl refl
      where
        go : (o o' : Option ℕ) → word_at kept a ≡ o → word_at kept' a ≡ o' → seen_at kept' (own w) a ≡ Some x
        go (Some z) o' i j =
            let f : Some z ≡ Some x = sym (ap (λ (o : Option ℕ). first_some o (own v a)) i) ∙ e in
            ap (λ (o : Option ℕ). first_some o (own w a)) (p.went.grows a x (i ∙ f))
        go None None i j =
            ap (λ (o : Option ℕ). first_some o (own w a)) j ∙
            (laws.same_own v w a p.went.between ∙ (sym (ap (λ (o : Option ℕ). first_some o (own v a)) i) ∙ e))
        go None (Some z) i j = absurd (
            let f : own v a ≡ Some x = sym (ap (λ (o : Option ℕ). first_some o (own v a)) i) ∙ e in
            let lo : 4000000000 ≤ a = laws.own_range v a x f in
            let hi : a < 4000000000 = p.holds.kept_below a z j in omega arith)

    pub is_seen_on : (a : ℕ) → IsSeen kept (own v) a → IsSeen kept' (own w) a
    is_seen_on a i = record { word = i.word; there = seen_on a i.word i.there }

    pub same_word : (a : ℕ) → IsSeen kept (own v) a → seen_memory kept' (own w) a ≡ seen_memory kept (own v) a
    same_word a i = seen_word kept' (own w) a i.word (seen_on a i.word i.there) ∙ sym (seen_word kept (own v) a i.word i.there)

    -- a kept word that is new stands at an address of the words
    pub new_within : (a x : ℕ) → word_at kept a ≡ None → word_at kept' a ≡ Some x → a < addresses w
    new_within a x i j = laws.in_range w a p.sound (laws.had_known w a x p.sound (p.holds.kept_had a x j))

-- how many addresses a list lacks
pub lacks_less : (seen seen' : WordList) (n : ℕ) → ((a x : ℕ) → word_at seen a ≡ Some x → word_at seen' a ≡ Some x)
    → lacks seen' n ≤ lacks seen n
lacks_less seen seen' zero h = omega arith
lacks_less seen seen' (suc n) h = go (lacks_less seen seen' n h) (word_at seen n) (word_at seen' n) refl refl
  where
    go : lacks seen' n ≤ lacks seen n → (o o' : Option ℕ) → word_at seen n ≡ o → word_at seen' n ≡ o'
        → lacks seen' (suc n) ≤ lacks seen (suc n)
    go rec (Some x) o' i j = let k : word_at seen' n ≡ Some x = h n x i in rw (i, k) (omega (arith, rec))
    go rec None (Some y) i j = rw (i, j) (omega (arith, rec))
    go rec None None i j = rw (i, j) (omega (arith, rec))

pub lacks_strict : (seen seen' : WordList) (n a x : ℕ) → ((a x : ℕ) → word_at seen a ≡ Some x → word_at seen' a ≡ Some x) → a < n
    → word_at seen a ≡ None → word_at seen' a ≡ Some x → lacks seen' n < lacks seen n
lacks_strict seen seen' zero a x h l i j = absurd (omega arith)
lacks_strict seen seen' (suc n) a x h l i j = go (lacks_strict seen seen' n a x h) (nat_eq a n) refl
  where
    less : lacks seen' n ≤ lacks seen n
    less = lacks_less seen seen' n h

    here : a ≡ n → lacks seen' (suc n) < lacks seen (suc n)
    here e =
        let i' : word_at seen n ≡ None = subst (λ (z : ℕ). word_at seen z ≡ None) e i in
        let j' : word_at seen' n ≡ Some x = subst (λ (z : ℕ). word_at seen' z ≡ Some x) e j in
        rw (i', j') (omega (arith, less))

    below : lacks seen' n < lacks seen n → (o o' : Option ℕ) → word_at seen n ≡ o → word_at seen' n ≡ o'
        → lacks seen' (suc n) < lacks seen (suc n)
    below rec (Some y) o' e f = let k : word_at seen' n ≡ Some y = h n y e in rw (e, k) (omega (arith, rec))
    below rec None (Some y) e f = rw (e, f) (omega (arith, rec))
    below rec None None e f = rw (e, f) (omega (arith, rec))

    go : (a < n → word_at seen a ≡ None → word_at seen' a ≡ Some x → lacks seen' n < lacks seen n) → (t : Bool) → nat_eq a n ≡ t
        → lacks seen' (suc n) < lacks seen (suc n)
    go rec true e = here (let k : a ≡ n = grind arith in k)
    go rec false e = below (rec (let k : a < n = grind arith in k) i j) (word_at seen n) (word_at seen' n) refl refl

module _ {S : Type 0} {addresses : S → ℕ} {sound : S → Type 0} {knows : S → ℕ → Type 0} {had : S → ℕ → ℕ → Type 0} {leads : S → ℕ → Type 0}
    {own shown : S → ℕ → Option ℕ} {later : S → S → Type 0} {gave : S → S → ℕ → ℕ → Type 0}
    (laws : WordsLaws {S = S} addresses sound knows had leads own shown later gave) where
  -- where nothing new was kept, what was seen is the same
  pub nothing_new : {kept binds kept' binds' : WordList} {v w : S} → KeepsLoads sound had leads later gave kept binds v kept' binds' w
      → lacks kept' (addresses w) ≡ lacks kept (addresses w) → seen_memory kept' (own w) ≡ seen_memory kept (own v)
  nothing_new {kept = kept} {kept' = kept'} {v = v} {w = w} p e =
      fun_ext (λ a. ap (λ (o : Option ℕ). unwrap_or o 6) (at a (word_at kept a) (word_at kept' a) refl refl))
    where
      at : (a : ℕ) (o o' : Option ℕ) → word_at kept a ≡ o → word_at kept' a ≡ o' → seen_at kept' (own w) a ≡ seen_at kept (own v) a
      at a (Some x) o' i j =
          ap (λ (o : Option ℕ). first_some o (own w a)) (p.went.grows a x i) ∙ sym (ap (λ (o : Option ℕ). first_some o (own v a)) i)
      at a None None i j =
          ap (λ (o : Option ℕ). first_some o (own w a)) j ∙
          (laws.same_own v w a p.went.between ∙ sym (ap (λ (o : Option ℕ). first_some o (own v a)) i))
      at a None (Some x) i j =
          absurd (let l : lacks kept' (addresses w) < lacks kept (addresses w) = lacks_strict kept kept' (addresses w) a x p.went.grows
          (new_within laws p a x i j) i j in omega arith)

  -- an address that was seen before, or that was loaded now
  pub seen_or_new : {kept binds kept' binds' : WordList} {v w : S} (b a x : ℕ)
      → KeepsLoads sound had leads later gave kept binds v kept' binds' w → Says (own w) kept' (λ m. m a ≡ x) → a ≤ b
      → (a < b → IsSeen kept (own v) b) → IsSeen kept' (own w) b
  seen_or_new {kept = kept} {binds = binds} {kept' = kept'} {binds' = binds'} {v = v} {w = w} b a x p says l old = go (nat_eq a b) refl
    where
      go : (t : Bool) → nat_eq a b ≡ t → IsSeen kept' (own w) b
      go true e = subst (λ (c : ℕ). IsSeen kept' (own w) c) (let k : a ≡ b = grind arith in k) (said_seen laws a x p.holds says)
      go false e = is_seen_on laws p b (old (let k : a < b = grind arith in k))

  -- the parts of a tuple and their number
  pub tuple_seen : {k1 b1 k2 b2 k3 b3 : WordList} {u v w : S} (o : Whole) (a y : ℕ) {n : ℕ} → whole.Tuple a ≡ o
      → KeepsLoads sound had leads later gave k1 b1 u k2 b2 v → KeepsLoads sound had leads later gave k2 b2 v k3 b3 w
      → Says (own v) k2 (λ m. m a ≡ y) → n ≡ count_of (decoded y)
      → ((b : ℕ) → a < b → b ≤ a + n → IsSeen k3 (own w) b) → PartsSeen k3 (own w) o
  tuple_seen {k2 = k2} {k3 = k3} {v = v} {w = w} o a y {n = n} e p q says c h = subst (λ (o : Whole). PartsSeen k3 (own w) o) e (record {
    parts = λ b i. h b i.0
        (let k : count_of (decoded (seen_memory k3 (own w) a)) ≡ n = ap (λ (z : ℕ). count_of (decoded z)) word ∙ sym c in omega
        (arith, i.1, k));
    number = λ b i. subst (λ (z : ℕ). IsSeen k3 (own w) z) (sym i) (is_seen_on laws q a here);
  })
    where
      here : IsSeen k2 (own v) a
      here = said_seen laws a y p.holds says

      word : seen_memory k3 (own w) a ≡ y
      word = same_word laws q a here ∙ says (seen_memory k2 (own v)) (agrees laws 6 p.holds)

pub pair_seen : (kept : WordList) (own : ℕ → Option ℕ) (o : Whole) (a : ℕ) → whole.Pair a ≡ o → IsSeen kept own a → IsSeen kept own (a + 1)
    → PartsSeen kept own o
pair_seen kept own o a e h k = subst (λ (o : Whole). PartsSeen kept own o) e (record {
  parts = λ b i. ⊎_elim (λ j. subst (λ (z : ℕ). IsSeen kept own z) (sym j) h) (λ j. subst (λ (z : ℕ). IsSeen kept own z) (sym j) k) i;
  number = λ b i. absurd i;
})

pub atom_seen : (kept : WordList) (own : ℕ → Option ℕ) (o : Whole) → whole.Atom ≡ o → PartsSeen kept own o
atom_seen kept own o e = subst (λ (o : Whole). PartsSeen kept own o) e (record { parts = λ b i. absurd i; number = λ b i. absurd i })
