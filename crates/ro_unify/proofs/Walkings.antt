-- An occurs check as a walk whose nodes are done or wait on the work list.
use Rattle.std.proofs.Common.{◌≡◌, ℕ, zero, suc, ◌+◌, ◌<◌, ◌≤◌, Bool, true, false, List, [], ◌∷◌, ◌++◌, Option}
use Rattle.std.proofs.Common.{Some, None, refl, sym, ap, ◌∙◌, subst, arith, inl, inr, ⊎_elim}
use Rattle.std.specs.Prelude.{◌⊎◌, ◌||◌, ◌&&◌, nat_eq, nat_lt, nat_le, unwrap_or}
use Rattle.std.proofs.lemmas.Bool.{eqb-true, eq-eqb}
use Rattle.std.proofs.lemmas.Bool.Decides.{nat_tests}
use Rattle.heap_words.specs.Cells.{decoded}
use Rattle.heap_words.specs.WordsLaws.{WordsLaws}
use Rattle.heap_words.specs.Trails.{WordList, Memory, word_at, KeepsLoads, Says}
use Rattle.ro_unify.specs.declared.look.Look.{Look}
use Rattle.ro_unify.specs.declared.look.Look.TheVariants.{Writable, ReadOnly, Solid}
use Rattle.ro_unify.specs.declared.occurrence.Whole.{Whole}
use Rattle.ro_unify.specs.declared.occurrence.Whole.TheVariants.{Atom, Pair, Tuple}
use Rattle.ro_unify.specs.Value.{leads_on, Values, IsOpen, is_unbound}
use Rattle.ro_unify.specs.Occurs.{whole_of, count_of, parts_of, words_after, open_of, Visits, is_leaf}
use Rattle.ro_unify.specs.Walks.{IsSeen, seen_memory, Node, place, part, count, address, node_word, IsPlaceOf}
use Rattle.ro_unify.specs.Walks.{IsPartOf, IsCountOf, Goes, Edge, Tame, Walked, LookSeen}
use Rattle.ro_unify.proofs.Chains.{Chain, GoesLook, chain_of, open_seen, open_ends, at_place, at_place_is, same_at_place}
use Rattle.ro_unify.proofs.Chains.{or_split, or_left, or_right, place_only, value_no_ref}
use Rattle.ro_unify.proofs.Ending.{tame_later}
use Rattle.ro_unify.proofs.Seeing.{memory_with, nil_goes, agrees, is_seen_on, same_word}

abbrev pub IsIn : ℕ → List ℕ → Type 0
IsIn y [] = ⊥
IsIn y (z ∷ zs) = (y ≡ z) ⊎ IsIn y zs

in_left : (y : ℕ) (xs ys : List ℕ) → IsIn y xs → IsIn y (xs ++ ys)
in_left y [] ys h = absurd h
in_left y (x ∷ xs) ys h = ⊎_elim (λ i. inl i) (λ i. inr (in_left y xs ys i)) h

in_right : (y : ℕ) (xs ys : List ℕ) → IsIn y ys → IsIn y (xs ++ ys)
in_right y [] ys h = h
in_right y (x ∷ xs) ys h = inr (in_right y xs ys h)

-- all to which a walk goes on from the word was walked
abbrev pub IsDone : Memory → (Node → Bool) → ℕ → Type 0
IsDone m walked y = (b : Node) → Goes m y b → walked b ≡ true

pub record Walking (bs kept : WordList) (own : ℕ → Option ℕ) (p x : ℕ) (ws : List ℕ) : Type 0 where
  pub walked : Node → Bool
  pub start : IsDone (seen_memory kept own) walked x ⊎ IsIn x ws
  pub closed : (a : Node) → walked a ≡ true
      → IsDone (seen_memory kept own) walked (node_word bs (seen_memory kept own) a) ⊎ IsIn (node_word bs (seen_memory kept own) a) ws
  pub was_seen : (a : Node) → walked a ≡ true → IsSeen kept own (address a)
  pub free : walked (place p) ≡ false

pub walking_first : (bs kept : WordList) (own : ℕ → Option ℕ) (p x : ℕ) → Walking bs kept own p x (x ∷ [])
walking_first bs kept own p x = record {
  walked = λ _. false;
  start = inr (inl refl);
  closed = λ a i. absurd (let h : false ≡ true = i in cc);
  was_seen = λ a i. absurd (let h : false ≡ true = i in cc);
  free = refl;
}

pub walking_last : (bs kept : WordList) (own : ℕ → Option ℕ) (p x : ℕ) → Walking bs kept own p x [] → Walked bs kept own p x
walking_last bs kept own p x w = record {
  walked = w.walked;
  start = ⊎_elim (λ d. d) (λ i. absurd i) w.start;
  closed = λ a b e i. ⊎_elim (λ (d : IsDone (seen_memory kept own) w.walked (node_word bs (seen_memory kept own) a)). d b e)
      (λ k. absurd k) (w.closed a i);
  was_seen = w.was_seen;
  free = w.free;
}

-- whether a part, or the number, is a word's
abbrev in_parts : Memory → Whole → ℕ → Bool
in_parts m Atom b = false
in_parts m (Pair a) b = nat_eq b a || nat_eq b (a + 1)
in_parts m (Tuple a) b = nat_lt a b && nat_le b (a + count_of (decoded (m a)))

abbrev in_number : Whole → ℕ → Bool
in_number Atom b = false
in_number (Pair a) b = false
in_number (Tuple a) b = nat_eq b a

abbrev in_whole : Memory → Whole → Node → Bool
in_whole m w (place b) = false
in_whole m w (part b) = in_parts m w b
in_whole m w (count b) = in_number w b

part_in : (m : Memory) (w : Whole) (b : ℕ) → IsPartOf m w b → in_parts m w b ≡ true
part_in m Atom b i = absurd i
part_in m (Pair a) b i =
    ⊎_elim (λ j. or_left (nat_eq b a) (nat_eq b (a + 1)) (eq-eqb b a j))
    (λ j. or_right (nat_eq b a) (nat_eq b (a + 1)) (eq-eqb b (a + 1) j)) i
part_in m (Tuple a) b i = grind (arith, nat_tests, i.0, i.1)

in_part : (m : Memory) (w : Whole) (b : ℕ) → in_parts m w b ≡ true → IsPartOf m w b
in_part m Atom b i = absurd (let h : false ≡ true = i in cc)
in_part m (Pair a) b i = ⊎_elim (λ j. inl (eqb-true b a j)) (λ j. inr (eqb-true b (a + 1) j)) (or_split (nat_eq b a) (nat_eq b (a + 1)) i)
in_part m (Tuple a) b i = (grind (arith, nat_tests, i), grind (arith, nat_tests, i))

number_in : (w : Whole) (b : ℕ) → IsCountOf w b → in_number w b ≡ true
number_in Atom b i = absurd i
number_in (Pair a) b i = absurd i
number_in (Tuple a) b i = eq-eqb b a i

in_count : (w : Whole) (b : ℕ) → in_number w b ≡ true → IsCountOf w b
in_count Atom b i = absurd (let h : false ≡ true = i in cc)
in_count (Pair a) b i = absurd (let h : false ≡ true = i in cc)
in_count (Tuple a) b i = eqb-true b a i

-- the words of parts
word_after : (m : Memory) (a n b : ℕ) → a < b → b ≤ a + n → IsIn (m b) (words_after m a n)
word_after m a zero b l u = absurd (omega arith)
word_after m a (suc n) b l u = go (word_after m (a + 1) n b) (nat_eq b (a + 1)) refl
  where
    go : (a + 1 < b → b ≤ a + 1 + n → IsIn (m b) (words_after m (a + 1) n)) → (t : Bool) → nat_eq b (a + 1) ≡ t
        → IsIn (m b) (m (a + 1) ∷ words_after m (a + 1) n)
    go rec true e = inl (ap m (eqb-true b (a + 1) e))
    go rec false e = inr (rec (let k : a + 1 < b = grind (arith, nat_tests, l) in k) (omega (arith, u)))

part_word : (m : Memory) (w : Whole) (b : ℕ) → IsPartOf m w b → IsIn (m b) (parts_of m w)
part_word m Atom b i = absurd i
part_word m (Pair a) b i = ⊎_elim (λ j. inl (ap m j)) (λ j. inr (inl (ap m j))) i
part_word m (Tuple a) b i = word_after m a (count_of (decoded (m a))) b i.0 i.1

-- a word that is no reference goes on to its parts and their number
solid_goes : (m : Memory) (x : ℕ) (b : Node) → leads_on false (decoded x) ≡ None → Goes m x b → in_whole m (whole_of (decoded x)) b ≡ true
solid_goes m x (place b) e r = absurd (subst (λ (o : Option (Bool × ℕ)). IsPlaceOf o b) e r)
solid_goes m x (part b) e r = part_in m (whole_of (decoded x)) b r
solid_goes m x (count b) e r = number_in (whole_of (decoded x)) b r

module _ {S : Type 0} {addresses : S → ℕ} {sound : S → Type 0} {knows : S → ℕ → Type 0} {had : S → ℕ → ℕ → Type 0} {leads : S → ℕ → Type 0}
    {own shown : S → ℕ → Option ℕ} {later : S → S → Type 0} {gave : S → S → ℕ → ℕ → Type 0}
    (laws : WordsLaws {S = S} addresses sound knows had leads own shown later gave) where
  -- what is done stays done when more is loaded
  done_on : {kept binds kept' binds' : WordList} {v w : S} (walked : Node → Bool) (y : ℕ)
      → KeepsLoads sound had leads later gave kept binds v kept' binds' w
      → ((a : Node) → walked a ≡ true → IsSeen kept (own v) (address a)) → IsDone (seen_memory kept (own v)) walked y
      → IsDone (seen_memory kept' (own w)) walked y
  done_on {kept = kept} {kept' = kept'} {v = v} {w = w} walked y p s d (place q) r = d (place q) r
  done_on {kept = kept} {kept' = kept'} {v = v} {w = w} walked y p s d (count q) r = d (count q) r
  done_on {kept = kept} {kept' = kept'} {v = v} {w = w} walked y p s d (part q) r = d (part q) (go (whole_of (decoded y)) refl r)
    where
      go : (o : Whole) → whole_of (decoded y) ≡ o → IsPartOf (seen_memory kept' (own w)) o q → IsPartOf (seen_memory kept (own v)) o q
      go Atom e j = j
      go (Pair c) e j = j
      go (Tuple c) e j =
          let k : seen_memory kept' (own w) c ≡ seen_memory kept (own v) c =
          same_word laws p c (s (count c) (d (count c) (subst (λ (o : Whole). IsCountOf o c) (sym e) refl))) in
          (j.0, subst (λ (x : ℕ). q ≤ c + count_of (decoded x)) k j.1)

  pub walking_on : {kept binds kept' binds' : WordList} {v w : S} (p x : ℕ) (ws : List ℕ)
      → KeepsLoads sound had leads later gave kept binds v kept' binds' w → Walking binds kept (own v) p x ws
      → Walking binds kept' (own w) p x ws
  walking_on {kept = kept} {binds = binds} {kept' = kept'} {v = v} {w = w} p x ws l k = record {
    walked = k.walked;
    start = ⊎_elim (λ (d : IsDone (seen_memory kept (own v)) k.walked x). inl (done_on k.walked x l k.was_seen d)) (λ i. inr i) k.start;
    closed = λ a i. moved a i (k.closed a i);
    was_seen = λ a i. is_seen_on laws l (address a) (k.was_seen a i);
    free = k.free;
  }
    where
      word_same : (a : Node) → k.walked a ≡ true
          → node_word binds (seen_memory kept' (own w)) a ≡ node_word binds (seen_memory kept (own v)) a
      word_same (place a) i = ap (λ (z : ℕ). unwrap_or (word_at binds a) z) (same_word laws l a (k.was_seen (place a) i))
      word_same (part a) i = same_word laws l a (k.was_seen (part a) i)
      word_same (count a) i = refl

      moved : (a : Node) → k.walked a ≡ true
          → IsDone (seen_memory kept (own v)) k.walked (node_word binds (seen_memory kept (own v)) a)
          ⊎ IsIn (node_word binds (seen_memory kept (own v)) a) ws
          → IsDone (seen_memory kept' (own w)) k.walked (node_word binds (seen_memory kept' (own w)) a)
          ⊎ IsIn (node_word binds (seen_memory kept' (own w)) a) ws
      moved a i c = subst (λ (y : ℕ). IsDone (seen_memory kept' (own w)) k.walked y ⊎ IsIn y ws) (sym (word_same a i))
          (⊎_elim (λ (d : IsDone (seen_memory kept (own v)) k.walked (node_word binds (seen_memory kept (own v)) a)). inl
          (done_on k.walked (node_word binds (seen_memory kept (own v)) a) l k.was_seen d)) (λ j. inr j) c)

-- A word in front was visited: the places on the way to its value are walked, and its parts.
module _ (bs kept : WordList) (own : ℕ → Option ℕ) (p x : ℕ) where
  visited_as : (w : ℕ) (ws ws' : List ℕ) (l : Look) (extra : Node → Bool) → Walking bs kept own p x (w ∷ ws) → (c : Chain bs kept own w l)
      → ((b : Node) → GoesLook (seen_memory kept own) l b → extra b ≡ true)
      → ((b : Node) → extra b ≡ true
      → IsDone (seen_memory kept own) (λ _. false) (node_word bs (seen_memory kept own) b)
      ⊎ IsIn (node_word bs (seen_memory kept own) b) ws')
      → ((b : Node) → extra b ≡ true → IsSeen kept own (address b))
      → c.chain (place p) ≡ false → extra (place p) ≡ false
      → ((y : ℕ) → IsIn y ws → IsIn y ws')
      → Walking bs kept own p x ws'
  visited_as w ws ws' l extra k c after wait seen cfree efree rest = record {
    walked = all;
    start = further x k.start;
    closed = λ a i. ⊎_elim (λ j. further (node_word bs (seen_memory kept own) a) (k.closed a j))
        (λ j. ⊎_elim (λ h. inl (chained a h))
        (λ h. ⊎_elim (λ (d : IsDone (seen_memory kept own) (λ _. false) (node_word bs (seen_memory kept own) a)). inl
        (λ b r. absurd (let q : false ≡ true = d b r in cc))) (λ q. inr q) (wait a h)) (or_split (c.chain a) (extra a) j))
        (or_split (k.walked a) (c.chain a || extra a) i);
    was_seen = λ a i. ⊎_elim (λ j. k.was_seen a j) (λ j. ⊎_elim (λ h. c.was_seen a h) (λ h. seen a h) (or_split (c.chain a) (extra a) j))
        (or_split (k.walked a) (c.chain a || extra a) i);
    free = ap (λ (d : Bool). d || (c.chain (place p) || extra (place p))) k.free ∙ (ap (λ (d : Bool). d || extra (place p)) cfree ∙ efree);
  }
    where
      all : Node → Bool
      all b = k.walked b || (c.chain b || extra b)

      of_chain : (b : Node) → (c.chain b ≡ true) ⊎ GoesLook (seen_memory kept own) l b → all b ≡ true
      of_chain b h =
          or_right (k.walked b) (c.chain b || extra b)
          (⊎_elim (λ i. or_left (c.chain b) (extra b) i) (λ i. or_right (c.chain b) (extra b) (after b i)) h)

      chained : (a : Node) → c.chain a ≡ true → IsDone (seen_memory kept own) all (node_word bs (seen_memory kept own) a)
      chained a h b r = of_chain b (c.closed a b r h)

      further : (y : ℕ) → IsDone (seen_memory kept own) k.walked y ⊎ IsIn y (w ∷ ws) → IsDone (seen_memory kept own) all y ⊎ IsIn y ws'
      further y h = ⊎_elim
          (λ (d : IsDone (seen_memory kept own) k.walked y). inl (λ b r. or_left (k.walked b) (c.chain b || extra b) (d b r)))
          (λ i. ⊎_elim (λ j. inl (λ b r. of_chain b (c.start b (subst (λ (z : ℕ). Goes (seen_memory kept own) z b) j r))))
          (λ j. inr (rest y j)) i) h

  open_visited : (n w : ℕ) (ws ws' : List ℕ) (l : Look) (a : ℕ) → Tame bs kept own n → IsOpen bs (seen_memory kept own) p
      → open_of l ≡ Some a → ((b : Node) → GoesLook (seen_memory kept own) l b → ⊥)
      → Values bs (seen_memory kept own) false w l → Values bs (memory_with 7 kept own) false w l → nat_eq a p ≡ false → ws' ≡ ws
      → Walking bs kept own p x (w ∷ ws) → Walking bs kept own p x ws'
  open_visited n w ws ws' l a t o e none v u f q k =
      visited_as w ws ws' l (λ _. false) k c (λ b g. absurd (none b g)) (λ b i. absurd (let h : false ≡ true = i in cc))
      (λ b i. absurd (let h : false ≡ true = i in cc)) shut refl (λ y i. subst (λ (zs : List ℕ). IsIn y zs) (sym q) i)
    where
      c : Chain bs kept own w l
      c = chain_of bs kept own n t false w l v u

      shut : c.chain (place p) ≡ false
      shut = go (c.chain (place p)) refl
        where
          go : (d : Bool) → c.chain (place p) ≡ d → c.chain (place p) ≡ false
          go false i = i
          go true i = absurd (let g : Some a ≡ Some p = sym e ∙ c.only_end p o i in let h : a ≡ p = cc in let j : true ≡ false = sym
              (eq-eqb a p h) ∙ f in cc)

  pub walking_visited : (n w : ℕ) (ws rs ws' rs' : List ℕ) (l : Look) → Tame bs kept own n → IsOpen bs (seen_memory kept own) p
      → Visits bs (seen_memory kept own) w ws rs ws' rs' l → Visits bs (memory_with 7 kept own) w ws rs ws' rs' l → LookSeen kept own l
      → is_leaf l p ≡ false
      → Walking bs kept own p x (w ∷ ws) → Walking bs kept own p x ws'
  walking_visited n w ws rs ws' rs' (Writable a) t o v u s f k = open_visited n w ws ws' (Writable a) a t o refl (λ b g. g) v.0 u.0 f v.1 k
  walking_visited n w ws rs ws' rs' (ReadOnly a) t o v u s f k = open_visited n w ws ws' (ReadOnly a) a t o refl (λ b g. g) v.0 u.0 f v.1 k
  walking_visited n w ws rs ws' rs' (Solid y) t o v u s f k =
      visited_as w ws ws' (Solid y) (in_whole (seen_memory kept own) (whole_of (decoded y))) k c
      (λ b g. solid_goes (seen_memory kept own) y b
      (value_no_ref bs (seen_memory kept own) false w (Solid y) y v.0 refl) g) wait seen shut refl
      (λ z i. subst (λ (zs : List ℕ). IsIn z zs) (sym v.1) (in_right z (parts_of (seen_memory kept own) (whole_of (decoded y))) ws i))
    where
      c : Chain bs kept own w (Solid y)
      c = chain_of bs kept own n t false w (Solid y) v.0 u.0

      wait : (b : Node) → in_whole (seen_memory kept own) (whole_of (decoded y)) b ≡ true
          → IsDone (seen_memory kept own) (λ _. false) (node_word bs (seen_memory kept own) b)
          ⊎ IsIn (node_word bs (seen_memory kept own) b) ws'
      wait (place b) i = absurd (let h : false ≡ true = i in cc)
      wait (part b) i =
          inr (subst (λ (zs : List ℕ). IsIn (seen_memory kept own b) zs) (sym v.1)
          (in_left (seen_memory kept own b) (parts_of (seen_memory kept own) (whole_of (decoded y))) ws
          (part_word (seen_memory kept own) (whole_of (decoded y)) b (in_part (seen_memory kept own) (whole_of (decoded y)) b i))))
      wait (count b) i = inl (λ d r. absurd (nil_goes (seen_memory kept own) d r))

      seen : (b : Node) → in_whole (seen_memory kept own) (whole_of (decoded y)) b ≡ true → IsSeen kept own (address b)
      seen (place b) i = absurd (let h : false ≡ true = i in cc)
      seen (part b) i = s.parts b (in_part (seen_memory kept own) (whole_of (decoded y)) b i)
      seen (count b) i = s.number b (in_count (whole_of (decoded y)) b i)

      shut : c.chain (place p) ≡ false
      shut = go (c.chain (place p)) refl
        where
          go : (d : Bool) → c.chain (place p) ≡ d → c.chain (place p) ≡ false
          go false i = i
          go true i = absurd (let g : None ≡ Some p = c.only_end p o i in cc)

-- a place is bound to an occurrence of another that is open: the walk has that place alone
pub link_walked : (bs kept : WordList) (own : ℕ → Option ℕ) (p q x : ℕ) (s : Bool) → IsOpen bs (seen_memory kept own) q
    → nat_eq p q ≡ false → leads_on false (decoded x) ≡ Some (s, q) → Walked bs kept own p x
link_walked bs kept own p q x s o f e = record {
  walked = at_place q;
  start = λ b r. ap (at_place q) (place_only (seen_memory kept own) x s q b e r) ∙ same_at_place q;
  closed = λ a b r i. absurd
      (open_ends bs (seen_memory kept own) q b o (subst (λ (c : Node). Edge bs (seen_memory kept own) c b) (at_place_is q a i) r));
  was_seen = λ a i. subst (λ (c : Node). IsSeen kept own (address c)) (sym (at_place_is q a i)) (open_seen kept own q o.1);
  free = f;
}

module _ {S : Type 0} {addresses : S → ℕ} {sound : S → Type 0} {knows : S → ℕ → Type 0} {had : S → ℕ → ℕ → Type 0} {leads : S → ℕ → Type 0}
    {own shown : S → ℕ → Option ℕ} {later : S → S → Type 0} {gave : S → S → ℕ → ℕ → Type 0}
    (laws : WordsLaws {S = S} addresses sound knows had leads own shown later gave) where
  -- an open place stays open
  pub open_later : {kept binds kept' binds' : WordList} {v w : S} (a : ℕ)
      → KeepsLoads sound had leads later gave kept binds v kept' binds' w → binds' ≡ binds → IsOpen binds (seen_memory kept (own v)) a
      → IsOpen binds' (seen_memory kept' (own w)) a
  open_later {kept = kept} {binds = binds} {kept' = kept'} {binds' = binds'} {v = v} {w = w} a p same o = (
    subst (λ (bs : WordList). word_at bs a ≡ None) (sym same) o.0,
    ap (λ (x : ℕ). is_unbound (decoded x))
        (same_word laws p a (open_seen kept (own v) a o.1)) ∙ o.1,
  )

  pub walking_next : {kept binds kept' binds' : WordList} {v w : S} (p x y : ℕ) (ws rs ws' rs' : List ℕ) (l : Look)
      → KeepsLoads sound had leads later gave kept binds v kept' binds' w → binds' ≡ binds → Tame binds kept (own v) (addresses v)
      → IsOpen binds (seen_memory kept (own v)) p → Says (own w) kept' (λ m. Visits binds m y ws rs ws' rs' l) → LookSeen kept' (own w) l
      → is_leaf l p ≡ false
      → Walking binds kept (own v) p x (y ∷ ws) → Walking binds' kept' (own w) p x ws'
  walking_next {kept = kept} {binds = binds} {kept' = kept'} {binds' = binds'} {v = v} {w = w} p x y ws rs ws' rs' l d same t o says s f k =
      subst (λ (bs : WordList). Walking bs kept' (own w) p x ws') (sym same)
      (walking_visited binds kept' (own w) p x (addresses w) y ws rs ws' rs' l
      (subst (λ (bs : WordList). Tame bs kept' (own w) (addresses w)) same (tame_later laws d same t))
      (subst (λ (bs : WordList). IsOpen bs (seen_memory kept' (own w)) p) same (open_later p d same o))
      (says (seen_memory kept' (own w)) (agrees laws 6 d.holds)) (says (memory_with 7 kept' (own w)) (agrees laws 7 d.holds)) s f
      (walking_on laws p x (y ∷ ws) d k))
