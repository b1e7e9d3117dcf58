-- Items of words write what the definitions write of the terms for which they stand.
use Rattle.std.proofs.Common.{◌≡◌, ℕ, suc, ◌+◌, ◌-◌, ◌<◌, ◌≤◌, false, List, [], ◌∷◌, ◌++◌, codes, Option, Some, None}
use Rattle.std.proofs.Common.{refl, sym, ap, ◌∙◌, subst, arith, append_assoc, append-nil, ⊎_elim}
use Rattle.std.specs.Prelude.{option_map}
use Rattle.heap_words.specs.Trails.{WordList, Memory}
use Rattle.ro_unify.specs.declared.look.Look.{Look}
use Rattle.ro_unify.specs.declared.occurrence.Whole.TheVariants as whole
use Rattle.ro_unify.specs.Value.{Values}
use Rattle.unify_terms.specs.Denotes.{Naming, Denotes, DenotesAll, Stands}
use Rattle.word_states.specs.Numbers.{part_count}
use Rattle.fcp_model.specs.declared.names.Sym.{Sym}
use Rattle.fcp_model.specs.Places.{Variable}
use Rattle.fcp_model.specs.Terms.{Term, cons, tuple, Terms, none, more, Bindings}
use Rattle.fcp_model.specs.Value.{solid, value}
use Rattle.fcp_model.specs.Value as terms
use Rattle.fcp_model.specs.Spelling.{Bytes, string_text, name_at}
use Rattle.fcp_model.specs.TermText.{Written, written, string_of, term_text, cut_text}
use Rattle.word_texts.specs.Turns.{closing, whole_look, tail_look, string_look, part_items, pair_items, count_at, Functor, few, first}
use Rattle.word_texts.specs.Turns.{Opens, round, curly, Turns, cut, leaf, pair, rest_cut, ends, goes, other, closes, Writes, still, on}
use Rattle.word_texts.specs.Turns.{WritesAll, WritesSome}
use Rattle.word_texts.specs.Leaves as words
use Rattle.word_texts.specs.Turns as turns
use Rattle.word_texts.specs.Shown.{Labels, Adds}
use Rattle.word_texts.specs.declared.items.Bracket.{Bracket}
use Rattle.word_texts.specs.declared.items.Bracket.TheVariants.{Square, Round, Curly}
use Rattle.word_texts.specs.declared.items.Item.{Item}
use Rattle.word_texts.specs.declared.items.Item.TheVariants as item
use Rattle.word_texts.specs.declared.turns.Tail.TheVariants as tail
use Rattle.word_texts.proofs.Given.{Gives, Part, term, rest, others, part_text, GivesAll, nothing, then, splits, last_is}
use Rattle.word_texts.proofs.Given as given
use Rattle.word_texts.proofs.LeavesOfTerms.{Found, found, leaf_is, pair_is, further_is, end_is, other_is, string_is, tuple_is}
use Rattle.word_texts.proofs.TurnsOfTerms.{GivesOn, HasValue, parts_of, cut_gives, leaf_gives, pair_gives, curly_gives, round_gives}
use Rattle.word_texts.proofs.Fronts.{AtAll, GoesOn, Back, first_at, all_at, one_at, cut_back, leaf_back, pair_back, curly_back, round_back}
use Rattle.word_texts.proofs.Fronts.{rest_cut_back, goes_back, end_back, other_back, none_back, more_back, close_back}
use Rattle.word_texts.proofs.TurnsOfTerms.{rest_cut_gives, goes_gives, end_gives, other_gives, none_gives, more_gives, close_gives}

-- texts after one another, cut at two places
joined : (x a b z y : Bytes) → z ++ y ≡ a ++ b → (x ++ a) ++ b ≡ (x ++ z) ++ y
joined x a b z y e = append_assoc x a b ∙ (ap (λ (w : Bytes). x ++ w) (sym e) ∙ sym (append_assoc x z y))

joined_back : (x a b z y w : Bytes) → w ≡ x ++ a → a ++ b ≡ z ++ y → w ++ b ≡ (x ++ z) ++ y
joined_back x a b z y w f e = ap (λ (v : Bytes). v ++ b) f ∙ joined x a b z y (sym e)

module _ (p : Naming) (m : Memory) where
  -- an item stands for a part of what is to be written
  abbrev pub IsPart : Part → Item → Type 0
  IsPart q (item.Term w) = (t : Term Variable) × (q ≡ term t) × Denotes p m t w
  IsPart q (item.Rest w) = (t : Term Variable) × (q ≡ rest t) × Denotes p m t w
  IsPart q (item.Parts a n) = (ts : Terms Variable) × (q ≡ others ts) × (n ≡ part_count ts) × DenotesAll p m ts a
  IsPart q (item.Close b) = q ≡ given.closes b

  abbrev pub AreParts : List Part → List Item → Type 0
  AreParts [] [] = Unit {0}
  AreParts (q ∷ qs) (i ∷ is) = IsPart q i × AreParts qs is
  AreParts _ _ = ⊥

  are_both : (qs rs : List Part) (is js : List Item) → AreParts qs is → AreParts rs js → AreParts (qs ++ rs) (is ++ js)
  are_both [] rs [] js h e = e
  are_both (q ∷ qs) rs (i ∷ is) js h e = (h.0, are_both qs rs is js h.1 e)
  are_both [] rs (i ∷ is) js h e = absurd h
  are_both (q ∷ qs) rs [] js h e = absurd h

  are_parts : (ts : Terms Variable) (a : ℕ) → DenotesAll p m ts a → AreParts (parts_of ts) (part_items m a (part_count ts))
  are_parts none a d = tt
  are_parts (more t ts) a d = ((t, refl, d.0), ((ts, refl, refl, d.1), tt))

  closed_parts : (ts : Terms Variable) (a n : ℕ) (b : Bracket) → n ≡ part_count ts → DenotesAll p m ts a
      → AreParts (parts_of ts ++ given.closes b ∷ []) (part_items m a n ++ item.Close b ∷ [])
  closed_parts ts a n b e d =
      subst (λ (k : ℕ). AreParts (parts_of ts ++ given.closes b ∷ []) (part_items m a k ++ item.Close b ∷ [])) (sym e)
      (are_both (parts_of ts) (given.closes b ∷ []) (part_items m a (part_count ts)) (item.Close b ∷ []) (are_parts ts a d) (refl, tt))

module _ (p : Naming) (bs : WordList) (m : Memory) (s : Bindings) (names : List Bytes) (labels : Labels p m)
    (stands : Stands p m bs s) where
  -- what an item comes to is what its part comes to
  pub record Comes (k : ℕ) (q : Part) (x : Bytes) (j : ℕ) (is : List Item) : Type 0 where
    pub parts : List Part
    pub are : AreParts p m parts is
    pub gives : GivesOn names s k q x j parts
    pub back : Back names s k q x j parts

  -- the value of a word
  valued : (w : ℕ) (l : Look) (t : Term Variable) → Values bs m false w l → Denotes p m t w → Found p bs m s names labels stands t l
  valued w l t v d = found p bs m s names labels stands w l t v d

  has : (t : Term Variable) (l : Look) (f : Found p bs m s names labels stands t l) (v : terms.Look) → f.look ≡ v
      → HasValue names s t v f.steps
  has t l f v e n h = f.value_is n h ∙ ap Some e

  -- a node is left
  one_less : (k : ℕ) → 0 < k → suc (k - 1) ≡ k
  one_less k h = omega arith

  with_node : (k : ℕ) (q : Part) (x : Bytes) (is : List Item) → 0 < k → Comes (suc (k - 1)) q x (k - 1) is → Comes k q x (k - 1) is
  with_node k q x is h c = subst (λ (b : ℕ). Comes b q x (k - 1) is) (one_less k h) c

  as_part : (k : ℕ) (q r : Part) (x : Bytes) (j : ℕ) (is : List Item) → q ≡ r → Comes k r x j is → Comes k q x j is
  as_part k q r x j is e c = subst (λ (o : Part). Comes k o x j is) (sym e) c

  no_parts : (k : ℕ) (q : Part) (x : Bytes) (j : ℕ) → GivesOn names s k q x j [] → Back names s k q x j [] → Comes k q x j []
  no_parts k q x j g h = record { parts = []; are = tt; gives = g; back = h }

  leaf_comes : (k w : ℕ) (l : Look) (t : Term Variable) → Values bs m false w l → Denotes p m t w → whole_look l ≡ whole.Atom
      → Comes (suc k) (term t) (words.look_text m names l) k []
  leaf_comes k w l t v d e =
      let f = valued w l t v d in
      let i = leaf_is p bs m s names labels stands l f.look f.is f.plain e in
      no_parts (suc k) (term t) _ k (leaf_gives names s k t f.look f.steps _ f.value_is i)
      (leaf_back names s k t f.look f.steps _ f.value_is i)

  pair_comes : (k w a : ℕ) (l : Look) (t : Term Variable) → Values bs m false w l → Denotes p m t w → whole_look l ≡ whole.Pair a
      → Comes (suc k) (term t) (codes "[") k (pair_items m a)
  pair_comes k w a l t v d e =
      let f = valued w l t v d in
      let r = pair_is p bs m s names labels stands l f.look a f.is f.plain e in
      record {
        parts = term r.head ∷ rest r.tail ∷ [];
        are = ((r.head, refl, r.head_is), ((r.tail, refl, r.tail_is), tt));
        gives = pair_gives names s k t r.head r.tail f.steps (has t l f (solid (cons r.head r.tail)) r.is);
        back = pair_back names s k t r.head r.tail f.steps (has t l f (solid (cons r.head r.tail)) r.is);
      }

  goes_comes : (k w a : ℕ) (l : Look) (t : Term Variable) → Values bs m false w l → Denotes p m t w → tail_look l ≡ tail.Pair a
      → Comes (suc k) (rest t) (codes ",") k (pair_items m a)
  goes_comes k w a l t v d e =
      let f = valued w l t v d in
      let r = further_is p bs m s names labels stands l f.look a f.is f.plain e in
      record {
        parts = term r.head ∷ rest r.tail ∷ [];
        are = ((r.head, refl, r.head_is), ((r.tail, refl, r.tail_is), tt));
        gives = goes_gives names s k t r.head r.tail f.steps (has t l f (solid (cons r.head r.tail)) r.is);
        back = goes_back names s k t r.head r.tail f.steps (has t l f (solid (cons r.head r.tail)) r.is);
      }

  end_comes : (k w : ℕ) (l : Look) (t : Term Variable) → Values bs m false w l → Denotes p m t w → tail_look l ≡ tail.End
      → Comes (suc k) (rest t) (codes "]") k []
  end_comes k w l t v d e =
      let f = valued w l t v d in
      let v = has t l f _ (end_is p bs m s names labels stands l f.look f.is f.plain e) in
      no_parts (suc k) (rest t) (codes "]") k (end_gives names s k t f.steps v) (end_back names s k t f.steps v)

  other_comes : (k w : ℕ) (l : Look) (t : Term Variable) → Values bs m false w l → Denotes p m t w → tail_look l ≡ tail.Other
      → Comes (suc k) (rest t) (codes "|") (suc k) (item.Term w ∷ item.Close Square ∷ [])
  other_comes k w l t v d e =
      let f = valued w l t v d in
      record {
        parts = term t ∷ given.closes Square ∷ [];
        are = ((t, refl, d), (refl, tt));
        gives = other_gives names s k t f.look f.steps f.value_is (other_is p bs m s names labels stands l f.look f.is f.plain e);
        back = other_back names s k t f.look f.steps f.value_is (other_is p bs m s names labels stands l f.look f.is f.plain e);
      }

  -- the string before a parenthesis
  first_string : (w : ℕ) (l : Look) (h : Term Variable) (c : Option Sym) → Values bs m false w l → Denotes p m h w → string_look l ≡ c
      → (b : ℕ) × ((n : ℕ) → b ≤ n → string_of (value n s h) ≡ option_map (λ (y : Sym). y.0) c)
  first_string w l h c v d e =
      let f = valued w l h v d in (
        f.steps,
        λ n i. ap string_of (f.value_is n i) ∙ (string_is p bs m s names labels stands l f.look f.is f.plain
            ∙ ap (option_map (λ (y : Sym). y.0)) e),
      )

  no_string : (k a n : ℕ) (ts : Terms Variable) → Functor bs m k n a None → n ≡ part_count ts → DenotesAll p m ts a
      → (h u : Term Variable) (us : Terms Variable) → ts ≡ more h (more u us) → 0 < k
      → (c : ℕ) × ((i : ℕ) → c ≤ i → string_of (value i s h) ≡ None)
  no_string k a n ts (few o e) z d h u us q lt =
      let size : part_count ts ≡ suc (suc (part_count us)) = ap part_count q in
      absurd (⊎_elim (λ i. omega arith) (λ i. omega arith) o)
  no_string k a n ts (first l lt' more' v e) z d h u us q lt =
      let dd : DenotesAll p m (more h (more u us)) a = subst (λ (y : Terms Variable). DenotesAll p m y a) q d in
      first_string (m (a + 1)) l h None v dd.0 e

  curly_comes : (k w a : ℕ) (l : Look) (t : Term Variable) → Values bs m false w l → Denotes p m t w → whole_look l ≡ whole.Tuple a
      → Functor bs m k (count_at m a) a None → Comes (suc k) (term t) (codes "{") k (part_items m a (count_at m a) ++ item.Close Curly ∷ [])
  curly_comes k w a l t v d e f =
      let g = valued w l t v d in
      let r = tuple_is p bs m s names labels stands l g.look a g.is g.plain e in
      record {
        parts = parts_of r.parts ++ given.closes Curly ∷ [];
        are = closed_parts p m r.parts a (count_at m a) Curly r.count r.parts_are;
        gives = curly_gives names s k t r.parts g.steps (has t l g (solid (tuple r.parts)) r.is)
            (no_string k a (count_at m a) r.parts f r.count r.parts_are);
        back = curly_back names s k t r.parts g.steps (has t l g (solid (tuple r.parts)) r.is)
            (no_string k a (count_at m a) r.parts f r.count r.parts_are);
      }

  -- what comes after a tuple's first part
  abbrev behind_round : ℕ → ℕ → List Item
  behind_round a n = part_items m (a + 1) (n - 1) ++ item.Close Round ∷ []

  round_comes : (k w a n : ℕ) (l : Look) (t : Term Variable) (c : Sym) (ts : Terms Variable) (b : ℕ)
      → HasValue names s t (solid (tuple ts)) b
      → n ≡ part_count ts → DenotesAll p m ts a → Functor bs m k n a (Some c)
      → Comes (suc k) (term t) (string_text (name_at names c.0) ++ codes "(") (k - 1) (behind_round a n)
  round_comes k w a n l t c ts b v z d (few o e) = cc
  round_comes k w a n l t c none b v z d (first l2 lt two v2 e) = absurd (omega arith)
  round_comes k w a n l t c (more h none) b v z d (first l2 lt two v2 e) = absurd (omega arith)
  round_comes k w a n l t c (more h (more u us)) b v z d (first l2 lt two v2 e) =
      let f = first_string (m (a + 1)) l2 h (Some c) v2 d.0 e in
      let less : n - 1 ≡ part_count (more u us) = omega arith in
      subst (λ (y : ℕ). Comes (suc y) (term t) (string_text (name_at names c.0) ++ codes "(") (k - 1) (behind_round a n))
      (one_less k lt)
      (record {
        parts = parts_of (more u us) ++ given.closes Round ∷ [];
        are = closed_parts p m (more u us) (a + 1) (n - 1) Round less d.1;
        gives = round_gives names s (k - 1) t h u us b f.0 c.0 v f.1;
        back = round_back names s (k - 1) t h u us b f.0 c.0 v f.1;
      })

  opens_come : (k a : ℕ) (x : Bytes) (j : ℕ) (is : List Item) → Opens bs m names k a x j is → (w : ℕ) (l : Look) (t : Term Variable)
      → Values bs m false w l → Denotes p m t w → whole_look l ≡ whole.Tuple a → Comes (suc k) (term t) x j is
  opens_come _ _ _ _ _ (curly k a f) w l t v d e = curly_comes k w a l t v d e f
  opens_come _ _ _ _ _ (round k a c f) w l t v d e =
      let g = valued w l t v d in
      let r = tuple_is p bs m s names labels stands l g.look a g.is g.plain e in
      round_comes k w a (count_at m a) l t c r.parts g.steps (has t l g (solid (tuple r.parts)) r.is) r.count r.parts_are f

  -- parts that follow
  none_comes : (k a n : ℕ) (ts : Terms Variable) → n ≡ 0 → n ≡ part_count ts → Comes k (others ts) [] k []
  none_comes k a n none e z = no_parts k (others none) [] k (none_gives names s k) (none_back names s k)
  none_comes k a n (more t ts) e z = absurd (omega arith)

  more_comes : (k a n : ℕ) (ts : Terms Variable) → 0 < n → n ≡ part_count ts → DenotesAll p m ts a
      → Comes k (others ts) (codes ",") k (part_items m a n)
  more_comes k a n none e z d = absurd (omega arith)
  more_comes k a n (more t ts) e z d = record {
    parts = parts_of (more t ts);
    are = subst (λ (y : ℕ). AreParts p m (parts_of (more t ts)) (part_items m a y)) (sym z) (are_parts p m (more t ts) a d);
    gives = more_gives names s k t ts;
    back = more_back names s k t ts;
  }

  -- an item comes to what its part comes to
  turn_comes : (k : ℕ) (i : Item) (x : Bytes) (j : ℕ) (is : List Item) → Turns bs m names k i x j is → (q : Part) → IsPart p m q i
      → Comes k q x j is
  turn_comes _ _ _ _ _ (cut k w e) q h =
      as_part k q (term h.0) (codes "..") 0 [] h.1
      (no_parts k (term h.0) (codes "..") 0 (cut_gives names s k h.0 e) (cut_back names s k h.0 e))
  turn_comes _ _ _ _ _ (leaf k w l lt v e) q h =
      as_part k q (term h.0) _ (k - 1) [] h.1 (with_node k (term h.0) _ [] lt (leaf_comes (k - 1) w l h.0 v h.2 e))
  turn_comes _ _ _ _ _ (pair k w a l lt v e) q h =
      as_part k q (term h.0) (codes "[") (k - 1) (pair_items m a) h.1
      (with_node k (term h.0) (codes "[") (pair_items m a) lt (pair_comes (k - 1) w a l h.0 v h.2 e))
  turn_comes _ _ _ _ _ (turns.tuple k w a l x j is lt v e o) q h =
      as_part k q (term h.0) x j is h.1
      (subst (λ (b : ℕ). Comes b (term h.0) x j is) (one_less k lt) (opens_come (k - 1) a x j is o w l h.0 v h.2 e))
  turn_comes _ _ _ _ _ (rest_cut k w e) q h =
      as_part k q (rest h.0) (codes "|..]") 0 [] h.1
      (no_parts k (rest h.0) (codes "|..]") 0 (rest_cut_gives names s k h.0 e) (rest_cut_back names s k h.0 e))
  turn_comes _ _ _ _ _ (ends k w l lt v e) q h =
      as_part k q (rest h.0) (codes "]") (k - 1) [] h.1 (with_node k (rest h.0) (codes "]") [] lt (end_comes (k - 1) w l h.0 v h.2 e))
  turn_comes _ _ _ _ _ (goes k w a l lt v e) q h =
      as_part k q (rest h.0) (codes ",") (k - 1) (pair_items m a) h.1
      (with_node k (rest h.0) (codes ",") (pair_items m a) lt (goes_comes (k - 1) w a l h.0 v h.2 e))
  turn_comes _ _ _ _ _ (other k w l lt v e) q h =
      as_part k q (rest h.0) (codes "|") k (item.Term w ∷ item.Close Square ∷ []) h.1
      (subst (λ (b : ℕ). Comes b (rest h.0) (codes "|") b (item.Term w ∷ item.Close Square ∷ [])) (one_less k lt)
      (other_comes (k - 1) w l h.0 v h.2 e))
  turn_comes _ _ _ _ _ (turns.none k a n e) q h = as_part k q (others h.0) [] k [] h.1 (none_comes k a n h.0 e h.2)
  turn_comes _ _ _ _ _ (turns.more k a n lt) q h =
      as_part k q (others h.0) (codes ",") k (part_items m a n) h.1 (more_comes k a n h.0 lt h.2 h.3)
  turn_comes _ _ _ _ _ (closes k b) q h =
      as_part k q (given.closes b) (closing b) k [] h
      (no_parts k (given.closes b) (closing b) k (close_gives names s k b) (close_back names s k b))

  -- what some of the items come to: a text, and further parts
  record Comes_all (k : ℕ) (qs : List Part) (l : ℕ) (ls : List Item) (old new : Bytes) : Type 0 where
    text : Bytes
    parts : List Part
    are : AreParts p m parts ls
    gives : (y : Bytes) (i : ℕ) → GivesAll names s l parts y i → GivesAll names s k qs (text ++ y) i
    back : (z : Bytes) (i : ℕ) → AtAll names s k qs z i → GoesOn names s text l parts z i
    appended : new ≡ old ++ text

  gives_more : (k : ℕ) (q : Part) (qs : List Part) (x : Bytes) (j : ℕ) (ps : List Part) (z y : Bytes) (i : ℕ)
      → GivesOn names s k q x j ps → GivesAll names s j (ps ++ qs) (z ++ y) i → GivesAll names s k (q ∷ qs) ((x ++ z) ++ y) i
  gives_more k q qs x j ps z y i f g =
      let b = splits names s j ps qs (z ++ y) i g in
      subst (λ (w : Bytes). GivesAll names s k (q ∷ qs) w i) (joined x b.text b.after z y b.is)
      (then k q qs (x ++ b.text) b.left b.after i (f b.text b.left b.first) b.others)

  back_more : (k : ℕ) (q : Part) (qs : List Part) (x : Bytes) (j : ℕ) (ps : List Part) (z : Bytes) (l : ℕ) (rs : List Part)
      (w : Bytes) (i : ℕ)
      → Back names s k q x j ps → ((y : Bytes) (c : ℕ) → AtAll names s j (ps ++ qs) y c → GoesOn names s z l rs y c)
      → AtAll names s k (q ∷ qs) w i → GoesOn names s (x ++ z) l rs w i
  back_more k q qs x j ps z l rs w i f g h =
      let b = first_at names s k q qs w i h in
      let c = f b.steps b.text b.left b.first in
      let d = g (c.text ++ b.after) i (all_at names s j ps qs c.text b.left b.after i c.others b.others) in
      record { text = d.text; whole = b.is ∙ joined_back x c.text b.after z d.text b.text c.whole d.whole; others = d.others }

  writes_come : (k : ℕ) (is : List Item) (old : Bytes) (l : ℕ) (ls : List Item) (new : Bytes) → Writes bs m names k is old l ls new
      → (qs : List Part) → AreParts p m qs is → Comes_all k qs l ls old new
  writes_come _ _ _ _ _ _ (still k is text) qs h = record {
    text = [];
    parts = qs;
    are = h;
    gives = λ y i g. g;
    back = λ z i g. record { text = z; whole = refl; others = g };
    appended = sym (append-nil text);
  }
  writes_come _ _ _ _ _ _ (on k i is old x j js l ls new t w) [] h = absurd h
  writes_come _ _ _ _ _ _ (on k i is old x j js l ls new t w) (q ∷ qs) h =
      let c = turn_comes k i x j js t q h.0 in
      let r = writes_come j (js ++ is) (old ++ x) l ls new w (c.parts ++ qs) (are_both p m c.parts qs js is c.are h.1) in
      record {
        text = x ++ r.text;
        parts = r.parts;
        are = r.are;
        gives = λ y b g. gives_more k q qs x j c.parts r.text y b c.gives (r.gives y b g);
        back = λ z b g. back_more k q qs x j c.parts r.text l r.parts z b c.back r.back g;
        appended = r.appended ∙ append_assoc old x r.text;
      }

  -- all of one term
  pub shows : (k w : ℕ) (old new : Bytes) (t : Term Variable) → WritesAll bs m names k (item.Term w ∷ []) old new → Denotes p m t w
      → Adds names s k t old new
  shows k w old new t h d =
      let r = writes_come k (item.Term w ∷ []) old h.0 [] new h.1 (term t ∷ []) ((t, refl, d), tt) in
      let g = last_is names s k (term t) (r.text ++ []) h.0 (r.gives [] h.0 (ended h.0 r.parts r.are)) in
      record {
        text = r.text;
        appended = r.appended;
        steps = g.steps;
        cut = λ n l. ap (option_map (λ (y : Written). y.text)) (g.is n l) ∙ ap Some (append-nil r.text);
      }
    where
      ended : (l : ℕ) (qs : List Part) → AreParts p m qs [] → GivesAll names s l qs [] l
      ended l [] a = nothing l
      ended l (q ∷ qs) a = absurd a

  -- and a front of it
  pub fronts : (k w : ℕ) (old new : Bytes) (t : Term Variable) → WritesSome bs m names k (item.Term w ∷ []) old new → Denotes p m t w
      → (n : ℕ) (text : Bytes) → cut_text n names s k t ≡ Some text → (x y : Bytes) × (new ≡ old ++ x) × (text ≡ x ++ y)
  fronts k w old new t h d n text e =
      let r = writes_come k (item.Term w ∷ []) old h.0 h.1 new h.2 (term t ∷ []) ((t, refl, d), tt) in
      let a = term_at n (term_text n names s k t) refl e in
      let b = r.back text a.0 a.1 in
      (r.text, b.text, r.appended, b.whole)
    where
      term_at : (n : ℕ) (o : Option Written) → term_text n names s k t ≡ o → option_map (λ (y : Written). y.text) o ≡ Some text
          → (i : ℕ) × AtAll names s k (term t ∷ []) text i
      term_at n None i q = cc
      term_at n (Some v) i q =
          let same : v.text ≡ text = cc in
          (v.left, one_at names s k (term t) n text v.left (i ∙ ap (λ (y : Bytes). written y v.left) same))
