-- The first piece of a text.
use Rattle.std.proofs.Common.{◌≡◌, ℕ, zero, suc, ◌+◌, ◌-◌, ◌<◌, ◌≤◌, Bool, true, false, List, [], ◌∷◌, length, take, drop, Option, Some, None, ap, sym, ◌∙◌, subst, refl, arith, ◌⊎◌, inl, inr}
use Rattle.std.specs.Prelude.{◌==◌, ◌||◌, not, cond, nat_lt, if◌then◌else◌, unwrap_or}
use Rattle.std.specs.List.{position, prefix_len}
use Rattle.std.proofs.lemmas.Bool.{ltb-true, ltb-false}
use Rattle.std.proofs.lemmas.List.{drop-drop, length-drop, take_all}
use Rattle.std.proofs.lemmas.List.Sums.{prefix_len-le-length}
use Rattle.fcp_model.specs.Spelling.{Bytes}
use Rattle.control_texts.specs.Pieces.{Piece, is_of_word, goes_on, lengthened, pieces_from}
use Rattle.control_texts.specs.Cuts.{piece_len, IsFirst}

abbrev piece : ℕ → Bytes → Piece
piece at bytes = record { at = at; bytes = bytes }

-- the first n bytes of the text are a piece
abbrev Cut : ℕ → Bytes → ℕ → Type 0
Cut at text n = pieces_from at text ≡ piece at (take n text) ∷ pieces_from (at + n) (drop n text)

-- ---- tests

cond-yes : {X : Type 0} (b : Bool) (x y : X) → b ≡ true → cond b x y ≡ x
cond-yes true x y e = refl
cond-yes false x y e = cc

cond-no : {X : Type 0} (b : Bool) (x y : X) → b ≡ false → cond b x y ≡ y
cond-no true x y e = cc
cond-no false x y e = refl

case-1 : {X : Type 0} (a b c : Bool) (x y z u : X) → a ≡ true → (if a then x else (if b then y else (if c then z else u))) ≡ x
case-1 true b c x y z u e = refl
case-1 false b c x y z u e = cc

case-2 : {X : Type 0} (a b c : Bool) (x y z u : X) → a ≡ false → b ≡ true → (if a then x else (if b then y else (if c then z else u))) ≡ y
case-2 false true c x y z u e f = refl
case-2 false false c x y z u e f = cc
case-2 true b c x y z u e f = cc

case-3 : {X : Type 0} (a b c : Bool) (x y z u : X) → a ≡ false → b ≡ false → c ≡ true
    → (if a then x else (if b then y else (if c then z else u))) ≡ z
case-3 false false true x y z u e f g = refl
case-3 false false false x y z u e f g = cc
case-3 false true c x y z u e f g = cc
case-3 true b c x y z u e f g = cc

case-4 : {X : Type 0} (a b c : Bool) (x y z u : X) → a ≡ false → b ≡ false → c ≡ false
    → (if a then x else (if b then y else (if c then z else u))) ≡ u
case-4 false false false x y z u e f g = refl
case-4 false false true x y z u e f g = cc
case-4 false true c x y z u e f g = cc
case-4 true b c x y z u e f g = cc

if-yes : {X : Type 0} (b : Bool) (x y : X) → b ≡ true → (if b then x else y) ≡ x
if-yes true x y e = refl
if-yes false x y e = cc

if-no : {X : Type 0} (b : Bool) (x y : X) → b ≡ false → (if b then x else y) ≡ y
if-no true x y e = cc
if-no false x y e = refl

true-or-false : (b : Bool) → (b ≡ true) ⊎ (b ≡ false)
true-or-false true = inl refl
true-or-false false = inr refl

of-word : (a b : Bool) → a ≡ false → b ≡ false → not (a || b) ≡ true
of-word false false e f = refl
of-word false true e f = cc
of-word true b e f = cc

word-parts : (a b : Bool) → not (a || b) ≡ true → (a ≡ false) × (b ≡ false)
word-parts false false e = (refl, refl)
word-parts false true e = cc
word-parts true b e = cc

-- ---- a word

take-more : (n b : ℕ) (bs : Bytes) → take (1 + n) (b ∷ bs) ≡ b ∷ take n bs
take-more n b bs = let e : 1 + n ≡ suc n = omega arith in ap (λ k. take k (b ∷ bs)) e

drop-more : (n b : ℕ) (bs : Bytes) → drop (1 + n) (b ∷ bs) ≡ drop n bs
drop-more n b bs = let e : 1 + n ≡ suc n = omega arith in ap (λ k. drop k (b ∷ bs)) e

no-more : (bs : Bytes) → goes_on bs ≡ false → prefix_len is_of_word bs ≡ 0
no-more [] e = refl
no-more (b ∷ bs) e = cond-no (is_of_word b) (1 + prefix_len is_of_word bs) 0 e

-- a word of one byte
alone-cut : (b : ℕ) (bs : Bytes) (at : ℕ) → (b == 32) ≡ false → (b == 59) ≡ false → goes_on bs ≡ false
    → Cut at (b ∷ bs) (prefix_len is_of_word (b ∷ bs))
alone-cut b bs at e f g =
    let len : prefix_len is_of_word (b ∷ bs) ≡ 1 =
    cond-yes (is_of_word b) (1 + prefix_len is_of_word bs) 0 (of-word (b == 32) (b == 59) e f) ∙ ap (λ n. 1 + n) (no-more bs g) in
    subst (Cut at (b ∷ bs)) (sym len) (case-4 (b == 32) (b == 59) (goes_on bs) _ _ _ _ e f g)

-- a byte before a word
longer-cut : (b : ℕ) (bs : Bytes) (at m : ℕ) → (b == 32) ≡ false → (b == 59) ≡ false → goes_on bs ≡ true
    → Cut (at + 1) bs m → Cut at (b ∷ bs) (1 + m)
longer-cut b bs at m e f g h =
    let there : (at + 1) + m ≡ at + (1 + m) = omega arith in
    case-3 (b == 32) (b == 59) (goes_on bs) _ _ _ _ e f g
    ∙ ap (lengthened at b) h
    ∙ ap (λ x. piece at x ∷ pieces_from ((at + 1) + m) (drop m bs)) (sym (take-more m b bs))
    ∙ ap (λ x. piece at (take (1 + m) (b ∷ bs)) ∷ pieces_from ((at + 1) + m) x) (sym (drop-more m b bs))
    ∙ ap (λ k. piece at (take (1 + m) (b ∷ bs)) ∷ pieces_from k (drop (1 + m) (b ∷ bs))) there

word-cut : (b : ℕ) (bs : Bytes) (at : ℕ) → (b == 32) ≡ false → (b == 59) ≡ false → Cut at (b ∷ bs) (prefix_len is_of_word (b ∷ bs))
word-cut b [] at e f = alone-cut b [] at e f refl
word-cut b (c ∷ cs) at e f =
    let len : prefix_len is_of_word (b ∷ c ∷ cs) ≡ 1 + prefix_len is_of_word (c ∷ cs) =
    cond-yes (is_of_word b) (1 + prefix_len is_of_word (c ∷ cs)) 0 (of-word (b == 32) (b == 59) e f) in
    elim (true-or-false (is_of_word c)) [
      | inl g ↦
          let k = word-parts (c == 32) (c == 59) g in
          subst (Cut at (b ∷ c ∷ cs)) (sym len)
          (longer-cut b (c ∷ cs) at (prefix_len is_of_word (c ∷ cs)) e f g (word-cut c cs (at + 1) k.0 k.1))
      | inr g ↦ alone-cut b (c ∷ cs) at e f g
    ]

-- ---- any piece

piece-cut : (b : ℕ) (bs : Bytes) (at : ℕ) → (b == 32) ≡ false → Cut at (b ∷ bs) (piece_len (b ∷ bs))
piece-cut b bs at e = elim (true-or-false (b == 59)) [
  | inl f ↦
      let len : piece_len (b ∷ bs) ≡ 1 = if-yes (b == 59) 1 (prefix_len is_of_word (b ∷ bs)) f in
      subst (Cut at (b ∷ bs)) (sym len) (case-2 (b == 32) (b == 59) (goes_on bs) _ _ _ _ e f)
  | inr f ↦
      let len : piece_len (b ∷ bs) ≡ prefix_len is_of_word (b ∷ bs) = if-no (b == 59) 1 (prefix_len is_of_word (b ∷ bs)) f in
      subst (Cut at (b ∷ bs)) (sym len) (word-cut b bs at e f)
]

piece-some : (b : ℕ) (bs : Bytes) → (b == 32) ≡ false → (0 < piece_len (b ∷ bs)) × (piece_len (b ∷ bs) ≤ length (b ∷ bs))
piece-some b bs e = elim (true-or-false (b == 59)) [
  | inl f ↦
      let len : piece_len (b ∷ bs) ≡ 1 = if-yes (b == 59) 1 (prefix_len is_of_word (b ∷ bs)) f in
      (omega (arith, len), omega (arith, len))
  | inr f ↦
      let len : piece_len (b ∷ bs) ≡ prefix_len is_of_word (b ∷ bs) = if-no (b == 59) 1 (prefix_len is_of_word (b ∷ bs)) f in
      let some : prefix_len is_of_word (b ∷ bs) ≡ 1 + prefix_len is_of_word bs =
      cond-yes (is_of_word b) (1 + prefix_len is_of_word bs) 0 (of-word (b == 32) (b == 59) e f) in
      let within = prefix_len-le-length is_of_word (b ∷ bs) in
      (omega (arith, len, some), omega (arith, len, within))
]

-- ---- spaces

abbrev is_space : ℕ → Bool
is_space b = not (not (b == 32))

abbrev spaces : Bytes → ℕ
spaces = prefix_len is_space

space-yes : (a : Bool) → a ≡ true → not (not a) ≡ true
space-yes true e = refl
space-yes false e = cc

space-no : (a : Bool) → a ≡ false → not (not a) ≡ false
space-no true e = cc
space-no false e = refl

-- what begins behind the spaces is no space
pub record Skips (text : Bytes) : Type 0 where
  pub whole : (at : ℕ) → pieces_from at text ≡ pieces_from (at + spaces text) (drop (spaces text) text)
  pub ends : spaces text ≡ length text → (at : ℕ) → pieces_from at text ≡ []
  pub stops : spaces text < length text
      → (b : ℕ) × (bs : Bytes) × (drop (spaces text) text ≡ b ∷ bs) × ((b == 32) ≡ false)

skips-none : (b : ℕ) (bs : Bytes) → (b == 32) ≡ false → Skips (b ∷ bs)
skips-none b bs e =
    let none : spaces (b ∷ bs) ≡ 0 = cond-no (is_space b) (1 + spaces bs) 0 (space-no (b == 32) e) in
    record {
      whole = λ at.
          let here : at ≡ at + 0 = omega arith in
          subst (λ n. pieces_from at (b ∷ bs) ≡ pieces_from (at + n) (drop n (b ∷ bs))) (sym none)
          (ap (λ k. pieces_from k (b ∷ bs)) here);
      ends = λ all. absurd (omega (arith, all, none));
      stops = λ some. (b, bs, ap (λ n. drop n (b ∷ bs)) none, e);
    }

skips-one : (b : ℕ) (bs : Bytes) → (b == 32) ≡ true → Skips bs → Skips (b ∷ bs)
skips-one b bs e h =
    let more : spaces (b ∷ bs) ≡ 1 + spaces bs = cond-yes (is_space b) (1 + spaces bs) 0 (space-yes (b == 32) e) in
    let rest : drop (spaces (b ∷ bs)) (b ∷ bs) ≡ drop (spaces bs) bs = ap (λ n. drop n (b ∷ bs)) more ∙ drop-more (spaces bs) b bs in
    let first : (at : ℕ) → pieces_from at (b ∷ bs) ≡ pieces_from (at + 1) bs =
    λ at. case-1 (b == 32) (b == 59) (goes_on bs) _ _ _ _ e in
    record {
      whole = λ at.
          let there : (at + 1) + spaces bs ≡ at + spaces (b ∷ bs) = omega (arith, more) in
          first at ∙ h.whole (at + 1) ∙ ap (λ x. pieces_from ((at + 1) + spaces bs) x) (sym rest)
          ∙ ap (λ k. pieces_from k (drop (spaces (b ∷ bs)) (b ∷ bs))) there;
      ends = λ all at. first at ∙ h.ends (omega (arith, all, more)) (at + 1);
      stops = λ some. let k = h.stops (omega (arith, some, more)) in (k.0, k.1, rest ∙ k.2, k.3);
    }

skips : (text : Bytes) → Skips text
skips [] = record {
  whole = λ at. refl;
  ends = λ all at. refl;
  stops = λ some. absurd (omega (arith, some));
}
skips (b ∷ bs) = elim (true-or-false (b == 32)) [ inl e ↦ skips-one b bs e (skips bs) | inr e ↦ skips-none b bs e ]

-- ---- what the code finds

found-at : (b : Bool) (n m : ℕ) → nat_lt n m ≡ b → n ≤ m → unwrap_or (cond b (Some n) None) m ≡ n
found-at true n m e w = refl
found-at false n m e w = let above = ltb-false n m e in omega (arith, above)

all-of : (n m : ℕ) → n ≤ m → cond (nat_lt n m) (Some n) None ≡ None → n ≡ m
all-of n m w e = elim (true-or-false (nat_lt n m)) [
  | inl t ↦ let bad : Some n ≡ None = sym (cond-yes (nat_lt n m) (Some n) None t) ∙ e in absurd cc
  | inr f ↦ let above = ltb-false n m f in omega (arith, above)
]

some-of : (n m k : ℕ) → cond (nat_lt n m) (Some n) None ≡ Some k → (n ≡ k) × (n < m)
some-of n m k e = elim (true-or-false (nat_lt n m)) [
  | inl t ↦ let same : Some n ≡ Some k = sym (cond-yes (nat_lt n m) (Some n) None t) ∙ e in (cc, ltb-true n m t)
  | inr f ↦ let bad : None ≡ Some k = sym (cond-no (nat_lt n m) (Some n) None f) ∙ e in absurd cc
]

-- the piece behind the spaces
first-behind : (text : Bytes) (len : ℕ)
    → (b : ℕ) × (bs : Bytes) × (drop (spaces text) text ≡ b ∷ bs) × ((b == 32) ≡ false)
    → len ≡ piece_len (drop (spaces text) text) → IsFirst text (spaces text) len
first-behind text len k l =
    let b = k.0 in
    let bs = k.1 in
    let behind : drop (spaces text) text ≡ b ∷ bs = k.2 in
    let len_is : len ≡ piece_len (b ∷ bs) = l ∙ ap piece_len behind in
    let some = piece-some b bs k.3 in
    let room : length (b ∷ bs) ≡ length text - spaces text = sym (ap length behind) ∙ length-drop (spaces text) text in
    record {
      some = omega (arith, len_is, some.0);
      within = omega (arith, len_is, some.0, some.1, room);
      cut = λ at.
          let there : (at + spaces text) + len ≡ at + (spaces text + len) = omega arith in
          let cut : Cut (at + spaces text) (drop (spaces text) text) len =
          subst (λ x. Cut (at + spaces text) x len) (sym behind) (subst (Cut (at + spaces text) (b ∷ bs)) (sym len_is)
          (piece-cut b bs (at + spaces text) k.3)) in
          (skips text).whole at ∙ cut
          ∙ ap (λ x. piece (at + spaces text) (take len (drop (spaces text) text)) ∷ pieces_from ((at + spaces text) + len) x)
          (drop-drop len (spaces text) text)
          ∙ ap (λ n. piece (at + spaces text) (take len (drop (spaces text) text)) ∷ pieces_from n (drop (spaces text + len) text)) there;
    }

-- how many bytes stand before the first byte that passes, or all
pub before-first : (p : ℕ → Bool) (xs : Bytes) → unwrap_or (position p xs) (length xs) ≡ prefix_len (λ x. not (p x)) xs
before-first p xs =
    let n = prefix_len (λ x. not (p x)) xs in
    found-at (nat_lt n (length xs)) n (length xs) refl (prefix_len-le-length (λ x. not (p x)) xs)

pub spaces-alone : (text : Bytes) → position (λ b. not (b == 32)) text ≡ None → (at : ℕ) → pieces_from at text ≡ []
spaces-alone text e = (skips text).ends (all-of (spaces text) (length text) (prefix_len-le-length is_space text) e)

pub first-piece : (text : Bytes) (start len : ℕ) → position (λ b. not (b == 32)) text ≡ Some start → len ≡ piece_len (drop start text)
    → IsFirst text start len
first-piece text start len e l =
    let k = some-of (spaces text) (length text) start e in
    subst (λ s. IsFirst text s len) k.0
    (first-behind text len ((skips text).stops k.1) (l ∙ ap (λ s. piece_len (drop s text)) (sym k.0)))

-- ---- slices

pub slice-behind : (n : ℕ) (xs : Bytes) → take (length xs - n) (drop n xs) ≡ drop n xs
slice-behind n xs = take_all (length xs - n) (drop n xs) (omega (arith, length-drop n xs))

pub slice-of : (start len : ℕ) (xs : Bytes) → take ((start + len) - start) (drop start xs) ≡ take len (drop start xs)
slice-of start len xs = let e : (start + len) - start ≡ len = omega arith in ap (λ n. take n (drop start xs)) e
