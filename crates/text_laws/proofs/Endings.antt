-- What the texts behind a piece begin with.
use Rattle.std.proofs.Common.{◌≡◌, ℕ, zero, suc, Bool, true, false, List, [], ◌∷◌, ◌++◌, refl, ap, subst, arith, Some}
use Rattle.std.specs.Prelude.{slice_index, slice_get, find, not, ◌==◌, ◌&&◌, ◌||◌, if◌then◌else◌, codes}
use Rattle.std.specs.Char.{is_ascii_digit, is_ascii_lowercase}
use Rattle.std.specs.List.{list_all, list_any}
use Rattle.std.proofs.lemmas.Bool.Decides.{nat_tests}
use Rattle.fcp_model.specs.Spelling.{is_name, doubled}
use Rattle.fcp_text.specs.declared.bytes.Class.TheVariants as class
use Rattle.fcp_text.specs.Bytes.{Text, is_in}
use Rattle.fcp_text.specs.Marks.{marks}
use Rattle.fcp_text.proofs.Choices.{and-first, and-second}
use Rattle.fcp_text.proofs.WrittenWords.{EndsWord}
use Rattle.fcp_text.proofs.WrittenNumbers.{EndsDigits}
use Rattle.fcp_text.proofs.WrittenQuotes.{EndsQuote}
use Rattle.fcp_text.proofs.WrittenMarks.{EndsMark}
use Rattle.text_laws.specs.Spellings.{Spelling, string, number, variable, mark, space, line_feed, row_text, mark_text, spellings_text}
use Rattle.text_laws.specs.Fitting.{EndsToken, EndsSign, is_mark, Fits}

-- the row of a table of marks that has the number
abbrev numbered : ℕ → Text × ℕ → Bool
numbered n m = m.1 == n

found : (l : Text × ℕ) (n : ℕ) (ms : List (Text × ℕ)) (c : Bool) → (l.1 == n) ≡ c → (c || list_any (numbered n) ms) ≡ true
    → ((list_any (numbered n) ms ≡ true) → (k : ℕ) × (slice_get ms k ≡ Some (row_text (find (numbered n) ms), n)))
    → (k : ℕ) × (slice_get (l ∷ ms) k ≡ Some (row_text (if c then Some l else find (numbered n) ms), n))
found l n ms true e h r = (0, ap (λ i. Some (l.0, i)) (same l.1 n e))
  where
    same : (a b : ℕ) → (a == b) ≡ true → a ≡ b
    same a b h = grind (arith, nat_tests)
found l n ms false e h r = let g : (k : ℕ) × (slice_get ms k ≡ Some (row_text (find (numbered n) ms), n)) = r h in (suc g.0, g.1)

row-of : (ms : List (Text × ℕ)) (n : ℕ) → list_any (numbered n) ms ≡ true
    → (k : ℕ) × (slice_get ms k ≡ Some (row_text (find (numbered n) ms), n))
row-of [] n h = absurd (cc)
row-of (l ∷ ms) n h = found l n ms (l.1 == n) refl h (λ g. row-of ms n g)

-- a mark of the table, by its number
pub mark-row : (n : ℕ) → is_mark n ≡ true → (k : ℕ) × (slice_get marks k ≡ Some (mark_text n, n))
mark-row n h = row-of marks n h

-- a byte that goes on no word, no number and no quoted string
abbrev is_ending : ℕ → Bool
is_ending b = not (is_in class.Word b) && (not (b == 39) && not (is_ascii_digit b))

-- a text that begins so
pub record Ends (z : Text) : Type 0 where
  pub word : EndsWord z
  pub quote : EndsQuote z
  pub digits : EndsDigits z

not-not : (b : Bool) → not b ≡ true → b ≡ false
not-not true h = absurd (cc)
not-not false h = refl

ends-by : (z : Text) → is_ending (slice_index z 0) ≡ true → Ends z
ends-by z h =
    let b : ℕ = slice_index z 0 in
    let r : (not (b == 39) && not (is_ascii_digit b)) ≡ true = and-second (not (is_in class.Word b)) _ h in
    record {
      word = not-not (is_in class.Word b) (and-first (not (is_in class.Word b)) _ h);
      quote = not-not (b == 39) (and-first (not (b == 39)) _ r);
      digits = not-not (is_ascii_digit b) (and-second (not (b == 39)) _ r);
    }

-- a mark has a first byte, and that is such a byte
abbrev begins_ending : Text → Bool
begins_ending [] = false
begins_ending (b ∷ z) = is_ending b

ending-in : (ms : List (Text × ℕ)) (k : ℕ) (m : Text × ℕ) → list_all (λ m. begins_ending m.0) ms ≡ true → slice_get ms k ≡ Some m
    → begins_ending m.0 ≡ true
ending-in [] k m e h = absurd (cc)
ending-in (l ∷ ms) zero m e h = let g : l ≡ m = cc in subst (λ m. begins_ending m.0 ≡ true) g (and-first (begins_ending l.0) _ e)
ending-in (l ∷ ms) (suc k) m e h = ending-in ms k m (and-second (begins_ending l.0) _ e) h

behind : (m z : Text) → begins_ending m ≡ true → is_ending (slice_index (m ++ z) 0) ≡ true
behind [] z h = absurd (cc)
behind (b ∷ m) z h = h

mark-ends : (n : ℕ) (z : Text) → is_mark n ≡ true → Ends (mark_text n ++ z)
mark-ends n z h =
    let r : (k : ℕ) × (slice_get marks k ≡ Some (mark_text n, n)) = mark-row n h in
    ends-by (mark_text n ++ z) (behind (mark_text n) z (ending-in marks r.0 (mark_text n, n) refl r.1))

pub ends-token : (s : Bool) (ps : List Spelling) → EndsToken ps → Fits s ps → Ends (spellings_text ps)
ends-token s [] e f = ends-by [] refl
ends-token s (string bs ∷ ps) e f = absurd e
ends-token s (number i ∷ ps) e f = absurd e
ends-token s (variable k ∷ ps) e f = absurd e
ends-token s (mark n ∷ ps) e f = mark-ends n (spellings_text ps) f.0
ends-token s (space ∷ ps) e f = ends-by (codes " " ++ spellings_text ps) refl
ends-token s (line_feed ∷ ps) e f = ends-by (codes "\n" ++ spellings_text ps) refl

lower-ends : (b : ℕ) (z : Text) → is_ascii_lowercase b ≡ true → EndsMark (b ∷ z)
lower-ends b z h =
    record {
      no_equal = grind (arith, nat_tests);
      no_minus = grind (arith, nat_tests);
      no_colon = grind (arith, nat_tests);
      no_less = grind (arith, nat_tests);
      no_back = grind (arith, nat_tests);
      no_digit = grind (arith, nat_tests);
    }

name-ends : (bs z : Text) → is_name bs ≡ true → EndsMark (bs ++ z)
name-ends [] z h = absurd (cc)
name-ends (b ∷ bs) z h = lower-ends b (bs ++ z) (and-first (is_ascii_lowercase b) _ h)

string-ends : (c : Bool) (bs z : Text) → is_name bs ≡ c → EndsMark ((if c then bs else 39 ∷ doubled bs ++ 39 ∷ []) ++ z)
string-ends true bs z h = name-ends bs z h
string-ends false bs z h = record { no_equal = refl; no_minus = refl; no_colon = refl; no_less = refl; no_back = refl; no_digit = refl }

pub ends-sign : (ps : List Spelling) → EndsSign ps → EndsMark (spellings_text ps)
ends-sign [] e = record { no_equal = refl; no_minus = refl; no_colon = refl; no_less = refl; no_back = refl; no_digit = refl }
ends-sign (string bs ∷ ps) e = string-ends (is_name bs) bs (spellings_text ps) refl
ends-sign (number i ∷ ps) e = absurd e
ends-sign (variable k ∷ ps) e =
    record { no_equal = refl; no_minus = refl; no_colon = refl; no_less = refl; no_back = refl; no_digit = refl }
ends-sign (mark n ∷ ps) e = absurd e
ends-sign (space ∷ ps) e = record { no_equal = refl; no_minus = refl; no_colon = refl; no_less = refl; no_back = refl; no_digit = refl }
ends-sign (line_feed ∷ ps) e = record { no_equal = refl; no_minus = refl; no_colon = refl; no_less = refl; no_back = refl; no_digit = refl }
