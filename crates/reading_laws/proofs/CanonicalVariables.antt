-- The variables `V1`, `V2` and so on of a canonical text, each at its place.
use Rattle.std.proofs.Common.{◌≡◌, ℕ, zero, suc, ◌+◌, ◌<◌, ◌≤◌, ◌^◌, Bool, true, false, cond, List, [], ◌∷◌, ◌++◌, length, length-append, refl, ap, ◌∙◌, sym, subst, arith, Some, None, eq-or-lt_of_le, ⊎_elim, drop, leb-true}
use Rattle.std.specs.Prelude.{decimal, ◌&&◌, nat_lt, nat_le, nat_eq}
use Rattle.std.specs.List.{position_or_len}
use Rattle.std.specs.Str.{bytes_eq}
use Rattle.std.proofs.lemmas.Bool.Decides.{nat_tests}
use Rattle.std.proofs.lemmas.Fmt.{decimal_injective}
use Rattle.std.proofs.lemmas.List.Folds.{position_or_len_push}
use Rattle.std.proofs.lemmas.Slice.Eq.{bytes_eq-Decides}
use Rattle.fcp_text.specs.Bytes.{Text}
use Rattle.fcp_text.proofs.Choices.{and-first, and-second}
use Rattle.fcp_terminals.specs.declared.variables.Form.TheVariants.{Module}
use Rattle.fcp_terminals.specs.declared.variables.Variable.{Variable}
use Rattle.fcp_terminals.specs.Numbering.{env, find, number, number_by, variable_by, with_variable}
use Rattle.reading_laws.specs.PieceTerminals.{with_number, is_next}

-- the k-th variable's text, and the variable
abbrev pub numbered_text : ℕ → Text
numbered_text k = 86 ∷ decimal k

abbrev pub numbered : ℕ → Variable
numbered k = record { text = numbered_text k; name = None }

-- the first n variables
abbrev pub canonical : ℕ → List Variable
canonical zero = []
canonical (suc n) = canonical n ++ numbered (suc n) ∷ []

pub length-canonical : (n : ℕ) → length (canonical n) ≡ n
length-canonical zero = refl
length-canonical (suc n) = omega (arith, length-append (canonical n) (numbered (suc n) ∷ []), length-canonical n)

-- ---- the place of a variable

-- the test by which the k-th variable is found: it alone among the numbers up to 250 has its text
abbrev is : ℕ → Variable → Bool
is k v = bytes_eq v.text (numbered_text k)

is-it : (k : ℕ) → is k (numbered k) ≡ true
is-it k = (bytes_eq-Decides (numbered_text k) (numbered_text k)).1 refl

below : (k : ℕ) → k ≤ 250 → k < 2 ^ 64
below k h = omega (arith, h)

other : (j k : ℕ) → j ≤ 250 → k ≤ 250 → j < k → is k (numbered j) ≡ false
other j k p q l = by (is k (numbered j)) refl
  where
    by : (c : Bool) → is k (numbered j) ≡ c → c ≡ false
    by false e = refl
    by true e =
        let same : j ≡ k = decimal_injective j k (below j p) (below k q)
        (ap (drop 1) ((bytes_eq-Decides (numbered_text j) (numbered_text k)).0 e)) in absurd (omega arith)

-- its place once one more variable is there
pushed : (n m k : ℕ) (c : Bool) → position_or_len (is k) (canonical n) ≡ m → is k (numbered (suc n)) ≡ c
    → position_or_len (is k) (canonical (suc n)) ≡ cond (nat_eq m n) (n + cond c 0 1) m
pushed n m k c e f =
    position_or_len_push (is k) (canonical n) (numbered (suc n))
    ∙ (λ i. cond (nat_eq (e i) (length-canonical n i)) (length-canonical n i + cond (f i) 0 1) (e i))

-- one that is further on
place-new : (n k : ℕ) → n < k → k ≤ 250 → position_or_len (is k) (canonical n) ≡ n
place-new zero k l q = refl
place-new (suc n) k l q =
    let f = other (suc n) k (omega arith) q l in
    let e = place-new n k (omega arith) q in
    pushed n n k false e f ∙ grind (arith, nat_tests)

-- one of the first
place-known : (n k : ℕ) → k < n → n ≤ 250 → position_or_len (is (suc k)) (canonical n) ≡ k
place-known zero k l q = absurd (omega arith)
place-known (suc n) k l q = ⊎_elim last (λ h. before (place-known n k h (omega arith)) h) (eq-or-lt_of_le (omega arith))
  where
    last : k ≡ n → position_or_len (is (suc k)) (canonical (suc n)) ≡ k
    last e =
        subst (λ j. position_or_len (is (suc j)) (canonical (suc n)) ≡ j) (sym e)
        (pushed n n (suc n) true (place-new n (suc n) (omega arith) q) (is-it (suc n)) ∙ grind (arith, nat_tests))

    before : position_or_len (is (suc k)) (canonical n) ≡ k → k < n → position_or_len (is (suc k)) (canonical (suc n)) ≡ k
    before e h = pushed n k (suc k) (is (suc k) (numbered (suc n))) e refl ∙ grind (arith, nat_tests)

-- ---- the number of a variable, and the variables behind it

-- by its place
found : (n k m : ℕ) → position_or_len (is k) (canonical n) ≡ m → find (canonical n) (numbered_text k) ≡ cond (nat_lt m n) (Some m) None
found n k m e = λ i. cond (nat_lt (e i) (length-canonical n i)) (Some (e i)) None

find-known : (n k : ℕ) → k < n → n ≤ 250 → find (canonical n) (numbered_text (suc k)) ≡ Some k
find-known n k l q = found n (suc k) k (place-known n k l q) ∙ grind (arith, nat_tests)

find-new : (n : ℕ) → suc n ≤ 250 → find (canonical n) (numbered_text (suc n)) ≡ None
find-new n q = found n (suc n) n (place-new n (suc n) (omega arith) q) ∙ grind (arith, nat_tests)

number-known : (n k : ℕ) → k < n → n ≤ 250 → number (canonical n) (numbered_text (suc k)) ≡ suc k
unfolding number
number-known n k l q = ap (number_by (canonical n)) (find-known n k l q) ∙ omega arith

number-new : (n : ℕ) → suc n ≤ 250 → number (canonical n) (numbered_text (suc n)) ≡ suc n
unfolding number
number-new n q = ap (number_by (canonical n)) (find-new n q) ∙ omega (arith, length-canonical n)

with-known : (ns : List Text) (n k : ℕ) → k < n → n ≤ 250
    → with_variable Module (env ns (canonical n)) (numbered_text (suc k)) ≡ env ns (canonical n)
unfolding with_variable
with-known ns n k l q = ap (variable_by Module (env ns (canonical n)) (numbered_text (suc k))) (find-known n k l q)

room : (n : ℕ) → suc n ≤ 250 → nat_lt n 250 ≡ true
room n q = grind (arith, nat_tests)

with-new : (ns : List Text) (n : ℕ) → suc n ≤ 250
    → with_variable Module (env ns (canonical n)) (numbered_text (suc n)) ≡ env ns (canonical (suc n))
unfolding with_variable
with-new ns n q =
    ap (variable_by Module (env ns (canonical n)) (numbered_text (suc n))) (find-new n q)
    ∙ ap (λ m. cond (nat_lt m 250) (env ns (canonical (suc n))) (env ns (canonical n))) (length-canonical n)
    ∙ ap (λ c. cond c (env ns (canonical (suc n))) (env ns (canonical n))) (room n q)

-- ---- a variable that may stand there

-- what it says of a number that it may stand there
next-facts : (n k : ℕ) → is_next n k ≡ true → (1 ≤ k) × (k ≤ n + 1) × (k ≤ 250)
next-facts n k h =
    let front : nat_le 1 k && nat_le k (n + 1) ≡ true = and-first _ (nat_le k 250) h in (
      leb-true 1 k (and-first _ (nat_le k (n + 1)) front),
      leb-true k (n + 1) (and-second (nat_le 1 k) _ front),
      leb-true k 250 (and-second (nat_le 1 k && nat_le k (n + 1)) _ h),
    )

-- its number is the one that is written
pub number-canonical : (n k : ℕ) → n ≤ 250 → is_next n k ≡ true → number (canonical n) (numbered_text k) ≡ k
number-canonical n zero q h = absurd (omega (arith, (next-facts n zero h).0))
number-canonical n (suc k) q h =
    let f = next-facts n (suc k) h in ⊎_elim new (λ l. number-known n k l q) (eq-or-lt_of_le (omega (arith, f.1)))
  where
    new : k ≡ n → number (canonical n) (numbered_text (suc k)) ≡ suc k
    new e = subst (λ j. number (canonical j) (numbered_text (suc k)) ≡ suc k) e (number-new k (next-facts n (suc k) h).2)

-- and the variables behind it are again the first ones
pub with-canonical : (ns : List Text) (n k : ℕ) → n ≤ 250 → is_next n k ≡ true
    → with_variable Module (env ns (canonical n)) (numbered_text k) ≡ env ns (canonical (with_number n k))
with-canonical ns n zero q h = absurd (omega (arith, (next-facts n zero h).0))
with-canonical ns n (suc k) q h = let f = next-facts n (suc k) h in ⊎_elim new known (eq-or-lt_of_le (omega (arith, f.1)))
  where
    more : (m : ℕ) → with_number m (suc m) ≡ suc m
    more m = grind (arith, nat_tests)

    same : (m j : ℕ) → j < m → with_number m (suc j) ≡ m
    same m j l = grind (arith, nat_tests)

    new : k ≡ n → with_variable Module (env ns (canonical n)) (numbered_text (suc k)) ≡ env ns (canonical (with_number n (suc k)))
    new e =
        subst (λ j. with_variable Module (env ns (canonical j)) (numbered_text (suc k)) ≡ env ns (canonical (with_number j (suc k)))) e
        (with-new ns k (next-facts n (suc k) h).2 ∙ ap (λ m. env ns (canonical m)) (sym (more k)))

    known : k < n → with_variable Module (env ns (canonical n)) (numbered_text (suc k)) ≡ env ns (canonical (with_number n (suc k)))
    known l = with-known ns n k l q ∙ ap (λ m. env ns (canonical m)) (sym (same n k l))

-- there are at most 250 of them
pub with-most : (n k : ℕ) → n ≤ 250 → is_next n k ≡ true → with_number n k ≤ 250
with-most n k q h = let f = next-facts n k h in let l = f.2 in grind (arith, nat_tests)
