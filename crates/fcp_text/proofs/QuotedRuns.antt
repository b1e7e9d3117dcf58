-- Bytes with each quote twice, run by run.
use Rattle.std.proofs.Common.{◌≡◌, ℕ, zero, suc, ◌+◌, ◌-◌, ◌<◌, length-drop, true, false, List, [], ◌∷◌, ◌++◌, length, take, drop, get_or, Some, None, ap, sym, ◌∙◌, refl, arith, subst, add-one}
use Rattle.std.specs.Prelude.{nat_lt}
use Rattle.std.proofs.lemmas.List.{take_all}
use Rattle.std.specs.List.{position, position_or_len}
use Rattle.std.proofs.lemmas.Bool.{eqb-true}
use Rattle.std.proofs.lemmas.List.Quantifiers.{position-Some}
use Rattle.std.proofs.lemmas.List.Sums.{fails_before_first}
use Rattle.fcp_model.specs.Spelling.{doubled, is_name, string_text}
use Rattle.fcp_text.specs.Quotes.{is_quote}

-- where no quote is among the first bytes, and one is behind them
run_of : (bs : List ℕ) (i : ℕ) → i < length bs → is_quote (get_or bs i 0) ≡ true → ((k : ℕ) → k < i → is_quote (get_or bs k 0) ≡ false)
    → doubled bs ≡ take (suc i) bs ++ 39 ∷ doubled (drop (suc i) bs)
run_of [] i h q before = absurd (omega arith)
run_of (b ∷ bs) zero h q before = rw q (ap (λ x. x ∷ 39 ∷ doubled bs) (sym (eqb-true b 39 q)))
run_of (b ∷ bs) (suc i) h q before =
    let p : is_quote b ≡ false = before zero (omega arith) in
    rw p (ap (λ xs. b ∷ xs) (run_of bs i (omega arith) q (λ k l. before (suc k) (omega arith))))

pub to_quote : (bs : List ℕ) (i : ℕ) → position is_quote bs ≡ Some i → doubled bs ≡ take (i + 1) bs ++ 39 ∷ doubled (drop (i + 1) bs)
to_quote bs i e =
    let p = position-Some is_quote bs i 0 e in
    subst (λ n. doubled bs ≡ take n bs ++ 39 ∷ doubled (drop n bs)) (sym (add-one i)) (run_of bs i p.0 p.1 p.2)

none_of : (bs : List ℕ) → ((k : ℕ) → k < length bs → is_quote (get_or bs k 0) ≡ false) → doubled bs ≡ bs
none_of [] h = refl
none_of (b ∷ bs) h =
    let p : is_quote b ≡ false = h zero (omega arith) in
    rw p (ap (λ xs. b ∷ xs) (none_of bs (λ k l. h (suc k) (omega arith))))

pub no_quote : (bs : List ℕ) → position is_quote bs ≡ None → doubled bs ≡ bs
no_quote bs e =
    none_of bs (λ k l. elim (nat_lt (position_or_len is_quote bs) (length bs)) as
    (λ b. nat_lt (position_or_len is_quote bs) (length bs) ≡ b → is_quote (get_or bs k 0) ≡ false) [
      | true ↦ λ t. let q : Some (position_or_len is_quote bs) ≡ None = rw t at e in absurd (cc)
      | false ↦ λ t. fails_before_first is_quote bs k 0 (grind arith)
    ] refl)

-- the rest of a slice
behind : (n : ℕ) (bs : List ℕ) → drop n bs ≡ take (length bs - n) (drop n bs)
behind n bs = sym (take_all (length bs - n) (drop n bs) (omega (arith, length-drop n bs)))

pub quote_step : (bs : List ℕ) (i : ℕ) → position is_quote bs ≡ Some i
    → doubled bs ≡ take (i + 1) bs ++ 39 ∷ doubled (take (length bs - (i + 1)) (drop (i + 1) bs))
quote_step bs i e = to_quote bs i e ∙ ap (λ xs. take (i + 1) bs ++ 39 ∷ doubled xs) (behind (i + 1) bs)

pub quote_within : (bs : List ℕ) (i : ℕ) → position is_quote bs ≡ Some i → i < length bs
quote_within bs i e = (position-Some is_quote bs i 0 e).0

-- a string that has not the form of a name
pub in_quotes : (bs : List ℕ) → is_name bs ≡ false → string_text bs ≡ 39 ∷ doubled bs ++ 39 ∷ []
in_quotes bs e = rw e refl

pub as_it_is : (bs : List ℕ) → is_name bs ≡ true → string_text bs ≡ bs
as_it_is bs e = rw e refl
