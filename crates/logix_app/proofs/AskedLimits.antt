-- The limits that words ask for are in range.
use Rattle.std.proofs.Common.{◌≡◌, ℕ, ◌≤◌, true, false, List, [], ◌∷◌, Some, None, ap, sym, ◌∙◌, subst, arith, ◌⊎◌, inl, inr}
use Rattle.std.specs.Prelude.{nat_le, if◌then◌else◌}
use Rattle.std.proofs.lemmas.Bool.{and_parts, cases_Bool, leb-true}
use Rattle.word_numbers.specs.Numbers.{number_of, is_number, digits_value}
use Rattle.command_words.specs.declared.order.Order.{Order}
use Rattle.command_words.specs.declared.order.Order.TheVariants.{Run, Show}
use Rattle.command_words.specs.Readings.{GivesNumber, IsReading}
use Rattle.fcp_model.specs.Spelling.{Bytes}
use Rattle.logix_app.specs.Parts.{AsksWithin}

-- the number that a word writes is at most the greatest
number-within : (most_digits most n : ℕ) (v : Bytes) → number_of most_digits most v ≡ Some n → n ≤ most
number-within most_digits most n v e = go (cases_Bool (is_number most_digits most v))
  where
    go : (is_number most_digits most v ≡ true) ⊎ (is_number most_digits most v ≡ false) → n ≤ most
    go (inl t) =
        let within = leb-true (digits_value v) most (and_parts _ (nat_le (digits_value v) most) t).1 in
        let same : Some (digits_value v) ≡ Some n = sym (ap (λ b. if b then Some (digits_value v) else None) t) ∙ e in
        let value : digits_value v ≡ n = cc in
        subst (λ k. k ≤ most) value within
    go (inr f) =
        let bad : None ≡ Some n = ap (λ b. if b then Some (digits_value v) else None) (sym f) ∙ e in
        cc

-- so is the number that an option's values give, where the default is
gives-within : (default most n : ℕ) (vs : List Bytes) → default ≤ most → GivesNumber default most vs n → n ≤ most
gives-within default most n [] d g = subst (λ k. k ≤ most) (sym g) d
gives-within default most n (v ∷ []) d g = number-within 8 most n v g
gives-within default most n (v ∷ w ∷ vs) d g = absurd g

-- an order that words ask for
pub asked : (words : List Bytes) (o : Order) → IsReading words o → AsksWithin o
asked words (Run file goal limits control) r = record {
  commits = gives-within 1000000 1000000 limits.commits _ (omega arith) r.asks.are_parts.commits;
  moves = gives-within 1000000 1000000 limits.moves _ (omega arith) r.asks.are_parts.moves;
  cells = gives-within 8000000 64000000 limits.cells _ (omega arith) r.asks.are_parts.cells;
}
asked words (Show file) r = tt
