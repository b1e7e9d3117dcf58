-- The digits of decimal numbers.
use Rattle.std.proofs.Common.{◌≡◌, ℕ, ◌+◌, ◌-◌, ◌*◌, true, refl, ap, arith}
use Rattle.std.specs.Prelude.{fold}
use Rattle.std.specs.Str.{all_ascii_digits}
use Rattle.std.proofs.lemmas.Str.Parse.{IsNumeralModel, numerals_by_fold, tells_all_ascii_digits}
use Rattle.fcp_text.specs.Numbers.{with_digit, digits_value}

turned : (n c : ℕ) → 10 * n + (c - 48) ≡ n * 10 + (c - 48)
turned n c = omega arith

pub decimal-numerals : IsNumeralModel (λ ds. all_ascii_digits ds ≡ true) digits_value
decimal-numerals =
    numerals_by_fold (λ ds. all_ascii_digits ds ≡ true) tells_all_ascii_digits (λ n ds. fold with_digit n ds)
    (record { empty = λ n. refl; more = λ n c cs k. ap (λ m. fold with_digit m cs) (turned n c) })
