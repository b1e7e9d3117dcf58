-- The value of digits, and how large it may be.
use Rattle.std.proofs.Common.{◌≡◌, ℕ, ◌+◌, ◌-◌, ◌*◌, ◌<◌, ◌≤◌, ◌^◌, true, List, [], ◌∷◌, length, take, drop, ◌++◌, refl, ap, sym, ◌∙◌, arith, rules}
use Rattle.std.specs.Prelude.{fold, Bool, false, ◌&&◌}
use Rattle.std.specs.Char.{is_ascii_digit}
use Rattle.std.specs.List.{list_all}
use Rattle.std.proofs.lemmas.Str.Parse.{IsNumeralModel, IsDigitsTest, numerals_by_fold, digits_value_short}
use Rattle.std.proofs.lemmas.List.{take-append-drop, length-take}
use Rattle.std.proofs.lemmas.List.Folds.{list_all-append}
use Rattle.word_numbers.specs.Numbers.{are_digits, with_digit, digits_value}

turned : (n c : ℕ) → 10 * n + (c - 48) ≡ n * 10 + (c - 48)
turned n c = omega arith

and_true_left : (a b : Bool) → (a && b) ≡ true → a ≡ true
and_true_left true b e = refl
and_true_left false b e = e

tells : IsDigitsTest (λ ds. are_digits ds ≡ true)
tells = search rules

pub decimal-numerals : IsNumeralModel (λ ds. are_digits ds ≡ true) digits_value
decimal-numerals =
    numerals_by_fold (λ ds. are_digits ds ≡ true) tells (λ n ds. fold with_digit n ds)
    (record { empty = λ n. refl; more = λ n c cs k. ap (λ m. fold with_digit m cs) (turned n c) })

-- the digits at the front are digits
pub digits-take : (ds : List ℕ) (i : ℕ) → are_digits ds ≡ true → are_digits (take i ds) ≡ true
digits-take ds i e =
    let whole : are_digits (take i ds ++ drop i ds) ≡ true = ap are_digits (take-append-drop i ds) ∙ e in
    and_true_left (are_digits (take i ds)) (are_digits (drop i ds)) (sym (list_all-append is_ascii_digit (take i ds) (drop i ds)) ∙ whole)

-- eight digits at most have a value below 100,000,000
pub front-below : (ds : List ℕ) (i : ℕ) → are_digits ds ≡ true → length ds ≤ 9 → i < length ds → digits_value (take i ds) < 100000000
front-below ds i e few within =
    digits_value_short decimal-numerals (take i ds) 8 (digits-take ds i e) (omega (arith, length-take i ds))
