-- The digits of small numbers.
use Rattle.std.proofs.Common.{◌≡◌, [], ◌∷◌, ◌++◌, ap, ◌∙◌, lit<, lit≤}
use Rattle.std.specs.Prelude.{decimal}
use Rattle.std.proofs.lemmas.Fmt.{decimal_digit, decimal_step}

pub decimal0 : decimal 0 ≡ 48 ∷ []
decimal0 = decimal_digit 0 (lit< tt)

pub decimal1 : decimal 1 ≡ 49 ∷ []
decimal1 = decimal_digit 1 (lit< tt)

pub decimal2 : decimal 2 ≡ 50 ∷ []
decimal2 = decimal_digit 2 (lit< tt)

pub decimal3 : decimal 3 ≡ 51 ∷ []
decimal3 = decimal_digit 3 (lit< tt)

pub decimal4 : decimal 4 ≡ 52 ∷ []
decimal4 = decimal_digit 4 (lit< tt)

pub decimal5 : decimal 5 ≡ 53 ∷ []
decimal5 = decimal_digit 5 (lit< tt)

pub decimal6 : decimal 6 ≡ 54 ∷ []
decimal6 = decimal_digit 6 (lit< tt)

pub decimal7 : decimal 7 ≡ 55 ∷ []
decimal7 = decimal_digit 7 (lit< tt)

pub decimal8 : decimal 8 ≡ 56 ∷ []
decimal8 = decimal_digit 8 (lit< tt)

pub decimal9 : decimal 9 ≡ 57 ∷ []
decimal9 = decimal_digit 9 (lit< tt)

pub decimal10 : decimal 10 ≡ 49 ∷ 48 ∷ []
decimal10 = decimal_step 10 (lit≤ tt) (lit< tt) ∙ ap (λ ds. ds ++ 48 ∷ []) decimal1

pub decimal11 : decimal 11 ≡ 49 ∷ 49 ∷ []
decimal11 = decimal_step 11 (lit≤ tt) (lit< tt) ∙ ap (λ ds. ds ++ 49 ∷ []) decimal1

pub decimal12 : decimal 12 ≡ 49 ∷ 50 ∷ []
decimal12 = decimal_step 12 (lit≤ tt) (lit< tt) ∙ ap (λ ds. ds ++ 50 ∷ []) decimal1

pub decimal13 : decimal 13 ≡ 49 ∷ 51 ∷ []
decimal13 = decimal_step 13 (lit≤ tt) (lit< tt) ∙ ap (λ ds. ds ++ 51 ∷ []) decimal1

pub decimal14 : decimal 14 ≡ 49 ∷ 52 ∷ []
decimal14 = decimal_step 14 (lit≤ tt) (lit< tt) ∙ ap (λ ds. ds ++ 52 ∷ []) decimal1

pub decimal15 : decimal 15 ≡ 49 ∷ 53 ∷ []
decimal15 = decimal_step 15 (lit≤ tt) (lit< tt) ∙ ap (λ ds. ds ++ 53 ∷ []) decimal1

pub decimal16 : decimal 16 ≡ 49 ∷ 54 ∷ []
decimal16 = decimal_step 16 (lit≤ tt) (lit< tt) ∙ ap (λ ds. ds ++ 54 ∷ []) decimal1

pub decimal17 : decimal 17 ≡ 49 ∷ 55 ∷ []
decimal17 = decimal_step 17 (lit≤ tt) (lit< tt) ∙ ap (λ ds. ds ++ 55 ∷ []) decimal1

pub decimal99 : decimal 99 ≡ 57 ∷ 57 ∷ []
decimal99 = decimal_step 99 (lit≤ tt) (lit< tt) ∙ ap (λ ds. ds ++ 57 ∷ []) decimal9

-- what is written for the numbers of the examples
pub ruleset digits = (
  decimal0,
  decimal1,
  decimal2,
  decimal3,
  decimal4,
  decimal5,
  decimal6,
  decimal7,
  decimal8,
  decimal9,
  decimal10,
  decimal11,
  decimal12,
  decimal13,
  decimal14,
  decimal15,
  decimal16,
  decimal17,
  decimal99,
)
