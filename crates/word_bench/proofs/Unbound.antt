-- A binding leaves the addresses above it unbound.
use Rattle.std.proofs.Common.{◌≡◌, ◌<◌, ℕ, false, cond, [], ◌∷◌, ◌++◌, Some, None, ap, ◌∙◌, arith, nat_eq}
use Rattle.std.proofs.lemmas.Bool.Decides.{nat_tests}
use Rattle.heap_words.specs.Trails.{WordList, word_at}
use Rattle.heap_words.proofs.Keeps.{or_at, one_at, word_at-append}

pub above_unbound : (xs : WordList) (b y a : ℕ) → word_at xs a ≡ None → b < a → word_at (xs ++ (b, y) ∷ []) a ≡ None
above_unbound xs b y a e l =
    let other : nat_eq a b ≡ false = grind (arith, nat_tests, l) in
    word_at-append xs b y a ∙ (ap (λ o. or_at o (one_at b y a)) e ∙ ap (λ t. cond t (Some y) None) other)
