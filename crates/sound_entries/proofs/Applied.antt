-- Writes one after another, and what stands afterwards.
use Rattle.std.proofs.Common.{◌≡◌, ℕ, List, [], ◌∷◌, length, set, refl, ◌∙◌}
use Rattle.std.proofs.lemmas.List.{length-set}
use Rattle.heap_words.specs.Trails.{WordList}
use Rattle.word_states.specs.Writing.{applied}

pub length_same : (ws : List ℕ) (xs : WordList) → length (applied ws xs) ≡ length ws
length_same ws [] = refl
length_same ws (x ∷ xs) = length_same (set ws x.0 x.1) xs ∙ length-set ws x.0 x.1
