-- A try at its commit: its bindings of its own places have gone into its pieces.
use Rattle.std.specs.Prelude.{◌≡◌, ℕ, false, List, Option, Some}
use Rattle.heap_words.specs.Cells.{decoded, is_final_word}
use Rattle.heap_words.specs.Trails.{WordList, word_at}
use Rattle.heap_words.specs.declared.cell.Cell.TheVariants.{Raw}
use Rattle.word_states.specs.Tame.{trial_words}
use Rattle.ro_unify.specs.Walks.{first_some, seen_at}

-- the words that a try has seen, under its bindings
abbrev pub bound_seen : WordList → WordList → (ℕ → Option ℕ) → ℕ → Option ℕ
bound_seen binds kept own a = first_some (word_at binds a) (seen_at kept own a)

-- The bindings `binds`, of the store's places and of own ones, have become the bindings `settled` with the pieces.
pub record IsSettled (kept binds : WordList) (own : ℕ → Option ℕ) (settled : WordList) (ps : List (List ℕ)) : Type 0 where
  -- a bound word is no `Raw`
  pub value : (a x n : ℕ) → word_at binds a ≡ Some x → decoded x ≡ Some (Raw n) → ⊥
  -- where a place is bound, a word was seen that is not final: the place was unbound
  pub opened : (a x : ℕ) → word_at binds a ≡ Some x → (y : ℕ) × (seen_at kept own a ≡ Some y) × (is_final_word y ≡ false)
  -- with the pieces the words are those that the try has seen
  pub same : (a : ℕ) → trial_words (word_at kept) settled ps a ≡ bound_seen binds kept own a
  -- and no more places are bound
  pub fewer : (a x : ℕ) → word_at settled a ≡ Some x → word_at binds a ≡ Some x
