-- The words of a store that is closed.
use Rattle.std.specs.Prelude.{ℕ, List, take}
use Rattle.std.specs.Slots.{slots_items}
use Rattle.word_commit.specs.declared.closed.ClosedWords.{ClosedWords}

-- the cells of the table
abbrev pub closed_words : ClosedWords → List ℕ
closed_words w = take w.len (slots_items w.table.words)
