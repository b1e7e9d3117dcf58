-- Who is to be woken, by the words that were kept.
use Rattle.std.specs.Prelude.{◌≡◌, ℕ, List, Some}
use Rattle.heap_words.specs.Trails.{WordList, word_at}
use Rattle.word_states.specs.Words.{Words}
use Rattle.word_states.specs.Trials.{AreReads}
use Rattle.word_states.specs.Waking.{ReadWakes}

-- each of these words is one of those too
abbrev pub Within : Words → Words → Type 0
Within w w' = (a x : ℕ) → w a ≡ Some x → w' a ≡ Some x

-- reads among which is each kept word say that these processes are to be woken for these places
abbrev pub KeptWakes : WordList → List ℕ → List ℕ → Type 0
KeptWakes kept places wakes = (read : WordList) → AreReads read → Within (word_at kept) (word_at read) → ReadWakes read places wakes
