-- What entries read and write that add one to a word.
use Rattle.std.specs.Prelude.{◌+◌, ◌%◌, ◌^◌, [], ◌∷◌, false}
use Rattle.word_commit.specs.Meanings.{Wording, Meaning}
use Rattle.store_bench.specs.declared.counts.Count.{Count}

-- a page's first word is its top
abbrev pub count_words : Wording
count_words = record { top = λ x. x; is_final = λ x. false; refers = λ l a. false }

-- the word that was read, and one more
abbrev pub counts : Meaning Count
counts = record {
  words = count_words;
  reads = λ e. (e.addr, e.had) ∷ [];
  writes = λ e n. (e.addr, (e.had + 1) % 2 ^ 64) ∷ [];
  cost = λ e. record { commits = 0; moves = 1; cells = 0 };
  sound = λ e. Unit {0};
}
