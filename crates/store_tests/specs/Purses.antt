-- What transfers between purses read and write.
use Rattle.std.specs.Prelude.{◌+◌, ◌-◌, ◌%◌, ◌^◌, [], ◌∷◌, false}
use Rattle.word_commit.specs.Meanings.{Wording, Meaning}
use Rattle.store_tests.specs.declared.purses.Transfer.{Transfer}

-- a page's first word is its top
abbrev pub purse_words : Wording
purse_words = record { top = λ x. x; is_final = λ x. false; refers = λ l a. false }

-- a transfer reads two purses and writes one coin less in the one and one more in the other
abbrev pub purses : Meaning Transfer
purses = record {
  words = purse_words;
  reads = λ e. (e.from, e.had) ∷ (e.to, e.owned) ∷ [];
  writes = λ e n. (e.from, e.had - 1) ∷ (e.to, (e.owned + 1) % 2 ^ 64) ∷ [];
  cost = λ e. record { commits = 0; moves = 1; cells = 0 };
  sound = λ e. Unit {0};
}
