-- What notes read and write.
use Rattle.std.specs.Prelude.{◌≡◌, ℕ, ◌+◌, ◌*◌, ◌%◌, ◌^◌, [], ◌∷◌, length, false, nat_le}
use Rattle.word_commit.specs.declared.view.View.{View}
use Rattle.word_commit.specs.Meanings.{Wording, Meaning}
use Rattle.store_tests.specs.declared.notes.Note.{Note}

-- a page's first word is its top, and the words of notes are final
abbrev pub note_words : Wording
note_words = record { top = λ x. x; is_final = λ x. nat_le (2 ^ 40) x; refers = λ l a. false }

-- the address of the page's first word
abbrev pub page_of : Note → ℕ
page_of e = e.page * 1024 % 2 ^ 32

-- a note reads its page's top, and writes there a word with its number and the page's next top
abbrev pub notes : Meaning Note
notes = record {
  words = note_words;
  reads = λ e. (page_of e, e.top) ∷ [];
  writes = λ e n. (e.top, 2 ^ 40 + n) ∷ (page_of e, e.top + 1) ∷ [];
  cost = λ e. record { commits = 0; moves = 0; cells = 1 };
  sound = λ e. Unit {0};
}

-- so many notes more, each of which took a cell, an extra entry and room for one
abbrev pub Adds : View Note → View Note → ℕ → ℕ → ℕ → Type 0
Adds old new room left n =
    (length new.entries ≡ length old.entries + n) × (new.purse.cells + n ≡ old.purse.cells) × (new.purse.extra + n ≡ old.purse.extra)
    × (new.purse.rights ≡ old.purse.rights) × (left + n ≡ room)
