-- What is left of a store that is closed.
use Rattle.std.specs.Prelude.{◌≡◌, ℕ, suc, ◌+◌, ◌*◌, ◌<◌, ◌≤◌, List, map, length, slice_index}
use mathlib.Core.Option.{some}
use lib.ListN.{get_elem?}
use Rattle.word_commit.specs.declared.view.View.{View}
use Rattle.word_commit.specs.declared.view.Numbered.{Numbered}
use Rattle.word_commit.specs.declared.view.Given.{Given}
use Rattle.word_commit.specs.Meanings.{Meaning, Among}
use Rattle.word_commit.specs.Histories.{Inside, Closed, Lawful, world}
use Rattle.word_commit.specs.Views.{Charge, price, left, granted}
use Rattle.word_commit.specs.Kept.{words_of, total, IsLogged}

module _ {L : Type 0} where
  -- each entry stands at its number, counted from 1
  abbrev pub AreArranged : List ℕ → List L → List L → Type 0
  AreArranged numbers old new = (length new ≡ length old)
      × ((j n : ℕ) (x : L) → get_elem? old j ≡ some x → get_elem? numbers j ≡ some (suc n) → get_elem? new n ≡ some x)

module _ {E L : Type 0} (m : Meaning E) (logged : E → L) where
  -- The view v is of the only seat left; the store has these words, and its entries in order of number are this log.
  pub record Closes (g : Given) (v : View E) (words : List ℕ) (log : List L) : Type 0 where
    -- one lawful history over the words given
    pub history : List E
    pub lawful : Lawful m 1 (words_of g) history
    -- of the seat's entries, each at its number, and of no others
    pub entries : (x : Numbered E) → Among v.entries x → IsLogged history x
    pub whole : length history ≡ length v.entries
    -- they cost no more than was given, less what is left
    pub budget : (c : Charge) → total (λ e. price c (m.cost e)) history + left c v.purse ≤ granted c g
    -- is the log
    pub log_is : map logged history ≡ log
    -- the words that stand or stood inside refer together to nothing but addresses inside
    pub ever : List (ℕ × ℕ)
    pub stood : (a : ℕ) → a < 1024 * g.pages → Inside m.words (world m 1 (words_of g) history) a
        → Among ever (a, slice_index (world m 1 (words_of g) history) a)
    pub closed : Closed m.words ever (world m 1 (words_of g) history)
    -- and the words are those after it wherever these are inside
    pub size : length words ≡ 1024 * g.pages
    pub words_are : (a : ℕ) → a < 1024 * g.pages → Inside m.words (world m 1 (words_of g) history) a → slice_index words a
        ≡ slice_index (world m 1 (words_of g) history) a
