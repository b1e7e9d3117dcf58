-- What a seat may conclude of the store.
use Rattle.std.specs.Prelude.{◌≡◌, ℕ, ◌+◌, ◌*◌, ◌^◌, ◌<◌, ◌≤◌, List, [], length, slice_index}
use Rattle.word_commit.specs.declared.view.View.{View}
use Rattle.word_commit.specs.declared.view.Numbered.{Numbered}
use Rattle.word_commit.specs.declared.view.Given.{Given}
use Rattle.word_commit.specs.Meanings.{Meaning, Among}
use Rattle.word_commit.specs.Histories.{tops, Inside, Closed, Lawful, world}
use Rattle.word_commit.specs.Views.{Charge, price, left, granted, all_rights, times, shown as words_shown, shown_tops}
use Rattle.word_commit.specs.Kept.{words_of, total, Once, numbers_of, IsLogged, IsShown}

module _ {E : Type 0} (m : Meaning E) (g : Given) where
  -- All that a seat saw is of one lawful history.
  pub record Sees (v : View E) : Type 0 where
    pub log : List E
    pub fold : List ℕ
    pub folds : world m 1 (words_of g) log ≡ fold
    pub lawful : Lawful m 1 (words_of g) log
    pub few : length log < 2 ^ 32
    pub wide : length fold ≡ 1024 * g.pages
    -- the words that stand or stood inside refer together to nothing but addresses inside
    pub ever : List (ℕ × ℕ)
    pub stood : (a : ℕ) → a < 1024 * g.pages → Inside m.words fold a → Among ever (a, slice_index fold a)
    pub closed : Closed m.words ever fold
    -- the words that were loaded at known addresses
    pub shown : (x : ℕ × ℕ) → Among (words_shown v.looks) x → IsShown m (words_of g) ever fold x
    -- its own entries, none above the greatest clock that it saw
    pub entries : (x : Numbered E) → Among v.entries x → IsLogged log x × (x.number ≤ v.front)
    pub front : v.front ≤ length log
    -- the tops last shown are above those given by no more cells than are spent at most
    pub cells : shown_tops m.words g.pages (words_of g) (words_shown v.looks) + v.purse.cells ≤ tops m.words g.pages (words_of g) +
        g.quota.cells
    -- what the entries cost and what this seat has left is together no more than was given
    pub budget : (c : Charge) → total (λ e. price c (m.cost e)) log + left c v.purse ≤ granted c g
    -- a seat that is the only one left has all entries
    pub whole : v.purse.rights ≡ all_rights → (n : ℕ) → Once (length log) n (times n (numbers_of v.entries))

  -- After the view v a load at a found x, and the view is u: what a seat that is the only one left finds inside is its history's word.
  abbrev pub Tells : View E → View E → ℕ → ℕ → Type 0
  Tells v u a x = (h : Sees u) × (v.purse.rights ≡ all_rights → v.grip.due ≡ [] → Inside m.words h.fold a → x ≡ slice_index h.fold a)
