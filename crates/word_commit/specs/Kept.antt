-- What holds of a store between any two atomic steps.
use Rattle.std.specs.Prelude.{◌≡◌, ◌⊎◌, ℕ, suc, ◌+◌, ◌*◌, ◌/◌, ◌^◌, ◌<◌, ◌≤◌, List, [], ◌∷◌, map, length, slice_index, true, false}
use mathlib.Core.Option.{some}
use lib.ListN.{get_elem?}
use Rattle.atomic_table.specs.Table.{State}
use Rattle.word_commit.specs.declared.view.View.{View}
use Rattle.word_commit.specs.declared.view.Numbered.{Numbered}
use Rattle.word_commit.specs.declared.view.Given.{Given}
use Rattle.word_commit.specs.declared.view.Nothing.{Nothing}
use Rattle.word_commit.specs.Meanings.{Meaning, Among}
use Rattle.word_commit.specs.Histories.{start_of, Inside, Closed, AddsNothing, Lawful, world}
use Rattle.word_commit.specs.Views.{Charge, Moves, Extra, price, left, granted, all_rights, is_in, times, shown}

-- the words that the store was made with
abbrev pub words_of : Given → List ℕ
words_of g = g.words.value.items

-- where in the table the word of a page is, after the cells
abbrev pub page_at : Given → ℕ → ℕ
page_at g p = 1024 * g.pages + p

-- where the clock is, after the pages
abbrev pub clock_at : Given → ℕ
clock_at g = 1024 * g.pages + g.pages

-- a sum over views or entries
abbrev pub total : {V : Type 0} → (V → ℕ) → List V → ℕ
total f [] = 0
total f (v ∷ vs) = f v + total f vs

-- of the numbers 1 to the clock each stands once, and no other stands at all
abbrev pub Once : ℕ → ℕ → ℕ → Type 0
Once clock n t = (1 ≤ n → n ≤ clock → t ≡ 1) × (clock < n → t ≡ 0) × (n ≡ 0 → t ≡ 0)

module _ {E : Type 0} where
  -- the numbers of entries, in the same order
  abbrev pub numbers_of : List (Numbered E) → List ℕ
  numbers_of es = map (λ x. x.number) es

  -- it stands in the log at its number, counted from 1
  abbrev pub IsLogged : List E → Numbered E → Type 0
  IsLogged log x = (k : ℕ) × (x.number ≡ suc k) × (get_elem? log k ≡ some x.entry)

module _ {E : Type 0} (m : Meaning E) where
  -- it stands or stood inside, or it adds nothing to what words refer to
  abbrev pub Plain : List (ℕ × ℕ) → ℕ × ℕ → Type 0
  Plain ever x = Among ever x ⊎ AddsNothing m.words x

  -- the top that a page's first word says is neither below the one given nor above the history's
  abbrev pub IsBetween : List ℕ → List ℕ → ℕ × ℕ → Type 0
  IsBetween first w x = x.0 ≡ start_of x.0 → (m.words.top (slice_index first x.0) ≤ m.words.top x.1)
      × (m.words.top x.1 ≤ m.words.top (slice_index w x.0))

  -- A word that was loaded at a known address.
  pub record IsShown (first : List ℕ) (ever : List (ℕ × ℕ)) (w : List ℕ) (x : ℕ × ℕ) : Type 0 where
    pub plain : Plain ever x
    pub inside : Inside m.words w x.0
    pub there : x.0 < length w
    -- where it is final it is still there
    pub final : m.words.is_final x.1 ≡ true → slice_index w x.0 ≡ x.1
    pub top : IsBetween first w x

  -- What a view says is so.
  pub record IsTrueOf (g : Given) (words : List ℕ) (log : List E) (ever : List (ℕ × ℕ)) (w : List ℕ) (v : View E) : Type 0 where
    -- what it holds are pages of the store
    pub held : (p : ℕ) → is_in p v.grip.held ≡ true → p < g.pages
    -- the words that it knows of held pages are the store's
    pub known : (x : ℕ × ℕ) → Among v.grip.known x → (is_in (x.0 / 1024) v.grip.held ≡ true) × (slice_index words x.0 ≡ x.1)
    -- the words that it has to publish lie in held pages, and are the history's
    pub due : (x : ℕ × ℕ) → Among v.grip.due x → (is_in (x.0 / 1024) v.grip.held ≡ true) × (slice_index w x.0 ≡ x.1)
    pub shown : (x : ℕ × ℕ) → Among (shown v.looks) x → IsShown (words_of g) ever w x
    -- its entries stand in the log, none after its front, and the front is not above the clock
    pub entries : (x : Numbered E) → Among v.entries x → IsLogged log x × (x.number ≤ v.front)
    pub front : v.front ≤ length log
    -- a seat without rights is spent: it has nothing
    pub spent : v.purse.rights ≡ 0 → (v.entries ≡ []) × (v.grip.held ≡ [])

  -- The store's word x at an address lags behind the history's: a view has still to publish that one.
  pub record Lags (first : List ℕ) (ever : List (ℕ × ℕ)) (w : List ℕ) (views : List (View E)) (a x : ℕ) : Type 0 where
    pub id : ℕ
    pub view : View E
    pub at : get_elem? views id ≡ some view
    pub due : Among view.grip.due (a, slice_index w a)
    -- meanwhile the word there is not final, refers to nothing new, and as a top is not above
    pub soft : m.words.is_final x ≡ false
    pub plain : Plain ever (a, x)
    pub top : IsBetween first w (a, x)

  -- The rule.
  pub record Kept (g : Given) (s : State Nothing (View E)) : Type 0 where
    -- all entries in order of number, and the words after them
    pub log : List E
    pub fold : List ℕ
    pub folds : world m 1 (words_of g) log ≡ fold
    -- the log is a lawful history over the words given
    pub lawful : Lawful m 1 (words_of g) log
    -- the words that stand or stood inside
    pub ever : List (ℕ × ℕ)
    pub stood : (a : ℕ) → a < 1024 * g.pages → Inside m.words fold a → Among ever (a, slice_index fold a)
    -- are at addresses inside still, and their tops are not above
    pub within : (x : ℕ × ℕ) → Among ever x → Inside m.words fold x.0 × IsBetween (words_of g) fold x
    -- and refer together to nothing but addresses inside
    pub closed : Closed m.words ever fold
    -- the table has the cells, a word for each page, and the clock
    pub size : length s.words ≡ 1024 * g.pages + g.pages + 1
    -- the words given are whole pages
    pub wide : length (words_of g) ≡ 1024 * g.pages
    -- the tops given lie above their pages' first words
    pub opens : (p : ℕ) → p < g.pages → 1024 * p < m.words.top (slice_index (words_of g) (1024 * p))
    -- the clock counts the entries
    pub clock : slice_index s.words (clock_at g) ≡ length log
    -- of the numbers up to it each stands once in all views, and no other
    pub numbers : (n : ℕ) → Once (length log) n (total (λ v. times n (numbers_of v.entries)) s.views)
    -- a page's word counts its holders, and there are not two
    pub holders : (p : ℕ) → p < g.pages → (slice_index s.words (page_at g p) ≡ total (λ v. times p v.grip.held) s.views)
        × (slice_index s.words (page_at g p) ≤ 1)
    -- what the entries cost, and what the seats have left, is what was given
    pub budget : (c : Charge) → total (λ e. price c (m.cost e)) log + total (λ v. left c v.purse) s.views ≡ granted c g
    -- so numbers fit 32 bits
    pub few : granted Moves g + granted Extra g < 2 ^ 32
    -- the rights of all views together are always the same
    pub rights : total (λ v. v.purse.rights) s.views ≡ all_rights
    -- the store has the history's word wherever that is inside, or one that lags
    pub store : (a : ℕ) → a < 1024 * g.pages → Inside m.words fold a
        → (slice_index s.words a ≡ slice_index fold a) ⊎ Lags (words_of g) ever fold s.views a (slice_index s.words a)
    -- what each view says is so
    pub views : (id : ℕ) (v : View E) → get_elem? s.views id ≡ some v → IsTrueOf g s.words log ever fold v
