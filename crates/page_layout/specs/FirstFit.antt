-- First fit: each piece goes to the first page that has room for it.
use Rattle.std.specs.Prelude.{◌≡◌, ℕ, ◌+◌, ◌*◌, ◌<◌, ◌≤◌, ◌&&◌, List, [], ◌∷◌, ◌++◌, Option, Some, if◌then◌else◌, nat_eq, nat_lt, nat_le}
use Rattle.std.specs.Option.{option_and_then}
use Rattle.heap_words.specs.Cells.{decoded}
use Rattle.heap_words.specs.Trails.{WordList, word_at}
use Rattle.heap_words.specs.declared.cell.Cell.{Cell}
use Rattle.heap_words.specs.declared.cell.Cell.TheVariants.{Top}
use Rattle.word_states.specs.Words.{Words}
use Rattle.suspension_lists.specs.Waking.{Within}
use Rattle.page_layout.specs.Laying.{run}

-- the next free address of page p by what its first word says: the top; past the page's end, where it is no top of this page
abbrev pub free_by : ℕ → Option Cell → ℕ
free_by p (Some (Top t)) = if nat_lt (1024 * p) t && nat_le t (1024 * p + 1024) then t else (1024 * p + 1025)
free_by p _ = 1024 * p + 1025

-- the next free address of each page
abbrev pub next_free : Words → ℕ → ℕ
next_free w p = free_by p (option_and_then decoded (w (1024 * p)))

-- the same after n words of page p were taken
abbrev pub raised : (ℕ → ℕ) → ℕ → ℕ → ℕ → ℕ
raised free p n q = if nat_eq p q then (free q + n) else free q

-- Of the pages from `from` on and before `pages`, p is the first one with n free words.
pub record IsFirstFit (from pages : ℕ) (free : ℕ → ℕ) (n p : ℕ) : Type 0 where
  pub low : from ≤ p
  pub high : p < pages
  pub fits : free p + n ≤ 1024 * p + 1024
  pub first : (q : ℕ) → from ≤ q → q < p → 1024 * q + 1024 < free q + n

-- The pieces of these sizes go, one after another, each to the first page with room for it; the table has the addresses of their words.
abbrev pub FirstFits : ℕ → ℕ → (ℕ → ℕ) → List ℕ → List ℕ → Type 0
FirstFits from pages free [] table = table ≡ []
FirstFits from pages free (n ∷ ns) table = (p : ℕ) × (rest : List ℕ) × IsFirstFit from pages free n p × (table ≡ run (free p) n ++ rest)
    × FirstFits from pages (raised free p n) ns rest

-- so by the words that were kept, whatever the others are
abbrev pub GoFirst : WordList → ℕ → ℕ → List ℕ → List ℕ → Type 0
GoFirst kept from pages sizes table = (w : Words) → Within (word_at kept) w → FirstFits from pages (next_free w) sizes table
