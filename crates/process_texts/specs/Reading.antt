-- What is read of a store, said of all words that have those that were kept. Only the crate's private clauses cite this file.
use Rattle.std.specs.Prelude.{◌≡◌, ℕ, ◌+◌, ◌<◌, ◌≤◌, Option, Some}
use Rattle.fcp_model.specs.Terms.{Bindings}
use Rattle.heap_words.specs.Cells.{decoded}
use Rattle.heap_words.specs.Trails.{WordList}
use Rattle.heap_words.specs.declared.cell.Cell.{Cell}
use Rattle.heap_words.specs.declared.cell.Cell.TheVariants.{Status}
use Rattle.heap_words.specs.declared.cell.Stand.{Stand}
use Rattle.word_states.specs.Words.{Words}
use Rattle.word_states.specs.Denoting.{Addresses}
use Rattle.word_states.specs.Standing.{PlacesStand}
use Rattle.entry_lines.specs.Lines.{HasKept}

-- this is the word at the address
abbrev pub WordRead : WordList → ℕ → ℕ → Type 0
WordRead kept a x = (w : Words) (y : ℕ) → HasKept kept w → w a ≡ Some y → y ≡ x

-- and this its cell
abbrev pub CellRead : WordList → ℕ → Option Cell → Type 0
CellRead kept a c = (w : Words) (y : ℕ) → HasKept kept w → w a ≡ Some y → decoded y ≡ c

-- a load gave a word of the cell
abbrev pub HadCell : {S : Type 0} → (S → ℕ → ℕ → Type 0) → S → ℕ → Option Cell → Type 0
HadCell had w a c = (x : ℕ) × had w a x × (decoded x ≡ c)

-- a load gave the status of a process
abbrev pub HadStatus : {S : Type 0} → (S → ℕ → ℕ → Type 0) → S → ℕ → Type 0
HadStatus had w p = (d : Stand) × HadCell had w p (Some (Status d))

-- so many addresses are known, from a on
abbrev pub KnowsFrom : (ℕ → Type 0) → ℕ → ℕ → Type 0
KnowsFrom knows a count = (b : ℕ) → a ≤ b → b < a + count → knows b

-- so it is of all words that have what was kept and stand for bindings
abbrev pub AllWords : WordList → (Words → Addresses → Bindings → Type 0) → Type 0
AllWords kept P = (w : Words) (vs : Addresses) (bound : Bindings) → HasKept kept w → PlacesStand w vs bound → P w vs bound
