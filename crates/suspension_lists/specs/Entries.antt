-- Waiting lists by the words that were kept. Only the crate's private clauses cite this file.
use Rattle.std.specs.Prelude.{◌≡◌, ◌⊎◌, ℕ, ◌+◌, ◌<◌, List, [], ◌∷◌, Option, Some, None}
use Rattle.heap_words.specs.Cells.{decoded}
use Rattle.heap_words.specs.declared.cell.Cell.{Cell}
use Rattle.heap_words.specs.declared.cell.Cell.TheVariants.{Unbound, Cons}
use Rattle.word_states.specs.Words.{Words}
use Rattle.suspension_lists.specs.Cells.{list_of, link_of, process_of}
use Rattle.suspension_lists.specs.declared.entries.Entry.{Entry}
use Rattle.suspension_lists.specs.declared.entries.Linked.{Linked}

-- the word at an address says this
abbrev pub Tells : {A : Type 0} → (Option Cell → A) → Words → ℕ → A → Type 0
Tells f w a y = (x : ℕ) × (w a ≡ Some x) × (f (decoded x) ≡ y)

-- one of a list
abbrev pub IsOneOf : {A : Type 0} → A → List A → Type 0
IsOneOf x [] = ⊥
IsOneOf x (y ∷ ys) = (y ≡ x) ⊎ IsOneOf x ys

-- a known word refers to an entry at the address
abbrev pub LeadsTo : (ℕ → Type 0) → ℕ → Type 0
LeadsTo leads e = (0 < e) × ((x : ℕ) × leads x × ((decoded x ≡ Some (Unbound e)) ⊎ (decoded x ≡ Some (Cons e))))

-- and does so unless the address is 0, where no entry is
abbrev pub MayLead : (ℕ → Type 0) → ℕ → Type 0
MayLead leads e = (e ≡ 0) ⊎ LeadsTo leads e

-- an entry stands at its address, with this link
pub record IsEntry (w : Words) (a : Entry) (l : ℕ) : Type 0 where
  pub above : 0 < a.at
  pub process : Tells process_of w a.at (Some a.process)
  pub link : Tells link_of w (a.at + 2) l

-- no entry stands at the address
abbrev pub NoEntry : Words → ℕ → Type 0
NoEntry w e = (e ≡ 0) ⊎ Tells process_of w e None

-- the entry at an address, or that none stands there
abbrev pub EntryAt : Words → ℕ → Option Linked → Type 0
EntryAt w e None = NoEntry w e
EntryAt w e (Some r) = (r.entry.at ≡ e) × IsEntry w r.entry r.link

-- from the address f on these entries are linked, up to the address e
abbrev pub Path : Words → ℕ → List Entry → ℕ → Type 0
Path w f [] e = f ≡ e
Path w f (a ∷ as') e = (a.at ≡ f) × ((l : ℕ) × IsEntry w a l × Path w l as' e)

-- the waiting list from the address f on has exactly these entries
abbrev pub HasEntries : Words → ℕ → List Entry → Type 0
HasEntries w f as' = (e : ℕ) × Path w f as' e × NoEntry w e

-- the waiting list of the place at a has exactly these entries
abbrev pub ListHas : Words → ℕ → List Entry → Type 0
ListHas w a as' = (f : ℕ) × Tells list_of w a f × HasEntries w f as'
