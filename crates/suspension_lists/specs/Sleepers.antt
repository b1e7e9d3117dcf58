-- Which processes wait by entries of waiting lists, by the words that were kept. Only the crate's private clauses cite this file.
use Rattle.std.specs.Prelude.{◌≡◌, ◌⊎◌, ℕ, ◌+◌, ◌<◌, Bool, true, false, List, [], ◌∷◌, ◌++◌, Option, Some, None}
use Rattle.word_states.specs.Words.{Words, IsIn}
use Rattle.suspension_lists.specs.Cells.{number_of, waits_by}
use Rattle.suspension_lists.specs.Entries.{Tells, IsOneOf, ListHas}
use Rattle.suspension_lists.specs.declared.entries.Entry.{Entry}
use Rattle.suspension_lists.specs.declared.sleepers.Sleeper.{Sleeper}

-- the process of the entry waits by the hang whose number is in the entry, or it does not, and the entry is left from an earlier hang
pub record HangsBy (w : Words) (a : Entry) (waits : Bool) : Type 0 where
  pub number : ℕ
  pub hang : Tells number_of w (a.at + 1) number
  pub status : Tells (waits_by number) w a.process waits

-- the sleeper is the process of the entry, which waits by it, with the number in its name word
pub record IsSleeper (w : Words) (a : Entry) (s : Sleeper) : Type 0 where
  pub same : s.process ≡ a.process
  pub hangs : HangsBy w a true
  pub name : Tells number_of w (a.process + 1) s.name

-- what was found at the entry: its sleeper, or that its hang is over
abbrev pub Judges : Words → Entry → Option Sleeper → Type 0
Judges w a None = HangsBy w a false
Judges w a (Some s) = IsSleeper w a s

-- the list with what was found
abbrev pub pushed : Option Sleeper → List Sleeper → List Sleeper
pushed None ss = ss
pushed (Some s) ss = ss ++ s ∷ []

-- by these entries exactly these sleepers are more than there were
pub record Adds (w : Words) (as' : List Entry) (old new : List Sleeper) : Type 0 where
  pub keeps : (s : Sleeper) → IsOneOf s old → IsOneOf s new
  pub all : (a : Entry) → IsOneOf a as' → ((s : Sleeper) × IsOneOf s new × IsSleeper w a s) ⊎ HangsBy w a false
  pub only : (s : Sleeper) → IsOneOf s new → IsOneOf s old ⊎ ((a : Entry) × IsOneOf a as' × IsSleeper w a s)

-- by the waiting list of the place
pub record AddsPlace (w : Words) (place : ℕ) (old new : List Sleeper) : Type 0 where
  pub entries : List Entry
  pub list : ListHas w place entries
  pub adds : Adds w entries old new

-- a sleeper waits on the place
abbrev pub WaitsOn : Words → ℕ → Sleeper → Type 0
WaitsOn w place s = (as' : List Entry) × ListHas w place as' × ((a : Entry) × IsOneOf a as' × IsSleeper w a s)

-- exactly these sleepers wait on one of these places
pub record AreWaiting (w : Words) (places : List ℕ) (sleepers : List Sleeper) : Type 0 where
  pub all : (b : ℕ) → IsIn b places → (as' : List Entry) × ListHas w b as'
      × ((a : Entry) → IsOneOf a as' → ((s : Sleeper) × IsOneOf s sleepers × IsSleeper w a s) ⊎ HangsBy w a false)
  pub only : (s : Sleeper) → IsOneOf s sleepers → (b : ℕ) × IsIn b places × WaitsOn w b s

-- one sleeper comes before another: by name, and by address where both say one name
abbrev pub IsBefore : Sleeper → Sleeper → Type 0
IsBefore s t = (s.name < t.name) ⊎ ((s.name ≡ t.name) × (s.process < t.process))

-- each comes before those after it
abbrev pub Rise : List Sleeper → Type 0
Rise [] = Unit {0}
Rise (s ∷ ss) = ((t : Sleeper) → IsOneOf t ss → IsBefore s t) × Rise ss
