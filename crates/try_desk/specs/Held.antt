-- What slots hold.
use Rattle.std.specs.Prelude.{◌≤◌, ℕ, zero, suc, Bool, false, List, [], ◌∷◌, Option, Some, None, if◌then◌else◌, nat_eq, slice_get}
use Rattle.std.specs.Prelude.{unwrap_or}
use Rattle.try_desk.specs.declared.slots.Slot.{Slot}

-- slots, the stamp of the try, and the words of the goal's arguments
pub record Kept : Type 0 where
  pub slots : List Slot
  pub stamp : ℕ
  pub args : List ℕ

-- by its number each slot's word, and whether that is an operation's
pub record Held : Type 0 where
  pub words : ℕ → ℕ
  pub operators : ℕ → Bool

-- what was put into a slot in this try, or else the goal's argument of that number, or the word of the empty list
abbrev pub held_word : Option Slot → ℕ → Option ℕ → ℕ
held_word None now o = unwrap_or o 6
held_word (Some s) now o = if nat_eq s.stamp now then s.word else unwrap_or o 6

-- whether an operation was put there in this try
abbrev pub held_operator : Option Slot → ℕ → Bool
held_operator None now = false
held_operator (Some s) now = if nat_eq s.stamp now then s.operation else false

-- what the slots of a stamp hold
abbrev pub held_by : List Slot → ℕ → List ℕ → Held
held_by slots now args = record {
  words = λ i. held_word (slice_get slots i) now (slice_get args i);
  operators = λ i. held_operator (slice_get slots i) now;
}

-- what slots hold
abbrev pub held : Kept → Held
held s = held_by s.slots s.stamp s.args

-- no slot has a later stamp
abbrev pub NoneLater : List Slot → ℕ → Type 0
NoneLater [] now = Unit {0}
NoneLater (s ∷ slots) now = (s.stamp ≤ now) × NoneLater slots now

-- a slot's word as a term
abbrev pub held_term : Held → ℕ → ℕ
held_term h i = if h.operators i then 6 else h.words i

-- so many of them, from a slot on
abbrev pub held_terms : Held → ℕ → ℕ → List ℕ
held_terms h i zero = []
held_terms h i (suc n) = held_term h i ∷ held_terms h (suc i) n

-- a slot takes a word
abbrev pub held_with : Held → ℕ → ℕ → Bool → Held
held_with h i x o = record h {
  words = λ j. if nat_eq j i then x else h.words j;
  operators = λ j. if nat_eq j i then o else h.operators j;
}

-- before anything was put into slots they hold the arguments
abbrev pub held_anew : List ℕ → Held
held_anew args = record { words = λ i. unwrap_or (slice_get args i) 6; operators = λ i. false }
