-- How many cells the next entry of a process has, by the words that were read of it.
use Rattle.std.specs.Prelude.{◌≡◌, ℕ}
use Rattle.fcp_model.specs.Places.{Variable}
use Rattle.fcp_model.specs.Terms.{Bindings}
use Rattle.fcp_model.specs.Programs.{Goal, Program}
use Rattle.fcp_model.specs.Decisions.{Decision, Decides}
use Rattle.fcp_model.specs.Cells.{cells}
use Rattle.heap_words.specs.Trails.{WordList}
use Rattle.word_states.specs.Words.{Words}
use Rattle.word_states.specs.Denoting.{Addresses}
use Rattle.word_states.specs.Trials.{IsTried}

-- Over these bindings something is decided for the goal, and its entry has so many cells.
pub record EntryCosts (m : Program) (bound : Bindings) (g : Goal Variable) (needed : ℕ) : Type 0 where
  pub decision : Decision
  pub decided : Decides m bound g decision
  pub costs : cells m g decision ≡ needed

-- wherever words have what was read, and the process at p has a goal, the goal's entry has so many cells
abbrev pub DecidesCells : Program → WordList → ℕ → ℕ → Type 0
DecidesCells m read p needed = (w : Words) (vs : Addresses) (bound : Bindings) (g : Goal Variable) → IsTried read p w vs bound g
    → EntryCosts m bound g needed
