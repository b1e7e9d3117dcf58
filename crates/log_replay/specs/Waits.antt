-- The places on which processes wait, as a trial tells them. Only the crate's private clauses cite this file.
use Rattle.std.specs.Prelude.{ℕ, Bool, true, false, List, Option, Some}
use Rattle.fcp_model.specs.Programs.{Program}
use Rattle.fcp_model.specs.States.{Process, State}
use Rattle.fcp_model.specs.LawfulStates.{IsLawfulState}
use Rattle.heap_words.specs.Heaps.{inside_at}
use Rattle.heap_words.specs.declared.cell.Cell.{Cell}
use Rattle.heap_words.specs.declared.cell.Cell.TheVariants.{Status}
use Rattle.heap_words.specs.declared.cell.Stand.{Stand}
use Rattle.heap_words.specs.declared.cell.Stand.TheVariants.{Waiting}
use Rattle.word_states.specs.Words.{At, IsIn}
use Rattle.word_states.specs.Standing.{Book, StandsFor, ProcessAt}
use Rattle.machine_code.specs.Compiling.{Tables}
use Rattle.trial_machine.specs.Deciding.{IsCodeOf}
use Rattle.process_texts.specs.Lines.{AreWaits}
use Rattle.run_laws.specs.Running.{IsPlaceInUse}

-- a process waits that stands so
abbrev pub waits : Stand → Bool
waits (Waiting n) = true
waits _ = false

-- the cell is the status of a process that waits
abbrev pub is_waiting : Option Cell → Bool
is_waiting (Some (Status d)) = waits d
is_waiting _ = false

-- the status of a process stands there
abbrev pub IsProcess : List ℕ → ℕ → Type 0
IsProcess ws p = (d : Stand) × At (inside_at ws) p (Status d)

-- The addresses are those of places in use. By the code of a program, where the words stand for a lawful state, they are those of the places
-- on which the process at p waits.
pub record AreTold (t : Tables) (ws : List ℕ) (p : ℕ) (places : List ℕ) : Type 0 where
  pub known : (a : ℕ) → IsIn a places → IsPlaceInUse ws a
  pub waits : (m : Program) (book : Book) (s : State) (x : Process) → IsCodeOf t m → StandsFor book (inside_at ws) s
      → ProcessAt book s p x → IsLawfulState m s → AreWaits book places x.status
