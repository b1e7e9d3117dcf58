-- The lines of processes, by words that stand for a state.
use Rattle.std.specs.Prelude.{◌≡◌, ℕ, ◌<◌, List, Some, filter, not}
use Rattle.std.specs.List.{AllZip}
use Rattle.fcp_model.specs.Places.{Variable, places_among}
use Rattle.fcp_model.specs.Programs.{Program}
use Rattle.fcp_model.specs.States.{Status, ready, waiting, finished, Process, State, is_finished}
use Rattle.fcp_model.specs.LawfulStates.{IsLawfulState}
use Rattle.fcp_model.specs.Spelling.{Bytes}
use Rattle.fcp_model.specs.ReportText.{process_line, process_lines}
use Rattle.heap_words.specs.Trails.{WordList}
use Rattle.word_states.specs.Words.{Words}
use Rattle.word_states.specs.Standing.{Book, StandsFor, ProcessAt}
use Rattle.word_states.specs.Trials.{WaitSays}
use Rattle.word_states.specs.Going.{AllAt, ArePlaces}
use Rattle.entry_lines.specs.Additions.{Adds}
use Rattle.entry_lines.specs.Lines.{HasKept}

-- the addresses are those of the places on which a process waits, where it waits: a waiting set
abbrev pub AreWaits : Book → List ℕ → Status → Type 0
AreWaits book waits ready = Unit {0}
AreWaits book waits (waiting ps) = ArePlaces book.places waits ps × ((reads : List Variable) × (ps ≡ places_among reads))
AreWaits book waits finished = Unit {0}

-- The words stand for the state, its process x has its words at p, and these are the addresses of the places on which it waits.
pub record IsProcessThere (w : Words) (book : Book) (s : State) (p : ℕ) (x : Process) (waits : List ℕ) : Type 0 where
  pub stands : StandsFor book w s
  pub at : ProcessAt book s p x
  pub places : AreWaits book waits x.status

-- so its line was put after the text, wherever words have those that were kept
abbrev pub ProcessLine : List Bytes → Program → WordList → ℕ → List ℕ → Bytes → Bytes → Type 0
ProcessLine names m kept p waits old new = (w : Words) (book : Book) (s : State) (x : Process) → HasKept kept w
    → IsProcessThere w book s p x waits → Adds old new (λ n. process_line n names m s.bound x)

-- the words have all that some loads gave
abbrev pub HasGiven : (ℕ → ℕ → Type 0) → Words → Type 0
HasGiven gave w = (a x : ℕ) → gave a x → a < 4000000000 → w a ≡ Some x

-- the processes of a state that are not finished
abbrev pub live : State → List Process
live s = filter (λ p. not (is_finished p.status)) s.processes

-- The words stand for the state, its live processes have their words at these addresses, in order, and these are the addresses of the
-- places on which each of them waits.
pub record AreProcessesThere (w : Words) (book : Book) (s : State) (qs : List ℕ) (waits : List (List ℕ)) : Type 0 where
  pub stands : StandsFor book w s
  pub at : AllAt book s qs (live s)
  pub places : AllZip (λ as' x. AreWaits book as' x.status) waits (live s)

-- so their lines were put after the text, wherever words have all that the loads of the call gave
abbrev pub ProcessLines : List Bytes → Program → (ℕ → ℕ → Type 0) → List ℕ → List (List ℕ) → Bytes → Bytes → Type 0
ProcessLines names m gave qs waits old new = (w : Words) (book : Book) (s : State) → HasGiven gave w → AreProcessesThere w book s qs waits
    → Adds old new (λ n. process_lines n names m s.bound s.processes)

-- Where words stand for a lawful state, a trial of a process by them tells the places on which it waits.
abbrev pub WaitsAreTold : Type 0
WaitsAreTold = (m : Program) (w : Words) (book : Book) (s : State) (p : ℕ) (x : Process) (places : List ℕ) (stands : StandsFor book w s)
    (at : ProcessAt book s p x) → IsLawfulState m s
    → WaitSays m w book.places stands.short (stands.process p x at).goal.goal places → AreWaits book places x.status
