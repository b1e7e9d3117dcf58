-- The laws: what an entry does to a heap of words that stands for a state.
use Rattle.std.specs.Prelude.{◌≡◌, ℕ, suc, ◌<◌, true, List, ◌++◌, Some}
use Rattle.fcp_model.specs.Decisions.{Decision, commits, decides_fail, waits_on, Decides}
use Rattle.fcp_model.specs.Places.{Variable}
use Rattle.fcp_model.specs.Terms.{Bindings}
use Rattle.fcp_model.specs.Events.{event_of}
use Rattle.fcp_model.specs.Programs.{Program}
use Rattle.fcp_model.specs.Runs.{next, entry_decided}
use Rattle.fcp_model.specs.States.{ready, Process, State, is_running}
use Rattle.heap_words.specs.Heaps.{IsHeap, inside_at}
use Rattle.heap_words.specs.Trails.{WordList}
use Rattle.heap_words.specs.declared.cell.Cell.TheVariants.{Unbound}
use Rattle.word_states.specs.Words.{Words, At, Has, Among, HasAll, addresses_of, over}
use Rattle.word_states.specs.Standing.{Book, StandsFor, ProcessAt}
use Rattle.word_states.specs.Trials.{places_bound, AreAt, WaitSays, FailSays, TriedCommit, TriedWait, TriedFail, IsReadCommit}
use Rattle.word_states.specs.Waking.{AreByName, ReadWakes, AreWoken}
use Rattle.word_states.specs.Layouts.{CommitLaid, HangLaid, fresh_places, born_at}
use Rattle.word_states.specs.Planning.{commit_writes, IsPlanned, hang_writes, IsHangPlanned}

-- The process x at p may move: in the state for which the heap stands it is Ready.
pub record MayMove (book : Book) (ws : List ℕ) (s : State) (p : ℕ) (x : Process) : Type 0 where
  -- the words are a heap, which stands for the state
  pub heap : IsHeap ws
  pub stands : StandsFor book (inside_at ws) s
  -- the process is there, and Ready
  pub process : ProcessAt book s p x
  pub is_ready : x.status ≡ ready
  -- the run is open, and the number of the next entry fits into names
  pub running : is_running s.mode ≡ true
  pub few : suc s.entries < 134217728

-- What was decided for the process x goes: its entry is legal, and the words w' stand, by the book, for the state after its event.
pub record GoesBy (m : Program) (book' : Book) (s : State) (x : Process) (d : Decision) (w' : Words) : Type 0 where
  -- the event, by some number of steps
  pub legal : (n : ℕ) × (next n m s (entry_decided x.name d) ≡ Some (event_of m s x d))
  pub stands : StandsFor book' w' (event_of m s x d).after

-- the book after a commit by entry n: after the places come the new ones, and after the processes the children
abbrev pub book_after : Book → (ℕ → ℕ) → ℕ → List (List ℕ) → Book
book_after book f n ps = record { places = book.places ++ fresh_places f n ps; processes = book.processes ++ born_at f ps }

-- The commit of the process x goes: by its decision, whose bindings bind the places at these addresses, in this order; the woken are those
-- that they wake, by name.
pub record CommitGoes (m : Program) (book : Book) (s : State) (x : Process) (k : ℕ) (binds : WordList) (ps : List (List ℕ))
    (wakes : List ℕ) (f : ℕ → ℕ) (w' : Words) : Type 0 where
  -- what the definitions decide for the goal
  pub bindings : Bindings
  pub reads : List Variable
  pub decides : Decides m s.bound x.goal (commits k bindings reads)
  -- what the bindings bind and wake
  pub order : AreAt book.places (addresses_of binds) (places_bound bindings)
  pub woken : AreWoken book s bindings wakes
  pub by_name : AreByName book s wakes
  pub goes : GoesBy m (book_after book f (suc s.entries) ps) s x (commits k bindings reads) w'

-- Where a trial says a commit, and waiting lists say whom its bindings wake, by words that stand, the commit is legal, and the words
-- after it is laid stand for the state after it.
abbrev pub ACommitGoes : Type 0
ACommitGoes = (m : Program) (book : Book) (ws : List ℕ) (s : State) (p k : ℕ) (x : Process) (read lists binds : WordList)
    (ps : List (List ℕ)) (wakes : List ℕ) (f : ℕ → ℕ) (w' : Words) → MayMove book ws s p x
    → HasAll read (inside_at ws) → TriedCommit m read p k binds ps → IsReadCommit read binds ps → HasAll lists (inside_at ws)
    → ReadWakes lists (addresses_of binds) wakes
    → CommitLaid f (suc s.entries) p binds ps wakes (inside_at ws) w' → CommitGoes m book s x k binds ps wakes f w'

-- and so it is for a hang, after which the book is the same
abbrev pub AHangGoes : Type 0
AHangGoes = (m : Program) (book : Book) (ws : List ℕ) (s : State) (p : ℕ) (x : Process) (read : WordList) (places : List ℕ)
    (entry : ℕ → ℕ) (w' : Words) → MayMove book ws s p x → HasAll read (inside_at ws) → TriedWait m read p places
    → HangLaid entry (suc s.entries) p places (inside_at ws) w'
    → (says : WaitSays m (inside_at ws) book.places s.bound x.goal places) × GoesBy m book s x (waits_on says.reads) w'

-- and for a fail, which changes no word
abbrev pub AFailGoes : Type 0
AFailGoes = (m : Program) (book : Book) (ws : List ℕ) (s : State) (p : ℕ) (x : Process) (read : WordList) → MayMove book ws s p x
    → HasAll read (inside_at ws) → TriedFail m read p
    → (says : FailSays m s.bound x.goal) × GoesBy m book s x (decides_fail says.reads) (inside_at ws)

-- a commit's writes by a plan, over the words, are the commit laid
abbrev pub APlannedCommitIsLaid : Type 0
APlannedCommitIsLaid = (f : ℕ → ℕ) (n p : ℕ) (binds : WordList) (ps : List (List ℕ)) (wakes : List ℕ) (tops : WordList) (w : Words)
    → IsPlanned f n p binds ps wakes tops w → CommitLaid f n p binds ps wakes w (over (commit_writes f n p binds ps wakes tops) w)

-- and a hang's writes are the hang laid, where the lists of its places begin as the words say
abbrev pub APlannedHangIsLaid : Type 0
APlannedHangIsLaid = (entry : ℕ → ℕ) (n p : ℕ) (lists tops : WordList) (w : Words) → IsHangPlanned entry n p lists tops w → Has w p
    → ((a e : ℕ) → Among lists (a, e) → At w a (Unbound e))
    → HangLaid entry n p (addresses_of lists) w (over (hang_writes entry n p lists tops) w)
