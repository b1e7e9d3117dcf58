-- How a process is decided: what a trial answers, for the program of which the code is.
use Rattle.std.specs.Prelude.{◌≡◌, ℕ, Bool, true, false, List, Some}
use Rattle.fcp_model.specs.Programs.{Program}
use Rattle.heap_words.specs.Trails.{WordList, word_at}
use Rattle.word_states.specs.Trials.{TriedCommit, TriedWait, TriedFail, IsReadCommit, IsReadWait}
use Rattle.machine_code.specs.Compiling.{Tables, compiled}
use Rattle.machine_code.specs.Correct.{MeansSource, NamesSource}
use Rattle.trial_laws.specs.Endings.{of_store, settled}
use Rattle.trial_laws.specs.Leading.{IsTermWord}
use Rattle.steady_tries.specs.Ends.{IsOfProgram}
use Rattle.trial_machine.specs.declared.machine.Machine.{Machine}
use Rattle.trial_machine.specs.declared.run.Outcome.{Outcome}
use Rattle.trial_machine.specs.declared.decide.Trial.{Trial}
use Rattle.trial_machine.specs.declared.decide.Trial.TheVariants.{Commit, Wait, Fails}
use Rattle.trial_machine.specs.Machines.{Frame, course}
use Rattle.trial_machine.specs.Running.{CameTo}

-- What a trial hands over: the words that it read, the bindings of the store's places, the clause with its pieces, and the places that
-- were read unbound.
pub record HandedOver : Type 0 where
  pub reads : WordList
  pub binds : WordList
  pub clause : ℕ
  pub pieces : List (List ℕ)
  pub places : List ℕ

-- what a machine hands over with these bindings
abbrev pub handing : WordList → Machine → HandedOver
handing binds m = record { reads = m.trail.kept; binds = binds; clause = m.desk.clause; pieces = m.desk.pieces; places = m.waits }

-- with those that the trail has at the end of a try
abbrev pub at_end : Machine → HandedOver
at_end m = handing (of_store m.trail.binds) m

-- with those that were put together for the caller
abbrev pub handed_over : Machine → HandedOver
handed_over m = handing m.binds.items m

-- what is decided for the process at p: the clause that commits with its bindings and pieces, the places for which it waits, or failure
abbrev pub Says : HandedOver → ℕ → Trial → Program → Type 0
Says h p Commit m = TriedCommit m h.reads p h.clause h.binds h.pieces
Says h p Wait m = TriedWait m h.reads p h.places
Says h p Fails m = TriedFail m h.reads p

-- and whatever the program is, that is sound by what was read
abbrev pub IsHandedOver : HandedOver → Trial → Type 0
IsHandedOver h Commit = IsReadCommit h.reads h.binds h.pieces
IsHandedOver h Wait = IsReadWait h.reads h.places
IsHandedOver h Fails = Unit {0}

-- The code is that of a program.
pub record IsCodeOf (t : Tables) (m : Program) : Type 0 where
  pub means : MeansSource m (compiled t)
  pub names : NamesSource m (compiled t)

-- The process at p is decided by what is handed over, for each program of which the code is.
pub record IsDecided (t : Tables) (h : HandedOver) (p : ℕ) (d : Trial) : Type 0 where
  pub says : (m : Program) → IsCodeOf t m → Says h p d m
  pub handed : IsHandedOver h d

-- so by what a machine hands over
abbrev pub Decides : Tables → Machine → ℕ → Trial → Type 0
Decides t new p d = IsDecided t (handed_over new) p d

-- at the end of a trial whatever the program is, as for the built-in processes
pub record DecidesAll (new : Machine) (p : ℕ) (d : Trial) : Type 0 where
  pub says : (m : Program) → Says (at_end new) p d m
  pub handed : IsHandedOver (at_end new) d

-- At the end of a trial along a frame it is decided, for each program of which the frame's code is.
pub record Concludes (f : Frame) (old new : Machine) (d : Trial) : Type 0 where
  pub says : (m : Program) → IsOfProgram (course f old) old.trail.kept m → Says (at_end new) f.process d m
  pub handed : IsHandedOver (at_end new) d

-- so it is wherever a trial came to this end
abbrev pub ConcludesAll : Machine → Machine → Outcome → Trial → Type 0
ConcludesAll old new o d = (f : Frame) → CameTo old f o → Concludes f old new d

-- Each word to which a place is bound may be a term's, and own places took what they are bound to; or one of them may not.
abbrev pub Settles : Machine → Machine → Bool → Type 0
Settles old new true = ((a x : ℕ) → word_at old.trail.binds a ≡ Some x → IsTermWord x)
    × (new.desk.pieces ≡ settled old.trail.binds 4000000000 old.desk.pieces)
Settles old new false = (a x : ℕ) × (word_at old.trail.binds a ≡ Some x) × (IsTermWord x → ⊥)
