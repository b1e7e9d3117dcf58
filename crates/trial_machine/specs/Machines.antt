-- What a machine has at hand, and what its steps leave.
use Rattle.std.specs.Prelude.{◌≡◌, ℕ, suc, Bool, List, length, Some, slice_get, unwrap_or, option_map}
use Rattle.word_states.specs.Words.{IsIn}
use Rattle.machine_code.specs.Instructions.{Op}
use Rattle.machine_code.specs.Compiling.{Tables, compiled, clause_at}
use Rattle.machine_code.specs.Fresh.{no_tops}
use Rattle.trial_laws.specs.AtHand.{AtHand}
use Rattle.trial_laws.specs.Laws.{AreNoted, left}
use Rattle.safe_tries.specs.Safe.{IsSafe, KeptOpen}
use Rattle.safe_tries.specs.Puts.{AreArguments}
use Rattle.steady_tries.specs.Steady.{Course, IsCourse, Wherever, IsSteady, IsBetween}
use Rattle.try_desk.specs.Desks.{hand}
use Rattle.trial_machine.specs.declared.machine.Machine.{Machine}
use Rattle.trial_machine.specs.declared.machine.Opened.{Opened}
use Rattle.trial_machine.specs.declared.machine.Opened.TheVariants.{Taken, Other, Nowhere}
use Rattle.trial_machine.specs.declared.machine.Turn.{Turn}
use Rattle.trial_machine.specs.declared.machine.Turn.TheVariants.{On, Left}

-- what is at hand with a machine
abbrev pub at_machine : Machine → AtHand
at_machine m = hand m.desk m.trail.binds m.trail.reads.items m.waits

-- by their numbers the words of arguments, and that of the empty list at other numbers
abbrev pub words_of : List ℕ → ℕ → ℕ
words_of args = λ i. unwrap_or (slice_get args i) 6

-- What a trial follows: code, from a position on, for the process at an address; and by its number how many variables a clause has.
pub record Frame : Type 0 where
  pub ops : List Op
  pub start : ℕ
  pub process : ℕ
  pub vars : ℕ → ℕ

-- with the arguments that the machine has loaded
abbrev pub course : Frame → Machine → Course
course f m =
    record { ops = f.ops; start = f.start; process = f.process; words = words_of m.desk.slots.args; vars = f.vars }

-- A try is on its way in the machine, at a position; and the machine knows how many variables the clause has.
pub record IsOnWay (f : Frame) (at : ℕ) (m : Machine) : Type 0 where
  pub on_course : IsCourse (course f m) m.trail.kept
  pub steady : IsSteady (course f m) m.trail.kept at m.base (at_machine m)
  pub known : f.vars m.desk.clause ≡ m.vars

-- or the machine is between two tries
pub record IsResting (f : Frame) (at : ℕ) (m : Machine) : Type 0 where
  pub on_course : IsCourse (course f m) m.trail.kept
  pub between : IsBetween (course f m) m.trail.kept at (at_machine m)

-- a try is on its way, and an instruction is met
abbrev pub Meets : Machine → Op → Type 0
Meets m o = (f : Frame) × (at : ℕ) × IsOnWay f at m × (slice_get f.ops at ≡ Some o)

-- an instruction led from its position to another one
abbrev pub StepsTo : Machine → Machine → Op → (ℕ → ℕ) → Type 0
StepsTo old new o to = (f : Frame) (at : ℕ) → IsOnWay f at old → slice_get f.ops at ≡ Some o → IsOnWay f (to at) new

-- to the next one
abbrev pub StepsOn : Machine → Machine → Op → Type 0
StepsOn old new o = StepsTo old new o suc

-- the try was left, and the trial goes on where its begin said
abbrev pub Leaves : Machine → Machine → Op → Type 0
Leaves old new o = (f : Frame) (at : ℕ) → IsOnWay f at old → slice_get f.ops at ≡ Some o → IsResting f old.desk.next new

-- one or the other
abbrev pub Turns : Machine → Machine → Op → Turn → Type 0
Turns old new o On = StepsOn old new o
Turns old new o Left = Leaves old new o

-- in no store in which the process has a goal words have what was kept
abbrev pub NoStore : Frame → Machine → Type 0
NoStore f m = Wherever (course f m) m.trail.kept (λ w vs bound g. ⊥)

-- what opens a value leads on, or to where the term is put; or there is no store
abbrev pub Opens : Machine → Machine → Op → ℕ → Opened → Type 0
Opens old new o put Taken = StepsOn old new o
Opens old new o put Other = StepsTo old new o (λ at. put)
Opens old new o put Nowhere = (f : Frame) (at : ℕ) → IsOnWay f at old → slice_get f.ops at ≡ Some o → NoStore f new

-- what stays at each step, also where memory runs out: the arguments, the number of slots, and where the trial goes on
pub record KeepsMachine (old new : Machine) : Type 0 where
  pub args : new.desk.slots.args ≡ old.desk.slots.args
  pub count : length new.desk.slots.slots ≡ length old.desk.slots.slots
  pub next : new.desk.next ≡ old.desk.next

-- A try was left: nothing is at hand but the arguments and the places that were read, those of this try among them.
pub record HasLeft (old new : Machine) (behind : Bool) : Type 0 where
  pub hand : at_machine new ≡ left (at_machine old) behind new.waits (words_of old.desk.slots.args)
  pub noted : AreNoted old.waits old.trail.reads.items new.waits
  pub kept : new.trail.kept ≡ old.trail.kept

-- and what is at hand is safe, where the places noted were seen unbound
abbrev pub LeftSafe : Machine → Machine → Type 0
LeftSafe old new = AreArguments old.trail.kept (words_of old.desk.slots.args)
    → ((a : ℕ) → IsIn a new.waits → KeptOpen old.trail.kept a) → IsSafe new.trail.kept (at_machine new) no_tops 0

-- the code of a procedure, with the number of variables of each of its clauses
pub record IsFrameOf (t : Tables) (procedure : ℕ) (f : Frame) : Type 0 where
  pub ops : f.ops ≡ (compiled t).ops
  pub vars : (k : ℕ) → f.vars k ≡ unwrap_or (option_map (λ c. c.vars) (clause_at t.procedures procedure k)) 0
