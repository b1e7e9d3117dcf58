-- What one instruction of sound code leaves.
use Rattle.std.proofs.Common.{◌≡◌, ℕ, suc, ◌+◌, ◌<◌, Some, ap, ◌∙◌, subst, arith}
use Rattle.std.specs.Prelude.{slice_get}
use Rattle.machine_code.specs.declared.instr.Instr.{Instr}
use Rattle.machine_code.specs.Instructions.{Jump, Commit}
use Rattle.machine_code.specs.Reading.{op_of}
use Rattle.machine_code.specs.Compiling.{Tables, compiled}
use Rattle.machine_code.specs.Sound.{IsSound}
use Rattle.machine_code.proofs.SoundCode.{op_at}
use Rattle.steady_tries.proofs.Going.{jump_steady}
use Rattle.trial_machine.specs.declared.machine.Machine.{Machine}
use Rattle.trial_machine.specs.declared.machine.Opened.{Opened}
use Rattle.trial_machine.specs.declared.machine.Opened.TheVariants as opened
use Rattle.trial_machine.specs.declared.machine.Turn.{Turn}
use Rattle.trial_machine.specs.declared.machine.Turn.TheVariants as turn
use Rattle.trial_machine.specs.declared.step.Step.TheVariants.{To, Commits}
use Rattle.trial_machine.specs.Machines.{Frame, IsOnWay, StepsOn, Meets, Turns, Opens, course}
use Rattle.trial_machine.specs.Running.{IsAt, Steps, step_opened, step_turned}

-- the instruction of the frame's code
pub in_frame : (t : Tables) → IsSound t → (f : Frame) (at : ℕ) (i : Instr) → f.ops ≡ (compiled t).ops → slice_get t.instrs at ≡ Some i
    → slice_get f.ops at ≡ Some (op_of t.smalls t.steps i)
in_frame t s f at i same e = ap (λ ops. slice_get ops at) same ∙ op_at t s at i e

pub meets : (t : Tables) → IsSound t → (m : Machine) (at : ℕ) (i : Instr) → IsAt t at m → slice_get t.instrs at ≡ Some i
    → Meets m (op_of t.smalls t.steps i)
meets t s m at i a e = (a.frame, at, a.on_way, in_frame t s a.frame at i a.same e)

-- it led to the next one
pub steps_next : (t : Tables) → IsSound t → (old new : Machine) (at next : ℕ) (i : Instr) → slice_get t.instrs at ≡ Some i → next ≡ at + 1
    → StepsOn old new (op_of t.smalls t.steps i) → Steps t old new at (To next)
steps_next t s old new at next i e more steps f same way =
    let one : suc at ≡ next = omega (arith, more) in
    (omega (arith, more), subst (λ n. IsOnWay f n new) one (steps f at way (in_frame t s f at i same e)))

-- it led on or was left
pub steps_turned : (t : Tables) → IsSound t → (old new : Machine) (at next : ℕ) (i : Instr) (x : Turn) → slice_get t.instrs at ≡ Some i
    → next ≡ at + 1 → Turns old new (op_of t.smalls t.steps i) x → Steps t old new at (step_turned x next)
steps_turned t s old new at next i turn.On e more h = steps_next t s old new at next i e more h
steps_turned t s old new at next i turn.Left e more h = λ f same way. h f at way (in_frame t s f at i same e)

-- it opened a value, or led to where the term is put
pub steps_opened : (t : Tables) → IsSound t → (old new : Machine) (at next put : ℕ) (i : Instr)
    (x : Opened) → slice_get t.instrs at ≡ Some i
    → next ≡ at + 1 → at < put → Opens old new (op_of t.smalls t.steps i) put x → Steps t old new at (step_opened x next put)
steps_opened t s old new at next put i opened.Taken e more behind h = steps_next t s old new at next i e more h
steps_opened t s old new at next put i opened.Other e more behind h = λ f same way. (behind, h f at way (in_frame t s f at i same e))
steps_opened t s old new at next put i opened.Nowhere e more behind h = λ f same way. h f at way (in_frame t s f at i same e)

-- it jumps
pub steps_jump : (t : Tables) → IsSound t → (m : Machine) (at to : ℕ) (i : Instr) → slice_get t.instrs at ≡ Some i
    → op_of t.smalls t.steps i ≡ Jump to → at < to → Steps t m m at (To to)
steps_jump t s m at to i e is behind f same way = (
  behind,
  record {
    on_course = way.on_course;
    steady = jump_steady (course f m) m.trail.kept at m.base _ way.on_course way.steady to (in_frame t s f at i same e ∙ ap Some is);
    known = way.known;
  },
)

-- it commits
pub steps_commit : (t : Tables) → IsSound t → (m : Machine) (at : ℕ) (i : Instr) → slice_get t.instrs at ≡ Some i
    → op_of t.smalls t.steps i ≡ Commit → Steps t m m at Commits
steps_commit t s m at i e is f same way = (way, in_frame t s f at i same e ∙ ap Some is)
