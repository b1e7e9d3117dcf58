-- A try on its way to its end, and the tries of a trial.
use Rattle.std.proofs.Common.{◌≡◌, ℕ, suc, ◌+◌, ◌<◌, Some, None, sym, ap, ◌∙◌, subst, arith}
use Rattle.std.specs.Prelude.{slice_get, unwrap_or, option_map}
use Rattle.std.proofs.lemmas.Option.{slice_get-map}
use Rattle.machine_code.specs.declared.instr.Instr.TheVariants as instr
use Rattle.machine_code.specs.Instructions.{Try}
use Rattle.machine_code.specs.Reading.{op_of}
use Rattle.machine_code.specs.Compiling.{Tables, compiled, clause_at}
use Rattle.machine_code.specs.Sound.{IsSound}
use Rattle.steady_tries.proofs.Going.{jump_between}
use Rattle.trial_machine.specs.declared.machine.Machine.{Machine}
use Rattle.trial_machine.specs.declared.step.Step.{Step}
use Rattle.trial_machine.specs.declared.step.Step.TheVariants.{To}
use Rattle.trial_machine.specs.Machines.{Frame, IsOnWay, IsResting, KeepsMachine, IsFrameOf, course}
use Rattle.trial_machine.specs.declared.run.Outcome.{Outcome}
use Rattle.trial_machine.specs.declared.run.Outcome.TheVariants as outcome
use Rattle.trial_machine.specs.Running.{IsAt, IsReady, Steps, EndsTry, CameTo}
use Rattle.trial_machine.proofs.Stepping.{in_frame}

-- one instruction further
pub further : (t : Tables) (old now new : Machine) (from at to : ℕ) → Steps t now new at (To to)
    → ((f : Frame) → f.ops ≡ (compiled t).ops → IsOnWay f from old → IsOnWay f at now)
    → (f : Frame) → f.ops ≡ (compiled t).ops → IsOnWay f from old → IsOnWay f to new
further t old now new from at to steps ways f same way = (steps f same (ways f same way)).1

pub is_further : (t : Tables) (now new : Machine) (at to : ℕ) → Steps t now new at (To to) → IsAt t at now → IsAt t to new
is_further t now new at to steps a = record { frame = a.frame; same = a.same; on_way = (steps a.frame a.same a.on_way).1 }

pub is_later : (t : Tables) (now new : Machine) (at to : ℕ) → Steps t now new at (To to) → IsAt t at now → at < to
is_later t now new at to steps a = (steps a.frame a.same a.on_way).0

pub keeps_twice : (a b c : Machine) → KeepsMachine a b → KeepsMachine b c → KeepsMachine a c
keeps_twice a b c h k = record { args = k.args ∙ h.args; count = k.count ∙ h.count; next = k.next ∙ h.next }

-- a trial at rest is ready elsewhere
pub ready_at : (t : Tables) (procedure at to : ℕ) (m m' : Machine) → IsReady t procedure at m
    → ((f : Frame) → IsFrameOf t procedure f → IsResting f at m → IsResting f to m') → IsReady t procedure to m'
ready_at t procedure at to m m' r go = record { frame = r.frame; of_code = r.of_code; rests = go r.frame r.of_code r.rests }

-- a jump between two tries
pub rest_jumps : (t : Tables) → IsSound t → (at to : ℕ) (m : Machine) → slice_get t.instrs at ≡ Some (instr.Jump to) → (procedure : ℕ)
    (f : Frame)
    → IsFrameOf t procedure f → IsResting f at m → IsResting f to m
rest_jumps t s at to m e procedure f code r = record {
  on_course = r.on_course;
  between = jump_between (course f m) m.trail.kept at _ r.on_course r.between to (in_frame t s f at (instr.Jump to) code.ops e);
}

-- a step is what it is
pub steps_as : (t : Tables) (old new : Machine) (at : ℕ) (s r : Step) → s ≡ r → Steps t old new at s → Steps t old new at r
steps_as t old new at s r e h = subst (Steps t old new at) e h

-- a try begins between two tries
module _ (t : Tables) (s : IsSound t) (m m' : Machine) (at inner clause next vars procedure : ℕ)
    (e : slice_get t.instrs at ≡ Some (instr.Try clause next)) (more : inner ≡ at + 1)
    (known : vars ≡ unwrap_or (option_map (λ c. c.vars) (clause_at t.procedures procedure clause)) 0)
    (begins : (f : Frame) (a : ℕ) → IsResting f a m → slice_get f.ops a ≡ Some (Try clause next) → f.vars clause ≡ vars → IsOnWay f
    (suc a) m')
  where
    pub tries : (f : Frame) → IsFrameOf t procedure f → IsResting f at m → IsOnWay f inner m'
    tries f code r =
        let one : suc at ≡ inner = omega (arith, more) in
        subst (λ n. IsOnWay f n m') one
        (begins f at r (in_frame t s f at (instr.Try clause next) code.ops e) (code.vars clause ∙ sym known))

    pub tries_at : IsReady t procedure at m → IsAt t inner m'
    tries_at r = record { frame = r.frame; same = r.of_code.ops; on_way = tries r.frame r.of_code r.rests }

    module _ (m2 : Machine) (same_next : m'.desk.next ≡ next) where
      -- and is left
      pub leaves_try : EndsTry t m' m2 inner outcome.Leaves → (f : Frame) → IsFrameOf t procedure f → IsResting f at m → IsResting f next m2
      leaves_try ends f code r = subst (λ n. IsResting f n m2) same_next (ends f code.ops (tries f code r))

    -- or ends the trial
    pub commits_try : (m2 : Machine) → EndsTry t m' m2 inner outcome.Commits → (f : Frame) → IsFrameOf t procedure f → IsResting f at m
        → CameTo m2 f outcome.Commits
    commits_try m2 ends f code r = ends f code.ops (tries f code r)

    pub nowhere_try : (m2 : Machine) → EndsTry t m' m2 inner outcome.Nowhere → (f : Frame) → IsFrameOf t procedure f → IsResting f at m
        → CameTo m2 f outcome.Nowhere
    nowhere_try m2 ends f code r = ends f code.ops (tries f code r)

pub ends_as : (t : Tables) (old new : Machine) (at : ℕ) (s r : Outcome) → s ≡ r → EndsTry t old new at s → EndsTry t old new at r
ends_as t old new at s r e h = subst (EndsTry t old new at) e h

-- past the code no instruction stands
pub none_there : (t : Tables) (f : Frame) (at : ℕ) → f.ops ≡ (compiled t).ops → slice_get t.instrs at ≡ None → slice_get f.ops at ≡ None
none_there t f at same e =
    ap (λ ops. slice_get ops at) same ∙ (slice_get-map (op_of t.smalls t.steps) t.instrs at ∙ ap (option_map (op_of t.smalls t.steps)) e)
