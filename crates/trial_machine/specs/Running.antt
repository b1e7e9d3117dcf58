-- How a try and a trial come to an end in a machine.
use Rattle.std.specs.Prelude.{◌≡◌, ℕ, suc, ◌<◌, Some, None, slice_get}
use Rattle.machine_code.specs.Instructions.{Unify, Commit}
use Rattle.machine_code.specs.Compiling.{Tables, compiled}
use Rattle.trial_machine.specs.declared.machine.Machine.{Machine}
use Rattle.trial_machine.specs.declared.machine.Opened.{Opened}
use Rattle.trial_machine.specs.declared.machine.Opened.TheVariants as opened
use Rattle.trial_machine.specs.declared.machine.Turn.{Turn}
use Rattle.trial_machine.specs.declared.machine.Turn.TheVariants as turn
use Rattle.trial_machine.specs.declared.step.Step.{Step}
use Rattle.trial_machine.specs.declared.step.Step.TheVariants.{To, Left, Commits, Nowhere}
use Rattle.trial_machine.specs.declared.run.Outcome.{Outcome}
use Rattle.trial_machine.specs.declared.run.Outcome.TheVariants as outcome
use Rattle.trial_machine.specs.Machines.{Frame, IsOnWay, IsResting, NoStore, IsFrameOf}

-- where a value that is to be opened leads
abbrev pub step_opened : Opened → ℕ → ℕ → Step
step_opened opened.Taken next put = To next
step_opened opened.Other next put = To put
step_opened opened.Nowhere next put = Nowhere

-- where a step leads that may leave the try
abbrev pub step_turned : Turn → ℕ → Step
step_turned turn.On next = To next
step_turned turn.Left next = Left

-- a try is on its way at a position of this code
pub record IsAt (t : Tables) (at : ℕ) (m : Machine) : Type 0 where
  pub frame : Frame
  pub same : frame.ops ≡ (compiled t).ops
  pub on_way : IsOnWay frame at m

-- the instruction at a position led to a later one, the try was left or commits, or there is no store
abbrev pub Stepped : Machine → Machine → Frame → ℕ → Step → Type 0
Stepped old new f at (To to) = (at < to) × IsOnWay f to new
Stepped old new f at Left = IsResting f old.desk.next new
Stepped old new f at Commits = IsOnWay f at new × (slice_get f.ops at ≡ Some Commit)
Stepped old new f at Nowhere = NoStore f new

-- so wherever a try was on its way in this code
abbrev pub Steps : Tables → Machine → Machine → ℕ → Step → Type 0
Steps t old new at s = (f : Frame) → f.ops ≡ (compiled t).ops → IsOnWay f at old → Stepped old new f at s

-- the try was left, it commits, or there is no store
abbrev pub Ended : Machine → Machine → Frame → Outcome → Type 0
Ended old new f outcome.Leaves = IsResting f old.desk.next new
Ended old new f outcome.Commits = (at : ℕ) × IsOnWay f at new × (slice_get f.ops at ≡ Some Commit)
Ended old new f outcome.Nowhere = NoStore f new

-- so wherever a try was on its way
abbrev pub EndsTry : Tables → Machine → Machine → ℕ → Outcome → Type 0
EndsTry t old new at o = (f : Frame) → f.ops ≡ (compiled t).ops → IsOnWay f at old → Ended old new f o

-- before a trial's first try nothing is at hand but the arguments
pub record IsReady (t : Tables) (procedure at : ℕ) (m : Machine) : Type 0 where
  pub frame : Frame
  pub of_code : IsFrameOf t procedure frame
  pub rests : IsResting frame at m

-- All tries were left, a try commits, or there is no store.
abbrev pub CameTo : Machine → Frame → Outcome → Type 0
CameTo new f outcome.Leaves = (at : ℕ) × IsResting f at new × (slice_get f.ops at ≡ None)
CameTo new f outcome.Commits = (at : ℕ) × IsOnWay f at new × (slice_get f.ops at ≡ Some Commit)
CameTo new f outcome.Nowhere = NoStore f new

-- so wherever a trial began
abbrev pub EndsTrial : Tables → ℕ → Machine → Machine → ℕ → Outcome → Type 0
EndsTrial t procedure old new at o = (f : Frame) → IsFrameOf t procedure f → IsResting f at old → CameTo new f o

-- A try is on its way where the first two slots are unified, and then it commits; where it is left, the trial ends.
pub record IsLast (f : Frame) (at : ℕ) (m : Machine) : Type 0 where
  pub on_way : IsOnWay f at m
  pub unifies : slice_get f.ops at ≡ Some (Unify 0 1)
  pub commits : slice_get f.ops (suc at) ≡ Some Commit
  pub ends : slice_get f.ops m.desk.next ≡ None
