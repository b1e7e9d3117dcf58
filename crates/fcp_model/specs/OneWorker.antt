-- The run of one worker: the rules by which it goes on, one at a time.
use Rattle.std.specs.Prelude.{◌≡◌, ℕ, zero, suc, ◌+◌, Bool, true, false, ◌||◌, nat_eq, nat_lt, nat_le, List, [], ◌∷◌, ◌++◌, length, map, filter, Option, Some, None, option_map}
use Rattle.fcp_model.specs.declared.run.Limits.{Limits}
use Rattle.fcp_model.specs.declared.run.Act.{Act}
use Rattle.fcp_model.specs.declared.run.Act.TheVariants.{Snapshot, Suspend, Resume, Abort}
use Rattle.fcp_model.specs.declared.run.Control.{Control}
use Rattle.fcp_model.specs.Programs.{Program}
use Rattle.fcp_model.specs.Decisions.{decide}
use Rattle.fcp_model.specs.States.{Process, State, Mode, is_open, is_held, is_failed, is_aborted, is_suspended, is_ready}
use Rattle.fcp_model.specs.Events.{Event, event_of, control_event, made_ready}
use Rattle.fcp_model.specs.Bounds.{act_entry, is_commit, one}

-- Where a run of one worker stands: the state, the queue of ready processes, how many of them were put back since the
-- last move, what was used of the limits, and the controls that are left.
pub record Schedule : Type 0 where
  pub state : State
  pub queue : List Process
  pub passed : ℕ
  pub commits : ℕ
  pub moves : ℕ
  pub cells : ℕ
  pub controls : List Control

-- what the rules say: the run ends, the front of the queue goes to the back, or an entry is made
pub data Ruling : Type 0 where
  ends : Ruling
  passes : Schedule → Ruling
  makes : Event → Schedule → Ruling

-- no entry is legal any more
abbrev pub is_over : Mode → Bool
is_over is_failed = true
is_over is_aborted = true
is_over _ = false

-- the next control is to be made at so many moves
abbrev pub is_due : List Control → ℕ → Bool
is_due [] moves = false
is_due (c ∷ cs) moves = nat_eq c.after moves

-- the mode behind a control
abbrev pub mode_after : Act → Mode → Mode
mode_after Snapshot mode = mode
mode_after Suspend mode = is_held
mode_after Resume mode = is_open
mode_after Abort mode = is_aborted

-- the next control is made
abbrev pub control_ruling : Schedule → List Control → Ruling
control_ruling at [] = ends
control_ruling at (c ∷ cs) =
    let ev = control_event at.state (act_entry c.act) (mode_after c.act at.state.mode) in
    makes ev (record at { state = ev.after; controls = cs })

-- the front's entry is made: its children, in body order, and then the woken processes, by name, go to the back, Ready
abbrev pub after_event : Schedule → List Process → Event → Schedule
after_event at rest ev = record at {
  state = ev.after;
  queue = rest ++ ev.children ++ map made_ready ev.woken;
  passed = 0;
  commits = at.commits + one (is_commit ev.entry);
  moves = at.moves + 1;
  cells = at.cells + ev.cells;
}

-- the front goes to the back where its entry has more cells than are left
abbrev pub front_ruling : Limits → Schedule → Process → List Process → Event → Ruling
front_ruling limits at p rest ev = elim (nat_lt limits.cells (at.cells + ev.cells)) [
  | true ↦ passes (record at { queue = rest ++ p ∷ []; passed = at.passed + 1 })
  | _ ↦ makes ev (after_event at rest ev)
]

-- what the rules on the queue and the limits say, where no control is due and the run is open
abbrev pub queue_ruling : ℕ → Program → Limits → Schedule → List Process → Option Ruling
queue_ruling n m limits at [] = Some ends
queue_ruling n m limits at (p ∷ rest) = elim (nat_le limits.commits at.commits || nat_le limits.moves at.moves || nat_le (length at.queue) at.passed) [
  | true ↦ Some ends
  | _ ↦ option_map (λ d. front_ruling limits at p rest (event_of m at.state p d)) (decide n m at.state.bound p.goal)
]

-- The rules, of which the first that applies is taken: after a fail or an abort the run ends; a control whose number of
-- moves was made is made; a suspended run ends; with an empty queue the run ends, and so where the commits or the moves
-- are at their limit, or every process of the queue was put back since the last move; else the front's entry is made,
-- or the front goes to the back. None where n steps are too few.
abbrev pub ruling : ℕ → Program → Limits → Schedule → Option Ruling
ruling n m limits at = elim (is_over at.state.mode) [
  | true ↦ Some ends
  | _ ↦ elim (is_due at.controls at.moves) [
    | true ↦ Some (control_ruling at at.controls)
    | _ ↦ elim (is_suspended at.state.mode) [
      | true ↦ Some ends
      | _ ↦ queue_ruling n m limits at at.queue
    ]
  ]
]

-- a ruling, and then what comes behind it
abbrev pub followed : (Schedule → Option (List Event × Schedule)) → Schedule → Option Ruling → Option (List Event × Schedule)
followed go at None = None
followed go at (Some ends) = Some ([], at)
followed go at (Some (passes to)) = go to
followed go at (Some (makes ev to)) = option_map (λ r. (ev ∷ r.0, r.1)) (go to)

-- so many rulings from a schedule: the events, and where the run then stands
abbrev pub rulings : ℕ → ℕ → Program → Limits → Schedule → Option (List Event × Schedule)
rulings zero n m limits at = Some ([], at)
rulings (suc i) n m limits at = followed (rulings i n m limits) at (ruling n m limits at)

-- where a run begins: the queue is at first the goal's processes in order
abbrev pub begin : State → List Control → Schedule
begin s controls = record {
  state = s;
  queue = filter (λ p. is_ready p.status) s.processes;
  passed = 0;
  commits = 0;
  moves = 0;
  cells = 0;
  controls = controls;
}

-- some number of rulings leads from one schedule to another, with these events
pub record Leads (m : Program) (limits : Limits) (from : Schedule) (evs : List Event) (to : Schedule) : Type 0 where
  pub count : ℕ
  pub steps : ℕ
  pub followed : rulings count steps m limits from ≡ Some (evs, to)

-- the run of one worker from a state: rulings until one says that it ends
pub record IsOneWorkerRun (m : Program) (limits : Limits) (s : State) (controls : List Control) (evs : List Event) (last : Schedule) : Type 0 where
  pub leads : Leads m limits (begin s controls) evs last
  pub steps : ℕ
  pub ended : ruling steps m limits last ≡ Some ends
