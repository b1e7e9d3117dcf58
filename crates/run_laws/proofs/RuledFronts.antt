-- The ruling, by the first rule that applies.
use Rattle.std.proofs.Common.{◌≡◌, ℕ, ◌+◌, ◌<◌, ◌≤◌, Bool, true, false, List, [], ◌∷◌, ◌++◌, length, Option, Some, refl, ap, ◌∙◌}
use Rattle.std.specs.Prelude.{option_map, nat_le, ◌||◌}
use Rattle.std.proofs.lemmas.Bool.{lt-ltb, le-ltb, le-leb, lt-leb, eq-eqb, or_from, or_left, or_right}
use Rattle.fcp_model.specs.declared.run.Limits.{Limits}
use Rattle.fcp_model.specs.declared.run.Control.{Control}
use Rattle.fcp_model.specs.Programs.{Program}
use Rattle.fcp_model.specs.States.{Process, is_suspended}
use Rattle.fcp_model.specs.Decisions.{Decision, decide}
use Rattle.fcp_model.specs.Events.{Event, event_of}
use Rattle.fcp_model.specs.OneWorker.{Schedule, Ruling, ends, passes, makes, is_over, is_due, control_ruling, after_event, front_ruling, queue_ruling, ruling}
use Rattle.fcp_laws.proofs.Rulings.{IsFront as IsRuledFront, event_of_control, after_control}

module _ (n : ℕ) (m : Program) (limits : Limits) (at : Schedule) where
  -- whether the run is over, whether a control is due, and whether the run is suspended
  abbrev by_tests : Bool → Bool → Bool → List Control → Option Ruling
  by_tests over due held cs = elim over [
    | true ↦ Some ends
    | _ ↦ elim due [
      | true ↦ Some (control_ruling at cs)
      | _ ↦ elim held [
        | true ↦ Some ends
        | _ ↦ queue_ruling n m limits at at.queue
      ]
    ]
  ]

  abbrev due : Bool
  due = is_due at.controls at.moves

  abbrev held : Bool
  held = is_suspended at.state.mode

  -- a run that is over ends
  pub over_ends : is_over at.state.mode ≡ true → ruling n m limits at ≡ Some ends
  over_ends h = ap (λ (x : Bool). by_tests x due held at.controls) h

  -- a control that is due is made
  pub control_ruled : is_over at.state.mode ≡ false → (d : Control) (ds : List Control) → at.controls ≡ d ∷ ds → d.after ≡ at.moves
      → ruling n m limits at ≡ Some (makes (event_of_control at d) (after_control at d ds))
  control_ruled going d ds is now =
      ap (λ (x : Bool). by_tests x due held at.controls) going
      ∙ (ap (λ (cs : List Control). by_tests false (is_due cs at.moves) held cs) is
      ∙ ap (λ (x : Bool). by_tests false x held (d ∷ ds)) (eq-eqb d.after at.moves now))

  module _ (not_due : is_due at.controls at.moves ≡ false) where
    -- a suspended run ends
    pub held_ends : is_suspended at.state.mode ≡ true → ruling n m limits at ≡ Some ends
    held_ends h =
        ap (λ (x : Bool). by_tests (is_over at.state.mode) x held at.controls) not_due
        ∙ (ap (λ (x : Bool). by_tests (is_over at.state.mode) false x at.controls) h ∙ go (is_over at.state.mode))
      where
        go : (over : Bool) → by_tests over false true at.controls ≡ Some ends
        go true = refl
        go false = refl

    -- and so does each run whose queue says so
    pub queue_ends : queue_ruling n m limits at at.queue ≡ Some ends → ruling n m limits at ≡ Some ends
    queue_ends h =
        ap (λ (x : Bool). by_tests (is_over at.state.mode) x held at.controls) not_due
        ∙ go (is_over at.state.mode) (is_suspended at.state.mode)
      where
        go : (over suspended : Bool) → by_tests over false suspended at.controls ≡ Some ends
        go true suspended = refl
        go false true = refl
        go false false = h

  -- the front's entry is looked at
  pub front_ruled : (p : Process) (rest : List Process) (d : Decision) → IsRuledFront n m limits at p rest d
      → ruling n m limits at ≡ Some (front_ruling limits at p rest (event_of m at.state p d))
  front_ruled p rest d f =
      ap (λ mode. by_tests (is_over mode) due (is_suspended mode) at.controls) f.is_running
      ∙ (ap (λ (x : Bool). by_tests false x false at.controls) f.not_due
      ∙ (ap (queue_ruling n m limits at) f.queued
      ∙ (ap (λ (x : Bool). elim x [
        | true ↦ Some ends
        | _ ↦ option_map
            (λ (y : Decision). front_ruling limits at p rest (event_of m at.state p y))
            (decide n m at.state.bound p.goal)
      ]) has_room
      ∙ ap (option_map (λ (y : Decision). front_ruling limits at p rest (event_of m at.state p y))) f.decided)))
    where
      has_room : (nat_le limits.commits at.commits || nat_le limits.moves at.moves || nat_le (length at.queue) at.passed) ≡ false
      has_room =
          or_from _ _ (or_from _ _ (lt-leb limits.commits at.commits f.commits) (lt-leb limits.moves at.moves f.moves))
          (lt-leb (length at.queue) at.passed f.passed)

-- no commits or moves are left, or each process of the queue went to the back
pub no_commits : (limits : Limits) (at : Schedule) → limits.commits ≤ at.commits
    → (nat_le limits.commits at.commits || nat_le limits.moves at.moves || nat_le (length at.queue) at.passed) ≡ true
no_commits limits at h = or_left _ _ (or_left _ _ (le-leb limits.commits at.commits h))

pub no_moves : (limits : Limits) (at : Schedule) → limits.moves ≤ at.moves
    → (nat_le limits.commits at.commits || nat_le limits.moves at.moves || nat_le (length at.queue) at.passed) ≡ true
no_moves limits at h = or_left _ _ (or_right (nat_le limits.commits at.commits) _ (le-leb limits.moves at.moves h))

pub all_passed : (limits : Limits) (at : Schedule) → length at.queue ≤ at.passed
    → (nat_le limits.commits at.commits || nat_le limits.moves at.moves || nat_le (length at.queue) at.passed) ≡ true
all_passed limits at h =
    or_right (nat_le limits.commits at.commits || nat_le limits.moves at.moves) _ (le-leb (length at.queue) at.passed h)

-- the front goes to the back
pub front_passes : (limits : Limits) (at : Schedule) (p : Process) (rest : List Process) (ev : Event) → limits.cells < at.cells + ev.cells
    → front_ruling limits at p rest ev ≡ passes (record at { queue = rest ++ p ∷ []; passed = at.passed + 1 })
front_passes limits at p rest ev h =
    ap (λ (x : Bool). elim x [
      | true ↦ passes (record at { queue = rest ++ p ∷ []; passed = at.passed + 1 })
      | _ ↦ makes ev
          (after_event at rest ev)
    ]) (lt-ltb limits.cells (at.cells + ev.cells) h)

-- or its entry is made
pub front_makes : (limits : Limits) (at : Schedule) (p : Process) (rest : List Process) (ev : Event) → at.cells + ev.cells ≤ limits.cells
    → front_ruling limits at p rest ev ≡ makes ev (after_event at rest ev)
front_makes limits at p rest ev h =
    ap (λ (x : Bool). elim x [
      | true ↦ passes (record at { queue = rest ++ p ∷ []; passed = at.passed + 1 })
      | _ ↦ makes ev
          (after_event at rest ev)
    ]) (le-ltb limits.cells (at.cells + ev.cells) h)
