-- A ruling by the rule that was taken.
use Rattle.std.proofs.Common.{◌≡◌, ℕ, ◌+◌, ◌<◌, ◌≤◌, Bool, true, false, List, [], ◌∷◌, ◌++◌, length, Option, Some, None, refl, sym, subst, ltb, leb}
use Rattle.std.specs.Prelude.{option_map, ◌||◌}
use Rattle.std.proofs.lemmas.Bool.{ltb-true, ltb-false, leb-false, eqb-true, true≢false}
use Rattle.fcp_model.specs.declared.run.Limits.{Limits}
use Rattle.fcp_model.specs.declared.run.Control.{Control}
use Rattle.fcp_model.specs.Programs.{Program}
use Rattle.fcp_model.specs.Decisions.{Decision, decide}
use Rattle.fcp_model.specs.States.{Process, Mode, is_open, is_held, is_failed, is_aborted, is_suspended}
use Rattle.fcp_model.specs.Events.{Event, event_of, control_event}
use Rattle.fcp_model.specs.Bounds.{act_entry}
use Rattle.fcp_model.specs.OneWorker.{Schedule, Ruling, ends, passes, makes, is_over, is_due, mode_after, control_ruling, after_event, front_ruling, queue_ruling, ruling}

-- the front of the queue, for which a decision is made
pub record IsFront (n : ℕ) (m : Program) (limits : Limits) (at : Schedule) (p : Process) (rest : List Process) (d : Decision) : Type 0 where
  pub is_running : at.state.mode ≡ is_open
  pub not_due : is_due at.controls at.moves ≡ false
  pub queued : at.queue ≡ p ∷ rest
  pub commits : at.commits < limits.commits
  pub moves : at.moves < limits.moves
  pub passed : at.passed < length at.queue
  pub decided : decide n m at.state.bound p.goal ≡ Some d

-- the event of a control, and the schedule after it
abbrev pub event_of_control : Schedule → Control → Event
event_of_control at c = control_event at.state (act_entry c.act) (mode_after c.act at.state.mode)

abbrev pub after_control : Schedule → Control → List Control → Schedule
after_control at c cs = record at { state = (event_of_control at c).after; controls = cs }

-- a fact of rulings, by the rule
pub record Holds (n : ℕ) (m : Program) (limits : Limits) (at : Schedule) (P : Ruling → Type 0) : Type 0 where
  pub at_end : P ends
  pub at_control : is_over at.state.mode ≡ false → (c : Control) (cs : List Control) → at.controls ≡ c ∷ cs → c.after ≡ at.moves
      → P (makes (event_of_control at c) (after_control at c cs))
  pub at_pass : (p : Process) (rest : List Process) (d : Decision) → IsFront n m limits at p rest d →
      limits.cells < at.cells + (event_of m at.state p d).cells → P (passes (record at { queue = rest ++ p ∷ []; passed = at.passed + 1 }))
  pub at_move : (p : Process) (rest : List Process) (d : Decision) → IsFront n m limits at p rest d →
      at.cells + (event_of m at.state p d).cells ≤ limits.cells
      → P (makes (event_of m at.state p d) (after_event at rest (event_of m at.state p d)))

open_mode : (mode : Mode) → is_over mode ≡ false → is_suspended mode ≡ false → mode ≡ is_open
open_mode is_open e f = refl
open_mode is_held e f = absurd (true≢false f)
open_mode is_failed e f = absurd (true≢false e)
open_mode is_aborted e f = absurd (true≢false e)

neither : (x y : Bool) → (x || y) ≡ false → (x ≡ false) × (y ≡ false)
neither true y e = absurd (true≢false e)
neither false y e = (refl, e)

module _ (n : ℕ) (m : Program) (limits : Limits) (at : Schedule) (P : Ruling → Type 0) (h : Holds n m limits at P) (r : Ruling) where
  it_is : (q : Ruling) → P q → Some q ≡ Some r → P r
  it_is q i e = let same : q ≡ r = cc in subst P same i

  on_control : is_over at.state.mode ≡ false → (cs : List Control) → at.controls ≡ cs → is_due cs at.moves ≡ true
      → Some (control_ruling at cs) ≡ Some r → P r
  on_control o [] i d e = absurd (true≢false (sym d))
  on_control o (c ∷ cs) i d e = it_is _ (h.at_control o c cs i (eqb-true c.after at.moves d)) e

  on_decision : (p : Process) (rest : List Process) (d : Decision) → IsFront n m limits at p rest d → (b : Bool)
      → ltb limits.cells (at.cells + (event_of m at.state p d).cells) ≡ b →
      Some (elim b [
        | true ↦ passes (record at { queue = rest ++ p ∷ []; passed = at.passed + 1 })
        | _ ↦ makes (event_of m at.state p d)
            (after_event at rest (event_of m at.state p d))
      ]) ≡ Some r → P r
  on_decision p rest d f true i e = it_is _ (h.at_pass p rest d f (ltb-true _ _ i)) e
  on_decision p rest d f false i e = it_is _ (h.at_move p rest d f (ltb-false _ _ i)) e

  on_front : at.state.mode ≡ is_open → is_due at.controls at.moves ≡ false → (p : Process) (rest : List Process) → at.queue ≡ p ∷ rest
      → at.commits < limits.commits → at.moves < limits.moves → at.passed < length at.queue →
      (o : Option Decision) → decide n m at.state.bound p.goal ≡ o
      → option_map (λ d. front_ruling limits at p rest (event_of m at.state p d)) o ≡ Some r → P r
  on_front o u p rest q c v w None f e = absurd cc
  on_front o u p rest q c v w (Some d) f e =
      on_decision p rest d (record { is_running = o; not_due = u; queued = q; commits = c; moves = v; passed = w; decided = f })
      (ltb limits.cells (at.cells + (event_of m at.state p d).cells)) refl e

  on_limits : at.state.mode ≡ is_open → is_due at.controls at.moves ≡ false → (p : Process) (rest : List Process) → at.queue ≡ p ∷ rest →
      (b : Bool) → (leb limits.commits at.commits || leb limits.moves at.moves || leb (length at.queue) at.passed) ≡ b →
      elim b [
        | true ↦ Some ends
        | _ ↦ option_map (λ d. front_ruling limits at p rest (event_of m at.state p d))
            (decide n m at.state.bound p.goal)
      ] ≡ Some r → P r
  on_limits o u p rest q true f e = it_is ends h.at_end e
  on_limits o u p rest q false f e =
      let i = neither (leb limits.commits at.commits || leb limits.moves at.moves) (leb (length at.queue) at.passed) f in
      let j = neither (leb limits.commits at.commits) (leb limits.moves at.moves) i.0 in
      on_front o u p rest q (leb-false _ _ j.0) (leb-false _ _ j.1) (leb-false _ _ i.1) (decide n m at.state.bound p.goal) refl e

  on_queue : at.state.mode ≡ is_open → is_due at.controls at.moves ≡ false → (q : List Process) → at.queue ≡ q
      → queue_ruling n m limits at q ≡ Some r → P r
  on_queue o u [] q e = it_is ends h.at_end e
  on_queue o u (p ∷ rest) q e =
      on_limits o u p rest q (leb limits.commits at.commits || leb limits.moves at.moves || leb (length at.queue) at.passed) refl e

  on_held : is_over at.state.mode ≡ false → is_due at.controls at.moves ≡ false → (b : Bool) → is_suspended at.state.mode ≡ b →
      elim b [ true ↦ Some ends | _ ↦ queue_ruling n m limits at at.queue ] ≡ Some r → P r
  on_held o u true f e = it_is ends h.at_end e
  on_held o u false f e = on_queue (open_mode at.state.mode o f) u at.queue refl e

  on_due : is_over at.state.mode ≡ false → (b : Bool) → is_due at.controls at.moves ≡ b →
      elim b [
        | true ↦ Some (control_ruling at at.controls)
        | _ ↦ elim (is_suspended at.state.mode)
            [ true ↦ Some ends | _ ↦ queue_ruling n m limits at at.queue ]
      ] ≡ Some r → P r
  on_due o true f e = on_control o at.controls refl f e
  on_due o false f e = on_held o f (is_suspended at.state.mode) refl e

  on_over : (b : Bool) → is_over at.state.mode ≡ b →
      elim b [
        | true ↦ Some ends
        | _ ↦ elim (is_due at.controls at.moves) [
          | true ↦ Some (control_ruling at at.controls)
          | _ ↦ elim (is_suspended at.state.mode)
              [ true ↦ Some ends | _ ↦ queue_ruling n m limits at at.queue ]
        ]
      ] ≡ Some r → P r
  on_over true f e = it_is ends h.at_end e
  on_over false f e = on_due f (is_due at.controls at.moves) refl e

  pub by_rule : ruling n m limits at ≡ Some r → P r
  by_rule e = on_over (is_over at.state.mode) refl e
