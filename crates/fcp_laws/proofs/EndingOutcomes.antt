-- The outcome where a run of one worker ends is the outcome of its state and of its events.
use Rattle.std.proofs.Common.{◌≡◌, ℕ, ◌+◌, ◌-◌, ◌≤◌, Bool, true, false, cond, List, [], ◌∷◌, ◌++◌, length, length-append, Option, Some, None, refl, sym, ap, ◌∙◌, subst, arith, ltb, leb}
use Rattle.std.specs.Prelude.{option_map, not, MatchBool, ◌||◌, ◌&&◌}
use Rattle.std.specs.List.{list_all, list_any}
use Rattle.std.proofs.Math.Bool.{or-true}
use Rattle.std.proofs.lemmas.Bool.{leb-true, true≢false}
use Rattle.fcp_model.specs.declared.run.Proc.{Proc}
use Rattle.fcp_model.specs.declared.run.Limits.{Limits}
use Rattle.fcp_model.specs.declared.run.Control.{Control}
use Rattle.fcp_model.specs.declared.run.Outcome.{Outcome}
use Rattle.fcp_model.specs.declared.run.Outcome.TheVariants.{Terminated, Suspended, Budget, Full}
use Rattle.fcp_model.specs.Places.{is_same_process}
use Rattle.fcp_model.specs.Programs.{Program}
use Rattle.fcp_model.specs.Decisions.{Decision, decide}
use Rattle.fcp_model.specs.States.{Status, ready, waiting, finished, Process, State, Mode, is_open, is_held, is_failed, is_aborted, is_suspended, is_ready, is_finished, process_named}
use Rattle.fcp_model.specs.Events.{Event, event_of}
use Rattle.fcp_model.specs.Runs.{entries_of, cells_of}
use Rattle.fcp_model.specs.Bounds.{commits_in, moves_in}
use Rattle.fcp_model.specs.Outcomes.{IsTooLarge, AllTooLarge, EndsOpen, EndsAt, Ends}
use Rattle.fcp_laws.specs.WaitingProcesses.{is_waiting}
use Rattle.fcp_model.specs.OneWorker.{Schedule, ends, passes, makes, is_over, is_due, control_ruling, after_event, front_ruling, queue_ruling, ruling, begin, IsOneWorkerRun}
use Rattle.fcp_laws.specs.Endings.{open_outcome, outcome_at}
use Rattle.fcp_model.specs.LawfulStates.{Each, IsOrdered}
use Rattle.fcp_laws.specs.Schedules.{IsSoundSchedule}
use Rattle.fcp_laws.proofs.ProcessNames.{picked, each_found, apart_of_rise}
use Rattle.fcp_laws.proofs.QueueMoves.{each_itself}
use Rattle.fcp_laws.proofs.SoundSchedules.{begin_sound, leads_sound, none_ready, front_is_ready}
use Rattle.fcp_laws.proofs.ScheduleCounts.{IsLarge, PassedAreLarge, leads_counts, begin_large, leads_large}

-- all processes are finished just where none is Ready and none waits
finished_if_neither : (ps : List Process)
    → list_all (λ p. is_finished p.status) ps ≡ not (list_any (λ p. is_ready p.status) ps || list_any (λ p. is_waiting p.status) ps)
finished_if_neither [] = refl
finished_if_neither (p ∷ ps) = go p.status (finished_if_neither ps)
  where
    go : (st : Status)
        → list_all (λ p. is_finished p.status) ps ≡ not (list_any (λ p. is_ready p.status) ps || list_any (λ p. is_waiting p.status) ps) →
        (is_finished st && list_all (λ p. is_finished p.status) ps)
        ≡ not ((is_ready st || list_any (λ p. is_ready p.status) ps) || (is_waiting st || list_any (λ p. is_waiting p.status) ps))
    go ready e = refl
    go (waiting vs) e = ap not (sym (or-true (list_any (λ p. is_ready p.status) ps)))
    go finished e = e

-- a Ready process that is found is one
ready_found : (ps : List Process) (n : Proc) (p : Process) → process_named ps n ≡ Some p → p.status ≡ ready
    → list_any (λ q. is_ready q.status) ps ≡ true
ready_found [] n p e s = cc
ready_found (q ∷ ps) n p e s = go (is_same_process q.name n) (ready_found ps n p) e
  where
    go : (b : Bool) → (process_named ps n ≡ Some p → p.status ≡ ready → list_any (λ x. is_ready x.status) ps ≡ true)
        → picked b q (process_named ps n) ≡ Some p → (is_ready q.status || list_any (λ x. is_ready x.status) ps) ≡ true
    go true rec i = let same : q ≡ p = cc in ap (λ b. b || list_any (λ x. is_ready x.status) ps)
        (ap (λ (x : Process). is_ready x.status) same ∙ ap is_ready s)
    go false rec i = rw (rec i s) (or-true (is_ready q.status))

-- where it was said of an open run that it ends
module _ (n : ℕ) (m : Program) (limits : Limits) (at : Schedule) where
  control_goes_on : (cs : List Control) → is_due cs at.moves ≡ true → Some (control_ruling at cs) ≡ Some ends → ⊥
  control_goes_on [] d e = true≢false (sym d)
  control_goes_on (c ∷ cs) d e = cc

  by_queue : at.state.mode ≡ is_open → ruling n m limits at ≡ Some ends → queue_ruling n m limits at at.queue ≡ Some ends
  by_queue o e = go (is_due at.controls at.moves) refl (subst by_mode o e)
    where
      by_mode : Mode → Type 0
      by_mode mode = elim (is_over mode) [
        | true ↦ Some ends
        | _ ↦ elim (is_due at.controls at.moves) [
          | true ↦ Some (control_ruling at at.controls)
          | _ ↦ elim (is_suspended mode) [ true ↦ Some ends | _ ↦ queue_ruling n m limits at at.queue ]
        ]
      ] ≡ Some ends

      go : (b : Bool) → is_due at.controls at.moves ≡ b
          → elim b [ true ↦ Some (control_ruling at at.controls) | _ ↦ queue_ruling n m limits at at.queue ] ≡ Some ends
          → queue_ruling n m limits at at.queue ≡ Some ends
      go true d f = absurd (control_goes_on at.controls d f)
      go false d f = f

  front_goes_on : (p : Process) (rest : List Process) (o : Option Decision)
      → option_map (λ d. front_ruling limits at p rest (event_of m at.state p d)) o ≡ Some ends → ⊥
  front_goes_on p rest None e = cc
  front_goes_on p rest (Some d) e = go (ltb limits.cells (at.cells + (event_of m at.state p d).cells)) e
    where
      go : (b : Bool)
          → Some (elim b [
            | true ↦ passes (record at { queue = rest ++ p ∷ []; passed = at.passed + 1 })
            | _ ↦ makes (event_of m at.state p d) (after_event at rest (event_of m at.state p d))
          ]) ≡ Some ends
          → ⊥
      go true f = cc
      go false f = cc

  -- with a process in the queue a limit is reached, or all went to the back
  abbrev at_limit : Bool
  at_limit = leb limits.commits at.commits || leb limits.moves at.moves

  by_limit : (p : Process) (rest : List Process) → queue_ruling n m limits at (p ∷ rest) ≡ Some ends
      → (at_limit || leb (length at.queue) at.passed) ≡ true
  by_limit p rest e = go (at_limit || leb (length at.queue) at.passed) e
    where
      go : (b : Bool)
          → elim b [
            | true ↦ Some ends
            | _ ↦ option_map (λ d. front_ruling limits at p rest (event_of m at.state p d)) (decide n m at.state.bound p.goal)
          ] ≡ Some ends
          → b ≡ true
      go true f = refl
      go false f = absurd (front_goes_on p rest (decide n m at.state.bound p.goal) f)

-- with all processes of the queue at the back
all_passed : (front back queue : List Process) (passed : ℕ) → queue ≡ front ++ back → passed ≡ length back → length queue ≤ passed
    → queue ≡ back
all_passed [] back queue passed e f l = e
all_passed (p ∷ front) back queue passed e f l = absurd (omega (arith, ap length e, length-append front back))

module _ (m : Program) (limits : Limits) (at : Schedule) (sound : IsSoundSchedule at) (large : PassedAreLarge m limits at) where
  abbrev left : ℕ
  left = limits.cells - at.cells

  abbrev FitsOpen : Outcome → Type 0
  FitsOpen o = EndsOpen m at.state limits at.commits at.moves left o

  -- with as many at the back as the queue holds, each Ready process is too large
  all_too_large : is_over at.state.mode ≡ false → length at.queue ≤ at.passed → AllTooLarge m at.state left at.state.processes
  all_too_large o l = go at.state.processes (each_itself at.state.processes (apart_of_rise at.state.processes sound.ordered.rise))
    where
      same : at.queue ≡ large.back
      same = all_passed large.front large.back at.queue at.passed large.queued large.passed l

      one : (p : Process) → process_named at.state.processes p.name ≡ Some p → (st : Status) → p.status ≡ st
          → IsTooLarge m at.state left p st
      one p e ready s =
          each_found (IsLarge m at.state.bound left) large.back p.name p large.large
          (sym (ap (λ ps. process_named ps p.name) same) ∙ sound.are_queued o p.name p e s)
      one p e (waiting vs) s = tt
      one p e finished s = tt

      go : (ps : List Process) → Each (λ p. process_named at.state.processes p.name ≡ Some p) ps → AllTooLarge m at.state left ps
      go [] e = tt
      go (p ∷ ps) e = (one p e.0 p.status refl, go ps e.1)

  -- an empty queue
  fits_empty : list_any (λ p. is_ready p.status) at.state.processes ≡ false → (w : Bool)
      → list_any (λ p. is_waiting p.status) at.state.processes ≡ w → FitsOpen (cond w Suspended Terminated)
  fits_empty r true w =
      let f = finished_if_neither at.state.processes
      ∙ ap not (ap (λ b. b || list_any (λ p. is_waiting p.status) at.state.processes) r ∙ w) in
      rw (f, r) refl
  fits_empty r false w =
      let f = finished_if_neither at.state.processes
      ∙ ap not (ap (λ b. b || list_any (λ p. is_waiting p.status) at.state.processes) r ∙ w) in
      rw f refl

  -- a queue with a process
  fits_front : is_over at.state.mode ≡ false → list_any (λ p. is_ready p.status) at.state.processes ≡ true →
      (b : Bool) → (leb limits.commits at.commits || leb limits.moves at.moves) ≡ b → (b || leb (length at.queue) at.passed) ≡ true
      → FitsOpen (cond b Budget Full)
  fits_front o r b l e =
      let f = finished_if_neither at.state.processes ∙ ap (λ x. not (x || list_any (λ p. is_waiting p.status) at.state.processes)) r in
      rw (f, r, l) (go b e)
    where
      go : (b : Bool) → (b || leb (length at.queue) at.passed) ≡ true
          → MatchBool b (cond b Budget Full ≡ Budget) ((cond b Budget Full ≡ Full) × AllTooLarge m at.state left at.state.processes)
      go true i = refl
      go false i = (refl, all_too_large o (leb-true _ _ i))

  fits_queue : (n : ℕ) → at.state.mode ≡ is_open → (q : List Process) → at.queue ≡ q → queue_ruling n m limits at q ≡ Some ends
      → FitsOpen (open_outcome limits at)
  fits_queue n o [] q e = rw q (fits_empty (none_ready at sound (ap is_over o) q) _ refl)
  fits_queue n o (p ∷ rest) q e =
      let f = front_is_ready at sound p rest q in
      let last = by_limit n m limits at p rest e in
      subst (λ ps. FitsOpen (elim ps [
        | [] ↦ cond (list_any (λ p. is_waiting p.status) at.state.processes) Suspended Terminated
        | p ∷ rest ↦ cond (leb limits.commits at.commits || leb limits.moves at.moves) Budget Full
      ])) (sym q)
      (fits_front (ap is_over o) (ready_found at.state.processes p.name p f.0 f.1) _ refl last)

  -- where a run ends, its outcome is that of its state and its counts
  pub fits_where_ended : (n : ℕ) → ruling n m limits at ≡ Some ends
      → EndsAt m at.state limits at.commits at.moves at.cells (outcome_at limits at)
  fits_where_ended n e = go at.state.mode refl
    where
      go : (mode : Mode) → at.state.mode ≡ mode → EndsAt m at.state limits at.commits at.moves at.cells (outcome_at limits at)
      go is_failed o = rw o refl
      go is_aborted o = rw o refl
      go is_held o = rw o refl
      go is_open o = rw o (fits_queue n o at.queue refl (by_queue n m limits at o e))

-- the outcome of a run of one worker is that of its last state, its commits, its moves and its cells
pub ends_so : (m : Program) (limits : Limits) (s : State) (cs : List Control) (evs : List Event) (at : Schedule) → IsOrdered s
    → s.mode ≡ is_open → IsOneWorkerRun m limits s cs evs at → Ends m limits s evs (outcome_at limits at)
ends_so m limits s cs evs at ordered opened run =
    let h = leads_counts m limits s cs evs at run.leads in
    let fits = fits_where_ended m limits at (leads_sound m limits (begin s cs) evs at (begin_sound s cs ordered) run.leads)
    (leads_large m limits (begin s cs) evs at (begin_large m limits s cs) run.leads) run.steps run.ended in
    subst (λ t. EndsAt m t limits (commits_in (entries_of evs)) (moves_in (entries_of evs)) (cells_of evs) (outcome_at limits at)) h.state
    (subst (λ k. EndsAt m at.state limits k (moves_in (entries_of evs)) (cells_of evs) (outcome_at limits at)) h.commits
    (subst (λ k. EndsAt m at.state limits at.commits k (cells_of evs) (outcome_at limits at)) h.moves
    (subst (λ k. EndsAt m at.state limits at.commits at.moves k (outcome_at limits at)) h.cells fits)))
