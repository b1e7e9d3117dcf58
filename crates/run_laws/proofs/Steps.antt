-- What a commit, a hang and a fail of the front make of where the run stands, and when it ends.
use Rattle.std.proofs.Common.{◌≡◌, ◌⊎◌, ℕ, suc, ◌+◌, ◌<◌, ◌≤◌, Bool, true, false, cond, not, List, [], ◌∷◌, ◌++◌, length, map, Some, refl, sym, ap, ap₂, ◌∙◌, subst, inl, inr, append-nil, arith}
use Rattle.std.specs.Prelude.{filter, option_map, nat_le, ◌||◌}
use Rattle.std.proofs.lemmas.List.{length-map}
use Rattle.fcp_model.specs.declared.run.Proc.{Proc}
use Rattle.fcp_model.specs.declared.run.Entry.{Entry}
use Rattle.fcp_model.specs.declared.run.Entry.TheVariants.{Commit, Hang, Fail}
use Rattle.fcp_model.specs.Places.{is_older_process, places_among}
use Rattle.fcp_model.specs.Decisions.{Decision, commits, decides_fail, waits_on, decide}
use Rattle.fcp_model.specs.Cells.{clause_used}
use Rattle.fcp_model.specs.States.{Process, waiting, is_open, is_running, is_suspended, process_named, ready}
use Rattle.fcp_model.specs.Events.{Event, event_of, is_woken, made_ready}
use Rattle.fcp_model.specs.Bounds.{is_commit, one}
use Rattle.fcp_model.specs.OneWorker.{Schedule, ends, makes, is_over, is_due, after_event, front_ruling, queue_ruling, ruling, begin, Leads, IsOneWorkerRun}
use Rattle.fcp_laws.specs.Schedules.{IsSoundSchedule}
use Rattle.fcp_laws.specs.WaitingProcesses.{waiting_of, with_process}
use Rattle.fcp_laws.proofs.Leading.{led_on}
use Rattle.fcp_laws.proofs.SoundSchedules.{begin_sound, leads_sound, front_is_ready}
use Rattle.fcp_laws.proofs.WaitingProcesses.{waiting_after_commit, waiting_after_hang, woken_among_waiting}
use Rattle.heap_words.specs.Heaps.{IsHeap, inside_at}
use Rattle.word_states.specs.Words.{Words, HasAll}
use Rattle.word_states.specs.Standing.{Book}
use Rattle.word_states.specs.Going.{Move, MayGo, GoesOn, AllAt}
use Rattle.run_laws.specs.Running.{Setting, Counts, StandsAt, IsFront, IsOfFront, IsAtEnd, FailedAt, after_commit, after_hang}
use Rattle.run_laws.proofs.Fronts.{HasFront, front_of, none_there, all_long, all_append, front_name, IsMadeBy, next_is, other_names, ready_behind, stay_behind}
use Rattle.run_laws.proofs.RuledFronts.{over_ends, held_ends, queue_ends, front_ruled, front_makes, no_commits, no_moves, all_passed}

-- those that a test takes, and the others
parted : (t : Process → Bool) (xs : List Process) → length (filter t xs) + length (filter (λ x. not (t x)) xs) ≡ length xs
parted t [] = refl
parted t (x ∷ xs) = go (t x) (parted t xs)
  where
    go : (b : Bool) → length (filter t xs) + length (filter (λ y. not (t y)) xs) ≡ length xs
        → length (cond b (x ∷ filter t xs) (filter t xs))
        + length (cond (not b) (x ∷ filter (λ y. not (t y)) xs) (filter (λ y. not (t y)) xs))
        ≡ suc (length xs)
    go true e = omega (arith, e)
    go false e = omega (arith, e)

one_longer : (p : Process) (xs : List Process) → length (with_process p xs) ≡ suc (length xs)
one_longer p [] = refl
one_longer p (x ∷ xs) = go (is_older_process p.name x.name) (one_longer p xs)
  where
    go : (b : Bool) → length (with_process p xs) ≡ suc (length xs)
        → length (elim b as (λ z. List Process) [ true ↦ p ∷ x ∷ xs | _ ↦ x ∷ with_process p xs ]) ≡ suc (suc (length xs))
    go true e = refl
    go false e = ap suc e

module _ (r : Setting) (ws queue : List ℕ) (c : Counts) (evs : List Event) (at : Schedule) (book : Book)
    (here : StandsAt r ws queue c evs at book) where
  pub sound : IsSoundSchedule at
  sound = leads_sound r.program r.limits (begin r.from r.controls) evs at (begin_sound r.from r.controls here.ordered) here.leads

  pub may_go : (v : Move) → c.mode ≡ is_open → c.entries + 1 < 134217728 → HasAll v.reads (inside_at ws) → MayGo v book ws at.state
  may_go v going few has = record {
    heap = here.heap;
    stands = here.stands;
    ordered = sound.ordered;
    running = ap is_running (here.mode ∙ going);
    few = omega (arith, few, here.entries);
    has = has;
  }

  -- whether a control is due
  pub none_due : is_due at.controls at.moves ≡ is_due c.controls c.moved
  none_due = ap₂ is_due here.controls here.moved

  -- the run ends
  abbrev Ends : Type 0
  Ends = IsOneWorkerRun r.program r.limits r.from r.controls evs at

  ended_by : ruling 0 r.program r.limits at ≡ Some ends → Ends
  ended_by h = record { leads = here.leads; steps = 0; ended = h }

  module _ (not_due : is_due c.controls c.moved ≡ false) where
    by_queue : queue_ruling 0 r.program r.limits at at.queue ≡ Some ends → Ends
    by_queue h = ended_by (queue_ends 0 r.program r.limits at (none_due ∙ not_due) h)

    ended_empty : queue ≡ [] → Ends
    ended_empty h = by_queue (ap (queue_ruling 0 r.program r.limits at)
        (none_there book at.state at.queue (subst (λ (qs : List ℕ). AllAt book at.state qs at.queue) h here.queued)))

    ended_full : (nat_le r.limits.commits at.commits || nat_le r.limits.moves at.moves || nat_le (length at.queue) at.passed) ≡ true → Ends
    ended_full h = by_queue (go at.queue)
      where
        go : (q : List Process) → queue_ruling 0 r.program r.limits at q ≡ Some ends
        go [] = refl
        go (p ∷ rest) = ap (λ (x : Bool). elim x [
          | true ↦ Some ends
          | _ ↦ option_map
              (λ (y : Decision). front_ruling r.limits at p rest (event_of r.program at.state p y))
              (decide 0 r.program at.state.bound p.goal)
        ]) h

    ended_limit : ((queue ≡ []) ⊎ (c.commits ≡ 0)) ⊎ ((c.moves ≡ 0) ⊎ (length queue ≤ c.passed)) → Ends
    ended_limit (inl (inl h)) = ended_empty h
    ended_limit (inl (inr h)) = ended_full (no_commits r.limits at (omega (arith, h, here.commits)))
    ended_limit (inr (inl h)) = ended_full (no_moves r.limits at (omega (arith, h, here.moves)))
    ended_limit (inr (inr h)) =
        ended_full (all_passed r.limits at (omega (arith, h, here.passed, all_long book at.state queue at.queue here.queued)))

  pub ended : IsAtEnd queue c → Ends
  ended (inl h) = ended_by (over_ends 0 r.program r.limits at (ap is_over here.mode ∙ h))
  ended (inr (not_due, inl h)) =
      ended_by (held_ends 0 r.program r.limits at (none_due ∙ not_due) (ap is_suspended here.mode ∙ h))
  ended (inr (not_due, inr h)) = ended_limit not_due h

module _ (r : Setting) (ws rest : List ℕ) (p : ℕ) (c : Counts) (evs : List Event) (at : Schedule) (book : Book) (v : Move)
    (here : StandsAt r ws (p ∷ rest) c evs at book) (f : IsFront v ws p rest c) where
  fits : IsSoundSchedule at
  fits = sound r ws (p ∷ rest) c evs at book here

  pub front : HasFront book at.state p rest at.queue
  front = front_of book at.state p rest at.queue here.queued

  found : (process_named at.state.processes front.process.name ≡ Some front.process) × (front.process.status ≡ ready)
  found = front_is_ready at fits front.process front.behind front.queue

  length_is : length (p ∷ rest) ≡ length at.queue
  length_is = all_long book at.state (p ∷ rest) at.queue here.queued

  ruled : (n : ℕ) (d : Decision) → decide n r.program at.state.bound front.process.goal ≡ Some d
      → ruling n r.program r.limits at
      ≡ Some (front_ruling r.limits at front.process front.behind (event_of r.program at.state front.process d))
  ruled n d e =
      front_ruled n r.program r.limits at front.process front.behind d (record {
        is_running = here.mode ∙ f.going.mode;
        not_due = none_due r ws (p ∷ rest) c evs at book here ∙ f.going.not_due;
        queued = front.queue;
        commits = omega (arith, f.commits, here.commits);
        moves = omega (arith, f.moves, here.moves);
        passed = omega (arith, f.passed, here.passed, length_is);
        decided = e;
      })

  module _ (w' : Words) (g : GoesOn r.program v book at.state w') where
    pub made_by : IsMadeBy g.goes.steps r.program at.state front.process v.entry g.goes.event
    made_by =
        next_is g.goes.steps r.program at.state v.entry f.mover front.process g.goes.event f.is_move
        (ap (process_named at.state.processes) (front_name v ws p rest c book at.state f here.stands front.process front.at_front)
        ∙ found.0)
        g.goes.legal

    pub of_front : IsOfFront r.program at g.goes.event v.entry
    of_front = record {
      process = front.process;
      behind = front.behind;
      queue = front.queue;
      decision = made_by.decision;
      decided = (g.goes.steps, made_by.decided);
      is = made_by.is;
      has = made_by.has;
    }

    ruled_so : ruling g.goes.steps r.program r.limits at ≡ Some (front_ruling r.limits at front.process front.behind g.goes.event)
    ruled_so = ruled g.goes.steps made_by.decision made_by.decided
        ∙ ap (λ (x : Event). Some (front_ruling r.limits at front.process front.behind x)) (sym made_by.is)

    leads_on : v.cells ≤ c.cells
        → Leads r.program r.limits (begin r.from r.controls) (evs ++ g.goes.event ∷ []) (after_event at front.behind g.goes.event)
    leads_on enough =
        led_on r.program r.limits (begin r.from r.controls) at evs (makes g.goes.event (after_event at front.behind g.goes.event))
        g.goes.steps here.leads
        (ruled_so ∙ ap Some (front_makes r.limits at front.process front.behind g.goes.event
        (omega (arith, enough, here.cells, g.cells)))) refl

    others_stay : AllAt g.goes.book g.goes.event.after rest front.behind
    others_stay =
        stay_behind book g.goes.book (inside_at ws) at.state g.goes.event.after p front.process here.stands front.at_front
        (λ q z h k far. g.processes_stay q z h k (λ e. far (e ∙ f.address))) rest front.behind front.others
        (ready_behind at fits front.process front.behind front.queue) (other_names at fits front.process front.behind front.queue)

    -- the run ends with a fail
    pub fails_there : (q : Proc) → v.entry ≡ Fail q → FailedAt r (evs ++ g.goes.event ∷ []) at.state c
    fails_there q is_fail =
        subst (λ (x : Event). FailedAt r (evs ++ x ∷ []) at.state c) (sym made_by.is)
        (go made_by.decision made_by.decided (sym (ap (λ (x : Event). x.entry) made_by.is) ∙ (made_by.has ∙ is_fail)))
      where
        go : (d : Decision) → decide g.goes.steps r.program at.state.bound front.process.goal ≡ Some d
            → (event_of r.program at.state front.process d).entry ≡ Fail q
            → FailedAt r (evs ++ event_of r.program at.state front.process d ∷ []) at.state c
        go (commits k bs rs) e i = cc
        go (waits_on rs) e i = cc
        go (decides_fail rs) e i =
            let ev : Event = event_of r.program at.state front.process (decides_fail rs) in
            let to : Schedule = after_event at front.behind ev in
            record {
              last = to;
              run = record {
                leads = led_on r.program r.limits (begin r.from r.controls) at evs (makes ev to) g.goes.steps here.leads
                    (ruled g.goes.steps (decides_fail rs) e
                    ∙ ap Some (front_makes r.limits at front.process front.behind ev (omega (arith, here.cells)))) refl;
                steps = 0;
                ended = refl;
              };
              mode = refl;
              left = here.controls;
              bound = refl;
              entries = omega (arith, here.entries);
            }

  module _ (ws' : List ℕ) (g : GoesOn r.program v book at.state (inside_at ws')) (enough : v.cells ≤ c.cells) (heap : IsHeap ws') where
    abbrev ev : Event
    ev = g.goes.event

    abbrev to : Schedule
    to = after_event at front.behind ev

    by : IsMadeBy g.goes.steps r.program at.state front.process v.entry ev
    by = made_by (inside_at ws') g

    woken_count : length v.woken ≡ length ev.woken
    woken_count = all_long g.goes.book ev.after v.woken (map made_ready ev.woken) g.woken ∙ length-map ev.woken made_ready

    queue_after : AllAt g.goes.book ev.after (rest ++ v.children ++ v.woken) to.queue
    queue_after =
        all_append g.goes.book ev.after (rest ++ v.children) v.woken (front.behind ++ ev.children) (map made_ready ev.woken)
        (all_append g.goes.book ev.after rest v.children front.behind ev.children (others_stay (inside_at ws') g) g.children) g.woken

    -- what the decision makes of those that wait, of the mode and of the number of entries
    commit_leaves : (q : Proc) (k : ℕ) → v.entry ≡ Commit q k → (d : Decision) → ev ≡ event_of r.program at.state front.process d
        → (ev.after.mode ≡ at.state.mode) × (ev.after.entries ≡ suc at.state.entries)
        × (length ev.woken + length (waiting_of ev.after.processes) ≡ length (waiting_of at.state.processes))
    commit_leaves q k e (commits j bs rs) is = (
      ap (λ (x : Event). x.after.mode) is,
      ap (λ (x : Event). x.after.entries) is,
      subst (λ (x : Event). length x.woken + length (waiting_of x.after.processes) ≡ length (waiting_of at.state.processes)) (sym is)
          (ap (λ (xs : List Process). length xs
          + length (waiting_of (event_of r.program at.state front.process (commits j bs rs)).after.processes))
          (woken_among_waiting bs at.state.processes)
          ∙ (ap (λ (xs : List Process). length (filter (λ z. is_woken bs z.status) (waiting_of at.state.processes)) + length xs)
          (waiting_after_commit bs (suc at.state.entries) (clause_used r.program front.process.goal j) front.process at.state.processes
          fits.ordered.rise found.0 found.1)
          ∙ parted (λ z. is_woken bs z.status) (waiting_of at.state.processes))),
    )
    commit_leaves q k e (waits_on rs) is = let wrong : Commit q k ≡ Hang front.process.name = sym e ∙ (sym by.has
        ∙ ap (λ (x : Event). x.entry) is) in cc
    commit_leaves q k e (decides_fail rs) is = let wrong : Commit q k ≡ Fail front.process.name = sym e ∙ (sym by.has
        ∙ ap (λ (x : Event). x.entry) is) in cc

    pub commits_on : (q : Proc) (k : ℕ) → v.entry ≡ Commit q k
        → (at' : Schedule) × StandsAt r ws' (rest ++ v.children ++ v.woken) (after_commit c (length v.woken) v.cells)
        (evs ++ ev ∷ []) at' g.goes.book × (length v.woken ≤ c.asleep)
    commits_on q k e =
        let l = commit_leaves q k e by.decision by.is in
        let counted : one (is_commit ev.entry) ≡ 1 = ap (λ (x : Entry). one (is_commit x)) (by.has ∙ e) in (
          to,
          record {
            ordered = here.ordered;
            leads = leads_on (inside_at ws') g enough;
            heap = heap;
            stands = g.goes.stands;
            queued = queue_after;
            variables = λ i a b. g.places_stay _ _ (here.variables i a b);
            mode = l.0 ∙ here.mode;
            controls = here.controls;
            entries = omega (arith, l.1, here.entries);
            moved = omega (arith, here.moved);
            passed = refl;
            asleep = omega (arith, l.2, woken_count, here.asleep);
            commits = omega (arith, counted, f.commits, here.commits);
            moves = omega (arith, f.moves, here.moves);
            cells = omega (arith, enough, g.cells, here.cells);
          },
          omega (arith, l.2, woken_count, here.asleep),
        )

    hang_leaves : (q : Proc) → v.entry ≡ Hang q → (d : Decision) → ev ≡ event_of r.program at.state front.process d
        → (ev.after.mode ≡ at.state.mode) × (ev.after.entries ≡ suc at.state.entries)
        × (length (waiting_of ev.after.processes) ≡ suc (length (waiting_of at.state.processes)))
        × (to.queue ≡ front.behind)
    hang_leaves q e (waits_on rs) is = (
      ap (λ (x : Event). x.after.mode) is,
      ap (λ (x : Event). x.after.entries) is,
      ap (λ (x : Event). length (waiting_of x.after.processes)) is
          ∙ (ap length (waiting_after_hang (places_among rs) front.process at.state.processes fits.ordered.rise found.0 found.1)
          ∙ one_longer (record front.process { status = waiting (places_among rs) }) (waiting_of at.state.processes)),
      ap (λ (x : Event). front.behind ++ x.children ++ map made_ready x.woken) is
          ∙ (append-nil (front.behind ++ []) ∙ append-nil front.behind),
    )
    hang_leaves q e (commits j bs rs) is = let wrong : Hang q ≡ Commit front.process.name j = sym e ∙ (sym by.has
        ∙ ap (λ (x : Event). x.entry) is) in cc
    hang_leaves q e (decides_fail rs) is = let wrong : Hang q ≡ Fail front.process.name = sym e ∙ (sym by.has
        ∙ ap (λ (x : Event). x.entry) is) in cc

    pub hangs_on : (q : Proc) → v.entry ≡ Hang q
        → (at' : Schedule) × StandsAt r ws' rest (after_hang c v.cells) (evs ++ ev ∷ []) at' g.goes.book
    hangs_on q e =
        let l = hang_leaves q e by.decision by.is in
        let counted : one (is_commit ev.entry) ≡ 0 = ap (λ (x : Entry). one (is_commit x)) (by.has ∙ e) in (
          to,
          record {
            ordered = here.ordered;
            leads = leads_on (inside_at ws') g enough;
            heap = heap;
            stands = g.goes.stands;
            queued = subst (AllAt g.goes.book ev.after rest) (sym l.3) (others_stay (inside_at ws') g);
            variables = λ i a b. g.places_stay _ _ (here.variables i a b);
            mode = l.0 ∙ here.mode;
            controls = here.controls;
            entries = omega (arith, l.1, here.entries);
            moved = omega (arith, here.moved);
            passed = refl;
            asleep = omega (arith, l.2, here.asleep);
            commits = omega (arith, counted, here.commits);
            moves = omega (arith, f.moves, here.moves);
            cells = omega (arith, enough, g.cells, here.cells);
          },
        )
