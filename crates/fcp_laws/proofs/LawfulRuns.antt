-- The log of a run of one worker is a run within the limits in which the controls are kept.
use Rattle.std.proofs.Common.{◌≡◌, ℕ, ◌+◌, ◌-◌, ◌<◌, ◌≤◌, inl, inr, Bool, true, false, cond, List, [], ◌∷◌, ◌++◌, map, length, take, drop, length-append, Option, Some, None, refl, sym, ap, ◌∙◌, subst, arith}
use Rattle.std.specs.Prelude.{option_map, option_and_then}
use Rattle.std.proofs.Math.Seq.{take-append_seam, drop-append_seam}
use Rattle.std.proofs.lemmas.Bool.{true≢false, eq-eqb, and_from}
use Rattle.fcp_model.specs.declared.run.Limits.{Limits}
use Rattle.fcp_model.specs.declared.run.Act.{Act}
use Rattle.fcp_model.specs.declared.run.Act.TheVariants as act
use Rattle.fcp_model.specs.declared.run.Control.{Control}
use Rattle.fcp_model.specs.declared.run.Entry.{Entry}
use Rattle.fcp_model.specs.declared.run.Entry.TheVariants.{Commit, Hang, Fail, Snapshot, Suspend, Resume, Abort}
use Rattle.fcp_model.specs.Programs.{Program}
use Rattle.fcp_model.specs.Decisions.{Decision, commits, decides_fail, waits_on, decide}
use Rattle.fcp_model.specs.States.{ready, Process, State, Mode, is_open, is_held, is_failed, is_aborted, is_running, is_suspended, is_ready, process_named}
use Rattle.fcp_model.specs.Events.{Event, event_of, control_event}
use Rattle.fcp_model.specs.Runs.{is_same_move, move_on, move, agreed, next, replay, entries_of}
use Rattle.fcp_model.specs.Bounds.{is_commit, is_control, one, KeepsCounts, act_entry, ends_in_fail, control_places, NotDue, moves_in}
use Rattle.fcp_model.specs.OneWorker.{Schedule, ends, is_over, is_due, mode_after, control_ruling, after_event, queue_ruling, ruling, rulings, begin, IsOneWorkerRun}
use Rattle.fcp_model.specs.LawfulStates.{IsOrdered}
use Rattle.fcp_laws.specs.Schedules.{IsSoundSchedule}
use Rattle.fcp_laws.proofs.ProcessNames.{same_itself}
use Rattle.fcp_laws.proofs.Rulings.{Holds, event_of_control, after_control}
use Rattle.fcp_laws.proofs.SoundSchedules.{begin_sound, control_sound, pass_sound, move_sound, front_is_ready}
use Rattle.fcp_laws.proofs.ScheduleCounts.{LeadsOn, by_rulings, HasCounted, leads_counts, begin_large, leads_large}
use Rattle.fcp_model.specs.LawfulControls.{is_allowed, AreLawfulFrom, AreLawful}
use Rattle.fcp_laws.specs.Laws.{IsLawfulRun}
use Rattle.fcp_laws.proofs.LawfulSchedules.{has_failed, IsAhead, IsLawfulSchedule, next_allowed, control_lawful, pass_lawful, move_lawful, begin_lawful, leads_lawful, not_due_yet}

-- each entry is legal
replayed : (n : ℕ) (m : Program) (s : State) (ev : Event) (evs : List Event) → next n m s ev.entry ≡ Some ev
    → replay n m ev.after (entries_of evs) ≡ Some evs → replay n m s (ev.entry ∷ entries_of evs) ≡ Some (ev ∷ evs)
replayed n m s ev evs e f =
    ap (option_and_then (λ x. option_map (λ xs. x ∷ xs) (replay n m x.after (entries_of evs)))) e ∙ ap (option_map (λ xs. ev ∷ xs)) f

control_legal : (n : ℕ) (m : Program) (s : State) (a : Act) → is_allowed a s.mode ≡ true
    → next n m s (act_entry a) ≡ Some (control_event s (act_entry a) (mode_after a s.mode))
control_legal n m s act.Snapshot h = ap (λ b. cond b (Some (control_event s Snapshot s.mode)) None) h
control_legal n m s act.Suspend h = ap (λ b. cond b (Some (control_event s Suspend is_held)) None) h
control_legal n m s act.Resume h = ap (λ b. cond b (Some (control_event s Resume is_open)) None) h
control_legal n m s act.Abort h = ap (λ b. cond b (Some (control_event s Abort is_aborted)) None) h

same_move : (m : Program) (s : State) (p : Process) (d : Decision) → is_same_move (event_of m s p d).entry (event_of m s p d).entry ≡ true
same_move m s p (commits k bs rs) = and_from _ _ (same_itself p.name) (eq-eqb k k refl)
same_move m s p (waits_on rs) = same_itself p.name
same_move m s p (decides_fail rs) = same_itself p.name

moved : (n : ℕ) (m : Program) (s : State) (p : Process) (d : Decision) → s.mode ≡ is_open → process_named s.processes p.name ≡ Some p
    → p.status ≡ ready → decide n m s.bound p.goal ≡ Some d → move n m s p.name ≡ Some (event_of m s p d)
moved n m s p d o e r f =
    ap (move_on n m s) e
    ∙ (ap (λ b. cond b (option_map (event_of m s p) (decide n m s.bound p.goal)) None) (and_from _ _ (ap is_running o) (ap is_ready r))
    ∙ ap (option_map (event_of m s p)) f)

agreed_itself : (m : Program) (s : State) (p : Process) (d : Decision) (o : Option Event) → o ≡ Some (event_of m s p d)
    → agreed (event_of m s p d).entry o ≡ Some (event_of m s p d)
agreed_itself m s p d o e = ap (agreed (event_of m s p d).entry) e ∙ ap (λ b. cond b (Some (event_of m s p d)) None) (same_move m s p d)

move_legal : (n : ℕ) (m : Program) (s : State) (p : Process) (d : Decision) → move n m s p.name ≡ Some (event_of m s p d)
    → next n m s (event_of m s p d).entry ≡ Some (event_of m s p d)
move_legal n m s p (commits k bs rs) e = agreed_itself m s p (commits k bs rs) _ e
move_legal n m s p (waits_on rs) e = agreed_itself m s p (waits_on rs) _ e
move_legal n m s p (decides_fail rs) e = agreed_itself m s p (decides_fail rs) _ e

abbrev LegalOn : ℕ → Program → Schedule → List Event × Schedule → Type 0
LegalOn n m from x = IsSoundSchedule from → IsLawfulSchedule from → replay n m from.state (entries_of x.0) ≡ Some x.0

legal_on : (n : ℕ) (m : Program) (limits : Limits) (at : Schedule) → Holds n m limits at (LeadsOn (LegalOn n m) at)
legal_on n m limits at = record {
  at_end = tt;
  at_control = λ o c cs i j x rec h l.
      replayed n m at.state (event_of_control at c) x.0 (control_legal n m at.state c.act (next_allowed at l o c cs i).1)
      (rec (control_sound at c cs h o) (control_lawful at l o c cs i j));
  at_pass = λ p rest d f i x rec h l. rec (pass_sound at h p rest f.queued (ap is_over f.is_running) _) (pass_lawful at l _ _);
  at_move = λ p rest d f i x rec h l.
      let front = front_is_ready at h p rest f.queued in
      replayed n m at.state (event_of m at.state p d) x.0 (move_legal n m at.state p d
      (moved n m at.state p d f.is_running front.0 front.1 f.decided))
      (rec (move_sound m at p rest d h f.queued f.is_running) (move_lawful m at p rest d f.not_due l));
}

-- each move is made below the limits
counts_for : (limits : Limits) (c c' k k' : ℕ) (es : List Entry) → c ≡ c' → k ≡ k' → KeepsCounts limits c k es → KeepsCounts limits c' k' es
counts_for limits c c' k k' es e f h = subst (λ x. KeepsCounts limits x k' es) e (subst (λ x. KeepsCounts limits c x es) f h)

control_counts : (limits : Limits) (c k : ℕ) (a : Act) (es : List Entry) → KeepsCounts limits c k es
    → KeepsCounts limits c k (act_entry a ∷ es)
control_counts limits c k act.Snapshot es h = (tt, counts_for limits _ _ _ _ es (omega arith) (omega arith) h)
control_counts limits c k act.Suspend es h = (tt, counts_for limits _ _ _ _ es (omega arith) (omega arith) h)
control_counts limits c k act.Resume es h = (tt, counts_for limits _ _ _ _ es (omega arith) (omega arith) h)
control_counts limits c k act.Abort es h = (tt, counts_for limits _ _ _ _ es (omega arith) (omega arith) h)

move_counts : (limits : Limits) (c k : ℕ) (m : Program) (s : State) (p : Process) (d : Decision) (es : List Entry) → c < limits.commits
    → k < limits.moves →
    KeepsCounts limits (c + one (is_commit (event_of m s p d).entry)) (k + 1) es → KeepsCounts limits c k ((event_of m s p d).entry ∷ es)
move_counts limits c k m s p (commits j bs rs) es u v h = ((u, v), h)
move_counts limits c k m s p (waits_on rs) es u v h = ((u, v), h)
move_counts limits c k m s p (decides_fail rs) es u v h = ((u, v), h)

abbrev CountsOn : Limits → Schedule → List Event × Schedule → Type 0
CountsOn limits from x = KeepsCounts limits from.commits from.moves (entries_of x.0)

counts_on : (n : ℕ) (m : Program) (limits : Limits) (at : Schedule) → Holds n m limits at (LeadsOn (CountsOn limits) at)
counts_on n m limits at = record {
  at_end = tt;
  at_control = λ o c cs i j x h. control_counts limits at.commits at.moves c.act (entries_of x.0) h;
  at_pass = λ p rest d f i x h. h;
  at_move = λ p rest d f i x h. move_counts limits at.commits at.moves m at.state p d (entries_of x.0) f.commits f.moves h;
}

-- each control entry is the next control of the list, in its place
abbrev place_of : Control → ℕ × Entry
place_of c = (c.after, act_entry c.act)

record MadeControls (from : Schedule) (evs : List Event) (at : Schedule) : Type 0 where
  made : List Control
  split : from.controls ≡ made ++ at.controls
  placed : control_places from.moves (entries_of evs) ≡ map place_of made

control_entry : (a : Act) → is_control (act_entry a) ≡ true
control_entry act.Snapshot = refl
control_entry act.Suspend = refl
control_entry act.Resume = refl
control_entry act.Abort = refl

move_entry : (m : Program) (s : State) (p : Process) (d : Decision) → is_control (event_of m s p d).entry ≡ false
move_entry m s p (commits k bs rs) = refl
move_entry m s p (waits_on rs) = refl
move_entry m s p (decides_fail rs) = refl

-- the places of a log by whether its first entry is a control
abbrev places_by : Bool → ℕ → Entry → List Entry → List (ℕ × Entry)
places_by b k e es = cond b ((k, e) ∷ control_places k es) (control_places (k + 1) es)

abbrev MadeOn : Schedule → List Event × Schedule → Type 0
MadeOn from x = MadeControls from x.0 x.1

made_on : (n : ℕ) (m : Program) (limits : Limits) (at : Schedule) → Holds n m limits at (LeadsOn MadeOn at)
made_on n m limits at = record {
  at_end = tt;
  at_control = λ o c cs i j x h. record {
    made = c ∷ h.made;
    split = i ∙ ap (λ ds. c ∷ ds) h.split;
    placed = ap (λ b. places_by b at.moves (act_entry c.act) (entries_of x.0)) (control_entry c.act)
        ∙ (ap (λ k. (k, act_entry c.act) ∷ control_places at.moves (entries_of x.0)) (sym j) ∙ ap (λ ps. place_of c ∷ ps) h.placed);
  };
  at_pass = λ p rest d f i x h. record { made = h.made; split = h.split; placed = h.placed };
  at_move = λ p rest d f i x h. record {
    made = h.made;
    split = h.split;
    placed = ap (λ b. places_by b at.moves (event_of m at.state p d).entry (entries_of x.0)) (move_entry m at.state p d) ∙ h.placed;
  };
}

-- a run that failed has a fail as its last entry, and nothing follows where a run is over
record IsOverAt (from : Schedule) (evs : List Event) (at : Schedule) : Type 0 where
  none : evs ≡ []
  stays : at.state.mode ≡ from.state.mode

record FailsLast (from : Schedule) (evs : List Event) (at : Schedule) : Type 0 where
  over : is_over from.state.mode ≡ true → IsOverAt from evs at
  last : is_over from.state.mode ≡ false → has_failed at.state.mode ≡ true → ends_in_fail (entries_of evs) ≡ true

fail_behind : (e : Entry) (es : List Entry) → ends_in_fail es ≡ true → ends_in_fail (e ∷ es) ≡ true
fail_behind e [] h = absurd (true≢false (sym h))
fail_behind e (f ∷ es) h = h

failed_is_over : (mode : Mode) → is_over mode ≡ false → has_failed mode ≡ true → ⊥
failed_is_over is_open o f = true≢false (sym f)
failed_is_over is_held o f = true≢false (sym f)
failed_is_over is_failed o f = true≢false o
failed_is_over is_aborted o f = true≢false o

control_fails_not : (a : Act) (mode : Mode) → is_over mode ≡ false → has_failed (mode_after a mode) ≡ true → ⊥
control_fails_not act.Snapshot mode o f = failed_is_over mode o f
control_fails_not act.Suspend mode o f = true≢false (sym f)
control_fails_not act.Resume mode o f = true≢false (sym f)
control_fails_not act.Abort mode o f = true≢false (sym f)

abbrev FailsOn : Schedule → List Event × Schedule → Type 0
FailsOn from x = FailsLast from x.0 x.1

nothing_fails : (at : Schedule) → FailsOn at ([], at)
nothing_fails at = record { over = λ o. record { none = refl; stays = refl }; last = λ o f. absurd (failed_is_over at.state.mode o f) }

control_fails : (at : Schedule) → is_over at.state.mode ≡ false → (c : Control) (cs : List Control) (x : List Event × Schedule)
    → FailsOn (after_control at c cs) x → FailsOn at (event_of_control at c ∷ x.0, x.1)
control_fails at o c cs x h =
    record { over = λ u. absurd (true≢false (sym u ∙ o)); last = λ u f. go (is_over (mode_after c.act at.state.mode)) refl f }
  where
    go : (b : Bool) → is_over (mode_after c.act at.state.mode) ≡ b → has_failed x.1.state.mode ≡ true
        → ends_in_fail (act_entry c.act ∷ entries_of x.0) ≡ true
    go true e f = absurd (control_fails_not c.act at.state.mode o (sym (ap has_failed (h.over e).stays) ∙ f))
    go false e f = fail_behind (act_entry c.act) (entries_of x.0) (h.last e f)

move_fails : (m : Program) (at : Schedule) (p : Process) (rest : List Process) (d : Decision) → is_over at.state.mode ≡ false
    → (x : List Event × Schedule) → FailsOn (after_event at rest (event_of m at.state p d)) x
    → FailsOn at (event_of m at.state p d ∷ x.0, x.1)
move_fails m at p rest (commits k bs rs) o x h =
    record { over = λ u. absurd (true≢false (sym u ∙ o)); last = λ u f. fail_behind (Commit p.name k) (entries_of x.0) (h.last o f) }
move_fails m at p rest (waits_on rs) o x h =
    record { over = λ u. absurd (true≢false (sym u ∙ o)); last = λ u f. fail_behind (Hang p.name) (entries_of x.0) (h.last o f) }
move_fails m at p rest (decides_fail rs) o x h = record {
  over = λ u. absurd (true≢false (sym u ∙ o));
  last = λ u f. subst
      (λ evs. ends_in_fail (Fail p.name ∷ entries_of evs) ≡ true) (sym (h.over refl).none) refl;
}

fails_on : (n : ℕ) (m : Program) (limits : Limits) (at : Schedule) → Holds n m limits at (LeadsOn FailsOn at)
fails_on n m limits at = record {
  at_end = tt;
  at_control = λ o c cs i j x h. control_fails at o c cs x h;
  at_pass = λ p rest d f i x h. record { over = λ u. absurd (true≢false (sym u ∙ ap is_over f.is_running)); last = h.last };
  at_move = λ p rest d f i x h. move_fails m at p rest d (ap is_over f.is_running) x h;
}

-- where a run ends the next control is not due
module _ (n : ℕ) (m : Program) (limits : Limits) (at : Schedule) where
  control_goes_on : (cs : List Control) → is_due cs at.moves ≡ true → Some (control_ruling at cs) ≡ Some ends → ⊥
  control_goes_on [] d e = true≢false (sym d)
  control_goes_on (c ∷ cs) d e = cc

  end_not_due : is_over at.state.mode ≡ false → ruling n m limits at ≡ Some ends → is_due at.controls at.moves ≡ false
  end_not_due o e =
      go (is_due at.controls at.moves) refl
      (sym (ap (λ b. elim b [
        | true ↦ Some ends
        | _ ↦ elim (is_due at.controls at.moves) [
          | true ↦ Some (control_ruling at at.controls)
          | _ ↦ elim (is_suspended at.state.mode)
              [ true ↦ Some ends | _ ↦ queue_ruling n m limits at at.queue ]
        ]
      ]) o) ∙ e)
    where
      go : (b : Bool) → is_due at.controls at.moves ≡ b →
          elim b [
            | true ↦ Some (control_ruling at at.controls)
            | _ ↦ elim (is_suspended at.state.mode)
                [ true ↦ Some ends | _ ↦ queue_ruling n m limits at at.queue ]
          ] ≡ Some ends → b ≡ false
      go true d f = absurd (control_goes_on at.controls d f)
      go false d f = refl

nothing_behind_abort : (a : Act) → is_allowed a is_aborted ≡ true → ⊥
nothing_behind_abort act.Snapshot e = true≢false (sym e)
nothing_behind_abort act.Suspend e = true≢false (sym e)
nothing_behind_abort act.Resume e = true≢false (sym e)
nothing_behind_abort act.Abort e = true≢false (sym e)

none_due : (n : ℕ) (m : Program) (limits : Limits) (at : Schedule) (log : List Entry) → IsLawfulSchedule at
    → ruling n m limits at ≡ Some ends → at.moves ≡ moves_in log → (has_failed at.state.mode ≡ true → ends_in_fail log ≡ true) →
    (cs : List Control) → at.controls ≡ cs → NotDue log cs
none_due n m limits at log h e v f [] i = tt
none_due n m limits at log h e v f (c ∷ cs) i = go at.state.mode refl
  where
    before : at.moves ≤ c.after
    before = subst (IsAhead at.moves) i h.ahead

    not_over : is_over at.state.mode ≡ false → NotDue log (c ∷ cs)
    not_over o =
        inl
        (let d : at.moves < c.after = not_due_yet at.moves c cs (subst (λ ds. is_due ds at.moves ≡ false) i
        (end_not_due n m limits at o e)) before in omega arith)

    go : (mode : Mode) → at.state.mode ≡ mode → NotDue log (c ∷ cs)
    go is_open o = not_over (ap is_over o)
    go is_held o = not_over (ap is_over o)
    go is_failed o = inr (f (ap has_failed o), (let b = before in omega arith))
    go is_aborted o =
        let lawful : AreLawfulFrom at.moves is_aborted (c ∷ cs) = subst (λ mode. AreLawfulFrom at.moves mode (c ∷ cs)) o
        (subst (AreLawfulFrom at.moves at.state.mode) i (h.lawful (ap has_failed o))) in
        absurd (nothing_behind_abort c.act lawful.1)

-- all of it
pub is_lawful_run : (m : Program) (limits : Limits) (s : State) (cs : List Control) (evs : List Event) (at : Schedule) → IsOrdered s
    → s.mode ≡ is_open → AreLawful cs → IsOneWorkerRun m limits s cs evs at → IsLawfulRun m limits s cs evs at
is_lawful_run m limits s cs evs at ordered opened lawful run = record {
  legal = (
    steps,
    by_rulings steps m limits (LegalOn steps m) (λ to h l. refl) (legal_on steps m limits) count from (evs, at) followed
        (begin_sound s cs ordered) first,
  );
  last = sym counted.state;
  within = record {
    counts = by_rulings steps m limits (CountsOn limits) (λ to. tt) (counts_on steps m limits) count from (evs, at) followed;
    cells = subst (λ k. k ≤ limits.cells) counted.cells (leads_large m limits from evs at (begin_large m limits s cs) run.leads).within;
  };
  kept = record {
    made = made.placed ∙ ap (map place_of) (sym first_made);
    within = omega arith;
    rest =
        subst (NotDue (entries_of evs)) (sym left)
        (none_due run.steps m limits at (entries_of evs) (leads_lawful m limits from evs at first run.leads) run.ended counted.moves
        (fails.last (ap is_over opened)) at.controls refl);
  };
  commits = counted.commits;
  moves = counted.moves;
  cells = counted.cells;
}
  where
    steps : ℕ
    steps = run.leads.steps

    count : ℕ
    count = run.leads.count

    from : Schedule
    from = begin s cs

    followed : rulings count steps m limits from ≡ Some (evs, at)
    followed = run.leads.followed

    first : IsLawfulSchedule from
    first = begin_lawful s cs opened lawful

    counted : HasCounted s evs at
    counted = leads_counts m limits s cs evs at run.leads

    made : MadeControls from evs at
    made =
        by_rulings steps m limits MadeOn (λ to. record { made = []; split = refl; placed = refl }) (made_on steps m limits) count from
        (evs, at) followed

    fails : FailsLast from evs at
    fails = by_rulings steps m limits FailsOn nothing_fails (fails_on steps m limits) count from (evs, at) followed

    -- as many as were made
    reached : length cs - length at.controls ≡ length made.made
    reached = let e : length cs ≡ length made.made + length at.controls = ap length made.split
        ∙ length-append made.made at.controls in omega arith

    first_made : take (length cs - length at.controls) cs ≡ made.made
    first_made = ap (λ k. take k cs) reached ∙ (ap (take (length made.made)) made.split ∙ take-append_seam made.made at.controls)

    left : drop (length cs - length at.controls) cs ≡ at.controls
    left = ap (λ k. drop k cs) reached ∙ (ap (drop (length made.made)) made.split ∙ drop-append_seam made.made at.controls)
