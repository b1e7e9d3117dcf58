-- The end of a run.
use Rattle.std.proofs.Common.{◌≡◌, ℕ, ◌+◌, ◌-◌, ◌≤◌, List, [], ◌∷◌, ◌++◌, length, refl, sym, ap, ◌∙◌, subst, arith}
use Rattle.std.proofs.lemmas.List.{length-drop}
use Rattle.fcp_model.specs.declared.run.Control.{Control}
use Rattle.fcp_model.specs.declared.run.Entry.{Entry}
use Rattle.fcp_model.specs.declared.run.Entry.TheVariants.{Fail}
use Rattle.fcp_model.specs.declared.run.Outcome.{Outcome}
use Rattle.fcp_model.specs.declared.run.Outcome.TheVariants.{Failed, Aborted, Held}
use Rattle.fcp_model.specs.declared.run.Proc.{Proc}
use Rattle.fcp_model.specs.States.{Mode, is_open, is_held, is_failed, is_aborted}
use Rattle.fcp_model.specs.LawfulStates.{IsOrdered}
use Rattle.fcp_model.specs.Events.{Event}
use Rattle.fcp_model.specs.Runs.{IsRun}
use Rattle.fcp_model.specs.Outcomes.{Ends}
use Rattle.fcp_model.specs.Translation.{started_goals}
use Rattle.fcp_laws.specs.Laws.{OneWorkerRunsAreRuns, OneWorkerRunsEnd}
use Rattle.fcp_laws.proofs.SoundSchedules.{start_ordered}
use Rattle.run_laws.specs.Laws.{AFailEnds, AnEndEnds, AnEventIsOfTheFront, AnOutcomeIsCounted}
use Rattle.run_laws.specs.Running.{Counts, IsAtEnd, outcome_by, open_outcome_by}
use Rattle.worker_crew.specs.declared.task.Task.{Task}
use Rattle.worker_crew.specs.declared.task.Run.{Run}
use Rattle.worker_crew.specs.declared.engine.Engine.{Engine}
use Rattle.worker_crew.specs.Tasks.{program, first_state, vars, IsTask, IsAlone, HasLog}
use Rattle.worker_crew.specs.Reached.{setting, counts_of, IsReached, HasEnded}
use Rattle.worker_crew.specs.Moved.{HasFailed}
use Rattle.worker_crew.proofs.Counting.{log_more, length_more}
use Rattle.worker_crew.proofs.Controls.{IsNotedThere}

-- as many controls as were made, and those that are left
all_controls : (cs ds : List Control) (made : ℕ) → made ≤ length cs → length ds ≡ length cs - made → made + length ds ≡ length cs
all_controls cs ds made within e = omega arith

-- the run ends where the engine stands, with the outcome that is counted
pub ended_here : (t : Task) (e : Engine) → IsReached t [] e → AnEndEnds → AnOutcomeIsCounted → IsAtEnd e.queue.items (counts_of t e)
    → (o : Outcome) → o ≡ outcome_by e.queue.items (counts_of t e) → HasEnded t e o
ended_here t e r law counted at_end o is = record {
  events = r.events;
  last = r.at;
  run = law (setting t) e.hall.words.items e.queue.items (counts_of t e) r.events r.at r.book r.stands at_end;
  outcome = is ∙ sym (counted (setting t) e.hall.words.items e.queue.items (counts_of t e) r.events r.at r.book r.stands);
  log = r.log;
  few = let a = r.rest.few in omega arith;
  reached = all_controls t.controls.now r.at.controls e.made r.rest.within
      (ap length r.stands.controls ∙ length-drop e.made t.controls.now);
}

when_open : (m : Mode) (o : Outcome) → m ≡ is_open
    → o ≡ elim m as (λ x. Outcome) [ is_failed ↦ Failed | is_aborted ↦ Aborted | is_held ↦ Held | is_open ↦ o ]
when_open m o e = rw e refl

pub open_counted : (queue : List ℕ) (c : Counts) (o : Outcome) → c.mode ≡ is_open → o ≡ open_outcome_by queue c → o ≡ outcome_by queue c
open_counted queue c o mode is = is ∙ when_open c.mode (open_outcome_by queue c) mode

-- the front fails
pub fail_ended : (t : Task) (front : ℕ) (e : Engine) → HasFailed t front e → AFailEnds → AnEventIsOfTheFront → (q : Proc)
    → e.planner.entry ≡ Fail q → (new : Engine) (n : ℕ) → IsNotedThere (Fail q) front e.hall new.hall n → new.made ≡ e.made
    → HasEnded t new Failed
fail_ended t front e m law of_front q is new n noted made =
    let r = m.moves_front.reached in
    let f : Event = m.moves_front.goes.goes.event in
    let kind : m.move.entry ≡ Fail q = m.tells ∙ is in
    let ended = law (setting t) e.hall.words.items e.queue.items front (counts_of t e) r.events r.at r.book m.move m.after q r.stands
    m.moves_front.is_front m.moves_front.goes kind in
    let event = of_front (setting t) e.hall.words.items e.queue.items front (counts_of t e) r.events r.at r.book m.move m.after r.stands
    m.moves_front.is_front m.moves_front.goes in
    let log : new.hall.log.items ≡ e.hall.log.items ++ Fail q ∷ [] =
    noted.is_added.log ∙ ap (λ (x : Entry). e.hall.log.items ++ x ∷ []) noted.bare.entry_is in
    record {
      events = r.events ++ f ∷ [];
      last = ended.last;
      run = ended.run;
      outcome = let mode = ended.mode in rw mode refl;
      log = log_more e.hall.log.items new.hall.log.items (Fail q) r.events f r.log log (event.has ∙ kind);
      few =
          let a = ap length log ∙ length_more e.hall.log.items (Fail q) in
          let b = r.rest.few in let c = r.rest.room in let d = m.moves_front.is_front.moves in
          omega arith;
      reached = ap (λ (k : ℕ). k + length ended.last.controls) made ∙ all_controls t.controls.now ended.last.controls e.made
          r.rest.within (ap length ended.left ∙ length-drop e.made t.controls.now);
    }

ordered : (t : Task) → IsOrdered (first_state t)
ordered t = start_ordered (vars t) (started_goals t.loaded.now t.goal.now.0)

-- the run of an engine that ended is that of one worker
pub run_alone : (t : Task) (e : Engine) (o : Outcome) → HasEnded t e o → OneWorkerRunsEnd → (r : Run) → r.log.items ≡ e.hall.log.items
    → r.outcome ≡ o → r.reached ≡ e.made → IsAlone t r
run_alone t e o h law r log outcome reached = record {
  events = h.events;
  last = h.last;
  run = h.run;
  log = log ∙ h.log;
  outcome = subst (Ends (program t) t.limits (first_state t) h.events) (sym h.outcome ∙ sym outcome)
      (law (program t) t.limits (first_state t) t.controls.now h.events h.last (ordered t) refl h.run);
  reached = ap (λ (n : ℕ). n + length h.last.controls) reached ∙ h.reached;
}

-- and its log is a run within the limits
pub run_log : (t : Task) (e : Engine) (o : Outcome) → IsTask t → HasEnded t e o → OneWorkerRunsAreRuns → (r : Run)
    → r.log.items ≡ e.hall.log.items → HasLog t r
run_log t e o task h law r log =
    let lawful = law (program t) t.limits (first_state t) t.controls.now h.events h.last (ordered t) refl task.lawful h.run in
    record {
      events = h.events;
      run = subst (λ (es : List Entry). IsRun (program t) (first_state t) es h.events) (sym (log ∙ h.log)) lawful.legal;
      cells = lawful.within.cells;
      few = let a = ap length log in let b = h.few in let c = task.moves in omega arith;
    }
