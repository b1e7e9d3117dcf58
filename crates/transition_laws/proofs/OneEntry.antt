-- What an entry does to the configuration.
use Rattle.std.proofs.Common.{◌≡◌, ℕ, suc, List, [], ◌++◌, map, Some, refl, ap, ◌∙◌}
use Rattle.fcp_model.specs.declared.run.Entry.{Entry}
use Rattle.fcp_model.specs.declared.run.Act.{Act}
use Rattle.fcp_model.specs.declared.run.Act.TheVariants as act
use Rattle.fcp_model.specs.Places.{placed, places_among}
use Rattle.fcp_model.specs.Programs.{Goal, Program, rename_goal}
use Rattle.fcp_model.specs.Decisions.{Decision, commits, decides_fail, waits_on}
use Rattle.fcp_model.specs.States.{Process, State, is_finished, start}
use Rattle.fcp_model.specs.Cells.{clause_used}
use Rattle.fcp_model.specs.Events.{Event, body_of, children_of, event_of, control_event}
use Rattle.fcp_model.specs.Bounds.{act_entry}
use Rattle.fcp_model.specs.OneWorker.{mode_after}
use Rattle.fcp_model.specs.Runs.{next}
use Rattle.fcp_model.specs.LawfulStates.{IsOrdered}
use Rattle.transition_laws.specs.Transitions.{live_goals, configuration}
use Rattle.transition_laws.specs.Laws.{IsLiveGoal, IsTransition}
use Rattle.transition_laws.proofs.NextEvents.{IsMover, by_next}
use Rattle.transition_laws.proofs.Tries.{reduces_by, fails_so, waits_not_reduces, waits_not_fails}
use Rattle.transition_laws.proofs.LiveGoals.{live_append, live_children, committed, IsAmong, among, hung_goals}

pub start_is : (vars : ℕ) (gs : List (Goal ℕ)) →
    configuration (start vars gs) ≡ record { goals = map (rename_goal (placed 0)) gs; bound = [] }
start_is vars gs = ap (λ hs. record { goals = hs; bound = [] }) (live_children 0 1 (map (rename_goal (placed 0)) gs))

module _ (n : ℕ) (m : Program) (s : State) (ordered : IsOrdered s) (p : Process) where
  live_mover : (d : Decision) → IsMover n m s p d → IsLiveGoal s p.name p.goal
  live_mover d g = record { process = p; named = g.named; is_live = ap is_finished g.at_ready; goal = refl }

  pub move_is : (d : Decision) → IsMover n m s p d → IsTransition m s (event_of m s p d).entry (event_of m s p d)
  move_is (commits k bs rs) g =
      let h : IsAmong p bs s.processes = among p bs g.at_ready s.processes ordered.rise g.named in
      let c = clause_used m p.goal k in
      let body = map (rename_goal (placed (suc s.entries))) (body_of c) in
      record {
        reduction = record {
          front = h.front;
          goal = p.goal;
          back = h.back;
          goals_before = h.before;
          clause = k;
          bindings = bs;
          body = body_of c;
          reduction = reduces_by n m s.bound p.goal k bs rs g.decided;
          goals_after = live_append (map (committed p.name bs) s.processes) (children_of (suc s.entries) c)
              ∙ (ap (λ gs. gs ++ live_goals (children_of (suc s.entries) c)) h.after
              ∙ ap (λ gs. h.front ++ h.back ++ gs) (live_children (suc s.entries) 1 body));
          bound_after = refl;
        };
        is_live = live_mover (commits k bs rs) g;
        clause = refl;
        bindings = refl;
      }
  move_is (waits_on rs) g = record {
    goal = p.goal;
    is_live = live_mover (waits_on rs) g;
    no_reduction = waits_not_reduces m s.bound p.goal (rs, (n, g.decided));
    no_failure = waits_not_fails m s.bound p.goal (rs, (n, g.decided));
    stays = ap (λ gs. record { goals = gs; bound = s.bound })
        (hung_goals p g.at_ready (places_among rs) s.processes ordered.rise g.named);
  }
  move_is (decides_fail rs) g =
      let h : IsAmong p [] s.processes = among p [] g.at_ready s.processes ordered.rise g.named in
      record {
        failure =
            record { front = h.front; goal = p.goal; back = h.back; goals = h.before; failure = fails_so n m s.bound p.goal rs g.decided };
        is_live = live_mover (decides_fail rs) g;
        stays = refl;
      }

control_is : (m : Program) (s : State) (a : Act) →
    IsTransition m s (act_entry a) (control_event s (act_entry a) (mode_after a s.mode))
control_is m s act.Snapshot = refl
control_is m s act.Suspend = refl
control_is m s act.Resume = refl
control_is m s act.Abort = refl

pub is_transition : (n : ℕ) (m : Program) (s : State) (e : Entry) (ev : Event) → IsOrdered s → next n m s e ≡ Some ev →
    IsTransition m s e ev
is_transition n m s e ev h i =
    by_next n m s (λ e' ev'. IsTransition m s e' ev')
    (record { at_move = λ p d g. move_is n m s h p d g; at_control = λ a f. control_is m s a }) e ev i
