-- The next entry of a run is made again, or memory runs out.
use Rattle.std.proofs.Common.{◌≡◌, ℕ, List, [], ◌∷◌, ◌++◌, length, sym, ap, ◌∙◌, subst, arith}
use Rattle.std.proofs.lemmas.Bool.{false≢true}
use Rattle.fcp_model.specs.declared.run.Entry.{Entry}
use Rattle.fcp_model.specs.States.{State}
use Rattle.fcp_model.specs.Events.{Event}
use Rattle.fcp_model.specs.Runs.{last_state, entries_of}
use Rattle.fcp_model.specs.LawfulStates.{IsLawfulState}
use Rattle.fcp_model.specs.Translation.{started_goals}
use Rattle.fcp_laws.specs.Laws.{ALogHasOneHistory}
use Rattle.state_laws.specs.Laws.{EveryStateIsLawful}
use Rattle.transition_laws.specs.Laws.{ANextEntryIsAllowedAndDecided}
use Rattle.log_replay.specs.declared.replay.Replay.{Replay}
use Rattle.log_replay.specs.declared.answer.Why.{Why}
use Rattle.log_replay.specs.declared.answer.Why.TheVariants as why
use Rattle.log_replay.specs.declared.answer.Stepped.TheVariants as answer
use Rattle.log_replay.specs.Replays.{IsNext, IsDone, StepSays, StandsBy, Shows}
use Rattle.worker_crew.specs.declared.task.Task.{Task}
use Rattle.worker_crew.specs.Tasks.{program, first_state, IsTask}
use Rattle.run_report.specs.Parts.{IsMade, Follows}
use Rattle.run_report.proofs.FirstEvents.{one_taken}

-- a replay behind some events of a task's run stands by the task's code
pub stands_by : (t : Task) (evs : List Event) (r : Replay) → IsTask t → IsMade t evs r → StandsBy t.code.now r
stands_by t evs r task made = record {
  standing = record { program = program t; from = first_state t; cells = t.limits.cells; events = evs; replayed = made };
  code = task.code;
}

-- each state behind such events is lawful
pub lawful_behind : (t : Task) (evs : List Event) → IsTask t → EveryStateIsLawful → (r : Replay) → IsMade t evs r
    → IsLawfulState (program t) (last_state (first_state t) evs)
lawful_behind t evs task law r made =
    law (program t) (length t.goal.now.0.names) (started_goals t.loaded.now t.goal.now.0) (entries_of evs) evs task.closed task.laid.numbered
    made.run

module _ (t : Task) (evs : List Event) (e : Entry) (ev : Event) (follows : Follows t evs e ev) where
  abbrev s : State
  s = last_state (first_state t) evs

  -- an entry has one event
  same_event : ALogHasOneHistory → (other : Event) → IsNext (program t) s e other → other ≡ ev
  same_event history other next =
      let one =
      history (program t) s (e ∷ []) (other ∷ []) (ev ∷ []) (one_taken next.0 (program t) s e other next.1)
      (one_taken follows.is_next.0 (program t) s e ev follows.is_next.1) in
      cc

  pub never_wrong : ANextEntryIsAllowedAndDecided → (w : Why) (new : Replay)
      → StepSays (program t) (first_state t) t.limits.cells evs e new (answer.Wrong w) → ⊥
  never_wrong allowed why.State new h =
      false≢true (sym h.0 ∙ ((allowed (program t) s e).0 (ev, follows.is_next)).0)
  never_wrong allowed why.Answer new h = h.1 ((allowed (program t) s e).0 (ev, follows.is_next)).1

  pub never_spent : ALogHasOneHistory → (needed left : ℕ) (new : Replay)
      → StepSays (program t) (first_state t) t.limits.cells evs e new (answer.Spent needed left) → ⊥
  never_spent history needed left new h =
      let same = ap (λ (x : Event). x.cells) (same_event history h.0.event h.0.is_next) in
      omega (arith, same, h.0.costs, h.0.rest, h.0.over, follows.within)

  pub made_again : ALogHasOneHistory → (new : Replay) → IsDone (program t) (first_state t) t.limits.cells evs e new
      → IsMade t (evs ++ ev ∷ []) new × Shows ev new
  made_again history new done =
      let same = same_event history done.event done.is_next in
      (subst (λ (x : Event). IsMade t (evs ++ x ∷ []) new) same done.replayed, subst (λ (x : Event). Shows x new) same done.shows)
