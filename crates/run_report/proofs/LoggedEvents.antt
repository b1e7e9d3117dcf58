-- The events of the log of a run, and of its first entries.
use Rattle.std.proofs.Common.{◌≡◌, ℕ, ◌≤◌, List, length, take, sym, subst, length-take, arith}
use Rattle.std.proofs.lemmas.List.Sums.{sum_by-take-le}
use Rattle.fcp_model.specs.declared.run.Entry.{Entry}
use Rattle.fcp_model.specs.Events.{Event}
use Rattle.fcp_model.specs.Runs.{IsRun}
use Rattle.log_replay.specs.declared.replay.Replay.{Replay}
use Rattle.worker_crew.specs.declared.task.Task.{Task}
use Rattle.worker_crew.specs.declared.task.Run.{Run}
use Rattle.worker_crew.specs.Tasks.{program, first_state, HasLog}
use Rattle.run_report.specs.Parts.{HasEvents, IsMade, HasMade}
use Rattle.run_report.proofs.FirstEvents.{run_of_first, length_of_run}

pub has_events : (t : Task) (r : Run) (log : List Entry) → HasLog t r → log ≡ r.log.items → HasEvents t log
has_events t r log h is = subst (HasEvents t) (sym is) record { events = h.events; run = h.run; cells = h.cells; few = h.few }

pub has_first_events : (t : Task) (log : List Entry) (k : ℕ) → HasEvents t log → HasEvents t (take k log)
has_first_events t log k h = record {
  events = take k h.events;
  run = run_of_first (program t) (first_state t) log h.events k h.run;
  cells = omega (arith, sum_by-take-le (λ (x : Event). x.cells) h.events k, h.cells);
  few = omega (arith, length-take k log, h.few);
}

-- the first entries of a log that is written elsewhere
pub run_of_slice : (t : Task) (log slice : List Entry) (evs : List Event) (k : ℕ) → slice ≡ log → IsRun (program t) (first_state t) log evs
    → IsRun (program t) (first_state t) (take k slice) (take k evs)
run_of_slice t log slice evs k is run =
    run_of_first (program t) (first_state t) slice evs k (subst (λ es. IsRun (program t) (first_state t) es evs) (sym is) run)

-- so many entries have so many events
pub length_of_first : (t : Task) (log : List Entry) (evs : List Event) (k : ℕ) → IsRun (program t) (first_state t) log evs → k ≤ length log
    → length (take k evs) ≡ k
length_of_first t log evs k run most =
    omega (arith, length-take k evs, length_of_run run.0 (program t) (first_state t) log evs run.1, most)

pub has_made : (t : Task) (log : List Entry) (evs : List Event) (k : ℕ) (r : Replay) → IsRun (program t) (first_state t) log evs
    → k ≤ length log → IsMade t (take k evs) r → HasMade t k r
has_made t log evs k r run most made = record {
  events = take k evs;
  made = made;
  count = length_of_first t log evs k run most;
}
