-- Each event of an ordered state leaves an ordered state.
use Rattle.std.proofs.Common.{◌≡◌, ℕ, suc, ◌<◌, ◌≤◌, List, map, Some, ◌∙◌, arith}
use Rattle.fcp_model.specs.declared.run.Entry.{Entry}
use Rattle.fcp_model.specs.Places.{places_among}
use Rattle.fcp_model.specs.Programs.{Program}
use Rattle.fcp_model.specs.Decisions.{Decision, commits, decides_fail, waits_on}
use Rattle.fcp_model.specs.States.{waiting, finished, Process, State, Mode}
use Rattle.fcp_model.specs.Cells.{clause_used}
use Rattle.fcp_model.specs.Events.{Event, with_status, children_of, event_of}
use Rattle.fcp_model.specs.OneWorker.{mode_after}
use Rattle.fcp_model.specs.Runs.{next}
use Rattle.fcp_model.specs.LawfulStates.{NamesWithin, IsOrdered}
use Rattle.fcp_laws.proofs.ProcessNames.{each_map, rise_map, each_so, each_append}
use Rattle.fcp_laws.proofs.WaitingProcesses.{with_status-name, wake-name}
use Rattle.fcp_laws.proofs.QueueMoves.{rise_append, children_entry, children_rise}
use Rattle.transition_laws.proofs.NextEvents.{by_next}
use Rattle.transition_laws.proofs.LiveGoals.{committed}

within_more : (n : ℕ) (ps : List Process) → NamesWithin n ps → NamesWithin (suc n) ps
within_more n ps h = each_so (λ q. q.name.entry ≤ n) (λ q. q.name.entry ≤ suc n) (λ q i. omega arith) ps h

after_move : (m : Program) (s : State) (p : Process) (d : Decision) → IsOrdered s → IsOrdered (event_of m s p d).after
after_move m s p (commits k bs rs) h = record {
  rise =
      rise_append e (map f s.processes) new (each_map f keeps (λ n. n.entry ≤ e) s.processes h.within)
      (children_entry (λ n. e < n) (suc e) 1 _ (omega arith))
      (rise_map f keeps s.processes h.rise) (children_rise (suc e) 1 _);
  within =
      each_append (λ q. q.name.entry ≤ suc e) (map f s.processes) new
      (each_map f keeps (λ n. n.entry ≤ suc e) s.processes (within_more e s.processes h.within))
      (children_entry (λ n. n ≤ suc e) (suc e) 1 _ (omega arith));
}
  where
    e : ℕ
    e = s.entries

    f : Process → Process
    f q = committed p.name bs q

    keeps : (q : Process) → (f q).name ≡ q.name
    keeps q = wake-name bs (with_status p.name finished q) ∙ with_status-name p.name finished q

    new : List Process
    new = children_of (suc e) (clause_used m p.goal k)
after_move m s p (waits_on rs) h = record {
  rise = rise_map f keeps s.processes h.rise;
  within = each_map f keeps (λ n. n.entry ≤ suc s.entries) s.processes (within_more s.entries s.processes h.within);
}
  where
    f : Process → Process
    f q = with_status p.name (waiting (places_among rs)) q

    keeps : (q : Process) → (f q).name ≡ q.name
    keeps q = with_status-name p.name (waiting (places_among rs)) q
after_move m s p (decides_fail rs) h = record { rise = h.rise; within = within_more s.entries s.processes h.within }

pub ordered_after : (n : ℕ) (m : Program) (s : State) (e : Entry) (ev : Event) → IsOrdered s → next n m s e ≡ Some ev → IsOrdered ev.after
ordered_after n m s e ev h i =
    by_next n m s (λ e' ev'. IsOrdered ev'.after)
    (record { at_move = λ p d g. after_move m s p d h; at_control = λ a f. one_more (mode_after a s.mode) }) e ev i
  where
    one_more : (mode : Mode) → IsOrdered (record s { entries = suc s.entries; mode = mode })
    one_more mode = record { rise = h.rise; within = within_more s.entries s.processes h.within }
