-- How the text of a report grows: a line for each event, and a snapshot where one is asked for; then the end, the outcome, the lines of
-- variables, those of the controls that were not reached, and the snapshots.
use Rattle.std.specs.Prelude.{◌≡◌, ℕ, List, [], ◌∷◌, ◌++◌, drop, codes}
use Rattle.fcp_model.specs.declared.run.Control.{Control}
use Rattle.fcp_model.specs.declared.run.Entry.{Entry}
use Rattle.fcp_model.specs.declared.run.Entry.TheVariants.{Snapshot}
use Rattle.fcp_model.specs.declared.run.Outcome.{Outcome}
use Rattle.fcp_model.specs.Programs.{Program}
use Rattle.fcp_model.specs.States.{State}
use Rattle.fcp_model.specs.Events.{Event}
use Rattle.fcp_model.specs.Runs.{last_state}
use Rattle.fcp_model.specs.Spelling.{Bytes}
use Rattle.fcp_model.specs.LogText.{log_head, event_line, event_lines}
use Rattle.fcp_model.specs.LogLines.{end_line, outcome_line}
use Rattle.fcp_model.specs.ReportText.{NamedTerm, variable_lines, process_lines, not_reached_lines}
use Rattle.fcp_model.specs.ReportText.{snapshot_text, snapshots_at, snapshot_texts, report_text}
use Rattle.entry_lines.specs.Additions.{Gives, Adds}
use Rattle.report_laws.specs.Lines.{snapshot_line}

-- the line of an event more
abbrev pub ALineIsAdded : Type 0
ALineIsAdded = (names : List Bytes) (evs : List Event) (ev : Event) (head old new : Bytes) → Adds head old (λ n. event_lines n names evs)
    → Adds old new (λ n. event_line n names ev) → Adds head new (λ n. event_lines n names (evs ++ ev ∷ []))

-- what stands for an event more among the snapshots
abbrev pub ASnapshotIsAdded : Type 0
ASnapshotIsAdded = (names : List Bytes) (variables : List NamedTerm) (m : Program) (evs : List Event) (ev : Event) (head old new : Bytes)
    → Adds head old (λ n. snapshot_texts n names variables m evs) → Adds old new (λ n. snapshots_at n names variables m ev.after ev.entry)
    → Adds head new (λ n. snapshot_texts n names variables m (evs ++ ev ∷ []))

-- an entry that asks for no snapshot adds nothing
abbrev pub OtherEntriesAddNothing : Type 0
OtherEntriesAddNothing = (names : List Bytes) (variables : List NamedTerm) (m : Program) (s : State) (e : Entry) (text : Bytes)
    → (e ≡ Snapshot → ⊥) → Adds text text (λ n. snapshots_at n names variables m s e)

-- the first line, the lines of the variables and of the processes, and `done` are the snapshot of a state
abbrev pub ASnapshotIsWritten : Type 0
ASnapshotIsWritten = (names : List Bytes) (variables : List NamedTerm) (m : Program) (s : State) (old shown told : Bytes)
    → Adds (old ++ snapshot_line s.entries) shown (λ n. variable_lines n names s.bound variables)
    → Adds shown told (λ n. process_lines n names m s.bound s.processes)
    → Adds old (told ++ codes "done\n") (λ n. snapshot_text n names variables m s)

-- the lines of the events, the end of the log, the outcome, the lines of the variables in the last state, those of the controls that were
-- not reached, and the snapshots, which are a text of their own, are the report
abbrev pub AReportIsWritten : Type 0
AReportIsWritten = (names : List Bytes) (variables : List NamedTerm) (m : Program) (from : State) (evs : List Event) (o : Outcome)
    (controls : List Control) (reached : ℕ) (log shown snapshots : Bytes) → Adds log_head log (λ n. event_lines n names evs)
    → Adds (log ++ end_line (last_state from evs).entries ++ outcome_line o) shown
    (λ n. variable_lines n names (last_state from evs).bound variables)
    → Adds [] snapshots (λ n. snapshot_texts n names variables m evs)
    → Gives (λ n. report_text n names variables m from evs o controls reached)
    (shown ++ not_reached_lines (drop reached controls) ++ snapshots)
