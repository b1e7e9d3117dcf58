-- What is put after the texts of a report.
use Rattle.std.proofs.Common.{◌≡◌, ℕ, ◌+◌, ◌<◌, ◌≤◌, List, [], ◌∷◌, ◌++◌, length, drop, get_or, Result, Ok, Err}
use Rattle.std.proofs.Common.{refl, sym, ap, ◌∙◌, subst, append_assoc, append-nil, add-one, drop-cons}
use Rattle.std.specs.Prelude.{codes, decimal, Option, OnOk}
use Rattle.std.proofs.lemmas.List.{drop_all}
use Rattle.fcp_model.specs.declared.run.Control.{Control}
use Rattle.fcp_model.specs.declared.run.Entry.{Entry}
use Rattle.fcp_model.specs.declared.run.Entry.TheVariants.{Snapshot}
use Rattle.fcp_model.specs.States.{State}
use Rattle.fcp_model.specs.Events.{Event}
use Rattle.fcp_model.specs.Runs.{last_state}
use Rattle.fcp_model.specs.Spelling.{Bytes}
use Rattle.fcp_model.specs.ReportText.{variable_lines, process_lines, act_word, not_reached_lines, snapshot_text, snapshots_at}
use Rattle.entry_lines.specs.Additions.{Gives, Adds}
use Rattle.log_replay.specs.declared.replay.Replay.{Replay}
use Rattle.log_replay.proofs.RunsOn.{last_on}
use Rattle.report_laws.specs.Lines.{snapshot_line}
use Rattle.report_laws.specs.Laws.{ASnapshotIsWritten}
use Rattle.worker_crew.specs.declared.task.Task.{Task}
use Rattle.worker_crew.specs.Tasks.{program, first_state}
use Rattle.run_report.specs.Texts.{variables}
use Rattle.run_report.specs.Parts.{IsMade, AddsSnapshot}

-- where the answer is Ok, what is so says what is wanted
pub where_ok : {T E P Q : Type 0} (r : Result T E) → (P → Q) → OnOk r P → OnOk r Q
where_ok (Ok x) f h = f h
where_ok (Err e) f h = tt

-- what was put after nothing
pub alone : (f : ℕ → Option Bytes) (old new : Bytes) → old ≡ [] → Adds old new f → Gives f new
alone f old new e a = subst (Gives f) (sym (a.behind ∙ ap (λ x. x ++ a.added) e)) a.given

-- five texts behind an old one
joined : (old a b c d e : Bytes) → old ++ a ++ b ++ c ++ d ++ e ≡ old ++ (a ++ b ++ c ++ d ++ e ++ [])
joined old a b c d e = simp (append_assoc, append-nil) refl

-- the line of a control that was not reached
pub left_put : (c : Control) (old one two three four five : Bytes) → one ≡ old ++ codes "not reached after " → two ≡ one ++ decimal c.after
    → three ≡ two ++ codes " " → four ≡ three ++ act_word c.act → five ≡ four ++ codes "\n" → five ≡ old ++ not_reached_lines (c ∷ [])
left_put c old one two three four five p q r s t =
    t
    ∙ (ap (λ x. x ++ codes "\n") (s ∙ ap (λ x. x ++ act_word c.act) (r ∙ ap (λ x. x ++ codes " ") (q ∙ ap (λ x. x ++ decimal c.after) p)))
    ∙ joined old (codes "not reached after ") (decimal c.after) (codes " ") (act_word c.act) (codes "\n"))

module _ (controls : List Control) (i : ℕ) (had : Bytes) where
  -- and the lines of those behind it are still to come
  pub left_more : (new all : Bytes) (c : Control) → i < length controls → new ≡ had ++ not_reached_lines (get_or controls i c ∷ [])
      → had ++ not_reached_lines (drop i controls) ≡ all → new ++ not_reached_lines (drop (i + 1) controls) ≡ all
  left_more new all c below put h =
      let there : drop i controls ≡ get_or controls i c ∷ drop (i + 1) controls =
      drop-cons controls i c below ∙ ap (λ k. get_or controls i c ∷ drop k controls) (sym (add-one i)) in
      ap (λ x. x ++ not_reached_lines (drop (i + 1) controls)) put
      ∙ (split (get_or controls i c) (drop (i + 1) controls) ∙ (ap (λ x. had ++ not_reached_lines x) (sym there) ∙ h))
    where
      split : (d : Control) (ds : List Control)
          → (had ++ not_reached_lines (d ∷ [])) ++ not_reached_lines ds ≡ had ++ not_reached_lines (d ∷ ds)
      split d ds =
          let line : Bytes = codes "not reached after " ++ decimal d.after ++ codes " " ++ act_word d.act ++ codes "\n" in
          ap (λ x. (had ++ x) ++ not_reached_lines ds) (append-nil line) ∙ append_assoc had line (not_reached_lines ds)

  pub left_all : (old : Bytes) → length controls ≤ i → had ++ not_reached_lines (drop i controls) ≡ old ++ not_reached_lines controls
      → had ≡ old ++ not_reached_lines controls
  left_all old most h = sym (append-nil had) ∙ (ap (λ x. had ++ not_reached_lines x) (sym (drop_all i controls most)) ∙ h)

module _ (names : List Bytes) (t : Task) where
  -- the lines of a snapshot are the snapshot of the state behind the events that were made again
  pub snapshot_put : (evs : List Event) (r : Replay) (entries : ℕ) (old headed shown told new : Bytes) → IsMade t evs r
      → length evs ≡ entries → ASnapshotIsWritten → headed ≡ old ++ snapshot_line entries
      → Adds headed shown (λ n. variable_lines n names (last_state (first_state t) evs).bound (variables t))
      → Adds shown told
      (λ n. process_lines n names (program t) (last_state (first_state t) evs).bound (last_state (first_state t) evs).processes)
      → new ≡ told ++ codes "done\n" → AddsSnapshot names t evs old new
  snapshot_put evs r entries old headed shown told new made count law head a b done =
      let s : State = last_state (first_state t) evs in
      let is : headed ≡ old ++ snapshot_line s.entries =
      head ∙ ap (λ k. old ++ snapshot_line k) (sym (made.entries ∙ count)) in
      subst (λ (x : Bytes). AddsSnapshot names t evs old x) (sym done)
      (law names (variables t) (program t) s old shown told
      (subst (λ (x : Bytes). Adds x shown (λ n. variable_lines n names s.bound (variables t))) is a) b)

  -- it is what an entry that asks for one adds
  pub snapshot_there : (evs : List Event) (ev : Event) (old new : Bytes) → ev.entry ≡ Snapshot
      → AddsSnapshot names t (evs ++ ev ∷ []) old new
      → Adds old new (λ n. snapshots_at n names (variables t) (program t) ev.after ev.entry)
  snapshot_there evs ev old new is put =
      subst (λ (e : Entry). Adds old new (λ n. snapshots_at n names (variables t) (program t) ev.after e)) (sym is)
      (subst (λ (s : State). Adds old new (λ n. snapshot_text n names (variables t) (program t) s)) (last_on (first_state t) evs ev) put)
