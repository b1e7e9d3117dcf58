-- The texts of an event more.
use Rattle.std.proofs.Common.{◌≡◌, ℕ, List, [], ◌∷◌, ◌++◌, Option, Some, refl, sym, ap, ◌∙◌, append-nil}
use Rattle.std.specs.Prelude.{codes}
use Rattle.fcp_model.specs.declared.run.Entry.{Entry}
use Rattle.fcp_model.specs.declared.run.Entry.TheVariants.{Commit, Hang, Fail, Snapshot, Suspend, Resume, Abort}
use Rattle.fcp_model.specs.Programs.{Program}
use Rattle.fcp_model.specs.States.{State}
use Rattle.fcp_model.specs.Events.{Event}
use Rattle.fcp_model.specs.Spelling.{Bytes}
use Rattle.fcp_model.specs.LogText.{both_texts, event_line, event_lines}
use Rattle.fcp_model.specs.ReportText.{NamedTerm, variable_lines, process_lines, snapshot_text, snapshots_at, snapshot_texts}
use Rattle.entry_lines.specs.Additions.{Adds}
use Rattle.report_laws.specs.Lines.{snapshot_line}
use Rattle.report_laws.proofs.AddedLines.{adds_known, adds_both, both_assoc, both_nothing}

-- what each event gives, one after another, with an event more
more : (f : Event → Option Bytes) (all : List Event → Option Bytes) → all [] ≡ Some []
    → ((ev : Event) (evs : List Event) → all (ev ∷ evs) ≡ both_texts (f ev) (all evs)) → (evs : List Event) (ev : Event)
    → both_texts (all evs) (f ev) ≡ all (evs ++ ev ∷ [])
more f all none one [] ev =
    ap (λ o. both_texts o (f ev)) none ∙ (both_nothing (f ev) ∙ (ap (both_texts (f ev)) (sym none) ∙ sym (one ev [])))
more f all none one (e ∷ evs) ev =
    ap (λ o. both_texts o (f ev)) (one e evs)
    ∙ (both_assoc (f e) (all evs) (f ev) ∙ (ap (both_texts (f e)) (more f all none one evs ev) ∙ sym (one e (evs ++ ev ∷ []))))

-- the line of an event more
pub line_added : (names : List Bytes) (evs : List Event) (ev : Event) (head old new : Bytes)
    → Adds head old (λ n. event_lines n names evs) → Adds old new (λ n. event_line n names ev)
    → Adds head new (λ n. event_lines n names (evs ++ ev ∷ []))
line_added names evs ev head old new a b =
    adds_both _ _ _ head old new a b (λ n. more (event_line n names) (event_lines n names) refl (λ e es. refl) evs ev)

module _ (names : List Bytes) (variables : List NamedTerm) (m : Program) where
  pub snapshot_added : (evs : List Event) (ev : Event) (head old new : Bytes) → Adds head old (λ n. snapshot_texts n names variables m evs)
      → Adds old new (λ n. snapshots_at n names variables m ev.after ev.entry)
      → Adds head new (λ n. snapshot_texts n names variables m (evs ++ ev ∷ []))
  snapshot_added evs ev head old new a b =
      adds_both _ _ _ head old new a b
      (λ n. more (λ e. snapshots_at n names variables m e.after e.entry) (snapshot_texts n names variables m) refl (λ e es. refl) evs ev)

  pub nothing_added : (s : State) (e : Entry) (text : Bytes) → (e ≡ Snapshot → ⊥)
      → Adds text text (λ n. snapshots_at n names variables m s e)
  nothing_added s e text other = record { added = []; behind = sym (append-nil text); given = (0, λ k h. none k e other) }
    where
      none : (n : ℕ) (e : Entry) → (e ≡ Snapshot → ⊥) → snapshots_at n names variables m s e ≡ Some []
      none n (Commit p k) h = refl
      none n (Hang p) h = refl
      none n (Fail p) h = refl
      none n Snapshot h = absurd (h refl)
      none n Suspend h = refl
      none n Resume h = refl
      none n Abort h = refl

  pub snapshot_written : (s : State) (old shown told : Bytes)
      → Adds (old ++ snapshot_line s.entries) shown (λ n. variable_lines n names s.bound variables)
      → Adds shown told (λ n. process_lines n names m s.bound s.processes)
      → Adds old (told ++ codes "done\n") (λ n. snapshot_text n names variables m s)
  snapshot_written s old shown told a b =
      adds_both (λ n. Some (snapshot_line s.entries)) _ _ old (old ++ snapshot_line s.entries) (told ++ codes "done\n")
      (adds_known _ old (snapshot_line s.entries) (λ n. refl))
      (adds_both (λ n. variable_lines n names s.bound variables) _ _ _ shown _ a
      (adds_both (λ n. process_lines n names m s.bound s.processes) (λ n. Some (codes "done\n")) _ shown told _ b
      (adds_known _ told (codes "done\n") (λ n. refl)) (λ n. refl)) (λ n. refl)) (λ n. refl)
