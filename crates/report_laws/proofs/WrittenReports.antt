-- The report of a run, from the texts of which it consists.
use Rattle.std.proofs.Common.{◌≡◌, ℕ, List, [], ◌++◌, drop, Some, refl, sym, ap, ◌∙◌, subst, append_assoc}
use Rattle.std.specs.Prelude.{codes, decimal}
use Rattle.fcp_model.specs.declared.run.Control.{Control}
use Rattle.fcp_model.specs.declared.run.Outcome.{Outcome}
use Rattle.fcp_model.specs.Programs.{Program}
use Rattle.fcp_model.specs.States.{State}
use Rattle.fcp_model.specs.Events.{Event}
use Rattle.fcp_model.specs.Runs.{last_state}
use Rattle.fcp_model.specs.Spelling.{Bytes}
use Rattle.fcp_model.specs.LogText.{log_head, event_lines, log_text}
use Rattle.fcp_model.specs.LogLines.{end_line, outcome_line}
use Rattle.fcp_model.specs.ReportText.{NamedTerm, variable_lines, not_reached_lines, snapshot_texts, report_text}
use Rattle.entry_lines.specs.Additions.{Gives, Adds}
use Rattle.report_laws.proofs.AddedLines.{gives_known, gives_both, gives_map}

-- the pieces of a report, as the definition and as the code put them together
arranged : (head lines ending number feed outcome shown left snapshots : Bytes)
    → (head ++ lines ++ ending ++ number ++ feed) ++ (outcome ++ (shown ++ (left ++ snapshots)))
    ≡ (((head ++ lines) ++ (ending ++ number ++ feed) ++ outcome) ++ shown) ++ left ++ snapshots
arranged head lines ending number feed outcome shown left snapshots = simp append_assoc refl

module _ (names : List Bytes) (variables : List NamedTerm) (m : Program) (from : State) (evs : List Event) (o : Outcome)
    (controls : List Control) (reached : ℕ) where
  abbrev last : ℕ
  last = (last_state from evs).entries

  abbrev left : Bytes
  left = not_reached_lines (drop reached controls)

  -- the whole text
  abbrev whole : Bytes → Bytes → Bytes → Bytes
  whole lines shown snapshots =
      (log_head ++ lines ++ codes "end " ++ decimal last ++ codes "\n") ++ (outcome_line o ++ (shown ++ (left ++ snapshots)))

  gives_whole : (lines shown snapshots : Bytes) → Gives (λ n. event_lines n names evs) lines
      → Gives (λ n. variable_lines n names (last_state from evs).bound variables) shown
      → Gives (λ n. snapshot_texts n names variables m evs) snapshots
      → Gives (λ n. report_text n names variables m from evs o controls reached) (whole lines shown snapshots)
  gives_whole lines shown snapshots f g h =
      gives_both (λ n. log_text n names log_head last evs) _ _ _
      (gives_map (λ n. event_lines n names evs) (λ x. log_head ++ x ++ codes "end " ++ decimal last ++ codes "\n") lines f)
      (gives_both (λ n. Some (outcome_line o)) _ _ _ (gives_known _)
      (gives_both (λ n. variable_lines n names (last_state from evs).bound variables) _ _ _ g
      (gives_both (λ n. Some left) (λ n. snapshot_texts n names variables m evs) _ _ (gives_known _) h)))

  pub written : (log shown snapshots : Bytes) → Adds log_head log (λ n. event_lines n names evs)
      → Adds (log ++ end_line last ++ outcome_line o) shown (λ n. variable_lines n names (last_state from evs).bound variables)
      → Adds [] snapshots (λ n. snapshot_texts n names variables m evs)
      → Gives (λ n. report_text n names variables m from evs o controls reached) (shown ++ left ++ snapshots)
  written log shown snapshots lines end taken =
      let same : whole lines.added end.added taken.added ≡ shown ++ left ++ snapshots =
      arranged log_head lines.added (codes "end ") (decimal last) (codes "\n") (outcome_line o) end.added left taken.added
      ∙ (ap (λ x. x ++ left ++ taken.added)
      (sym (end.behind ∙ ap (λ l. (l ++ end_line last ++ outcome_line o) ++ end.added) lines.behind))
      ∙ ap (λ x. shown ++ left ++ x) (sym taken.behind)) in
      subst (Gives (λ n. report_text n names variables m from evs o controls reached)) same
      (gives_whole lines.added end.added taken.added lines.given end.given taken.given)
