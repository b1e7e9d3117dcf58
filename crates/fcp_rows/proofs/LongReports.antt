-- The report of a longer run, line by line.
use Rattle.std.proofs.Common.{◌≡◌, ℕ, true, List, [], ◌∷◌, ◌++◌, drop, Option, Some, None, refl, ap, ◌∙◌}
use Rattle.std.specs.Prelude.{codes, decimal, is_some, option_map}
use Rattle.fcp_model.specs.declared.run.Outcome.{Outcome}
use Rattle.fcp_model.specs.declared.run.Control.{Control}
use Rattle.fcp_model.specs.Programs.{Program}
use Rattle.fcp_model.specs.States.{State}
use Rattle.fcp_model.specs.Events.{Event}
use Rattle.fcp_model.specs.Runs.{last_state}
use Rattle.fcp_model.specs.OneWorker.{Schedule}
use Rattle.fcp_model.specs.Spelling.{Bytes}
use Rattle.fcp_model.specs.LogText.{both_texts, event_line, event_lines, log_head, log_text}
use Rattle.fcp_model.specs.ReportText.{NamedTerm, outcome_word, variable_lines, not_reached_lines, snapshot_texts, report_text}
use Rattle.fcp_rows.specs.Examples.{lines}

-- what some rulings came to
abbrev pub events_of : Option (List Event × Schedule) → List Event
events_of None = []
events_of (Some r) = r.0

abbrev pub stand_of : Schedule → Option (List Event × Schedule) → Schedule
stand_of at None = at
stand_of at (Some r) = r.1

pub came_to : (at : Schedule) (o : Option (List Event × Schedule)) → is_some o ≡ true → o ≡ Some (events_of o, stand_of at o)
came_to at None e = cc
came_to at (Some r) e = refl

-- the lines of some events
abbrev pub AreLines : ℕ → List Bytes → List Event → List Bytes → Type 0
AreLines n names [] [] = Unit {0}
AreLines n names (ev ∷ evs) (l ∷ ls) = (event_line n names ev ≡ Some (l ++ codes "\n")) × AreLines n names evs ls
AreLines n names [] (l ∷ ls) = ⊥
AreLines n names (ev ∷ evs) [] = ⊥

both : (a b : Option Bytes) (x y : Bytes) → a ≡ Some x → b ≡ Some y → both_texts a b ≡ Some (x ++ y)
both a b x y e f = ap (λ o. both_texts o b) e ∙ ap (both_texts (Some x)) f

pub event_lines_are : (n : ℕ) (names : List Bytes) (evs : List Event) (ls : List Bytes) → AreLines n names evs ls
    → event_lines n names evs ≡ Some (lines ls)
event_lines_are n names [] [] h = refl
event_lines_are n names (ev ∷ evs) (l ∷ ls) h = both _ _ (l ++ codes "\n") (lines ls) h.0 (event_lines_are n names evs ls h.1)
event_lines_are n names [] (l ∷ ls) h = absurd h
event_lines_are n names (ev ∷ evs) [] h = absurd h

pub log_is : (n : ℕ) (names : List Bytes) (last : ℕ) (evs : List Event) (x : Bytes) → event_lines n names evs ≡ Some x
    → log_text n names log_head last evs ≡ Some (log_head ++ x ++ codes "end " ++ decimal last ++ codes "\n")
log_is n names last evs x e = ap (λ o. option_map (λ y. log_head ++ y ++ codes "end " ++ decimal last ++ codes "\n") o) e

-- the parts of a report, and the whole
pub record HasTexts (n : ℕ) (names : List Bytes) (variables : List NamedTerm) (m : Program) (s : State) (evs : List Event)
    (log vars snapshots : Bytes) : Type 0 where
  pub log_is : log_text n names log_head (last_state s evs).entries evs ≡ Some log
  pub vars_are : variable_lines n names (last_state s evs).bound variables ≡ Some vars
  pub snapshots_are : snapshot_texts n names variables m evs ≡ Some snapshots

pub report_is : (n : ℕ) (names : List Bytes) (variables : List NamedTerm) (m : Program) (s : State) (evs : List Event) (o : Outcome)
    (controls : List Control) (reached : ℕ)
    (log vars snapshots : Bytes) → HasTexts n names variables m s evs log vars snapshots
    → report_text n names variables m s evs o controls reached
    ≡ Some (log ++ ((codes "outcome " ++ outcome_word o ++ codes "\n")
    ++ (vars ++ (not_reached_lines (drop reached controls) ++ snapshots))))
report_is n names variables m s evs o controls reached log vars snapshots h =
    both _ _ log _ h.log_is
    (both _ _ (codes "outcome " ++ outcome_word o ++ codes "\n") _ refl
    (both _ _ vars _ h.vars_are (both _ _ (not_reached_lines (drop reached controls)) snapshots refl h.snapshots_are)))
