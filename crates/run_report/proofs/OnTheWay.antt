-- How far the entries of a log have come.
use Rattle.std.proofs.Common.{◌≡◌, ℕ, ◌+◌, ◌<◌, ◌≤◌, List, [], ◌∷◌, ◌++◌, length, drop, get_or, Some, refl, sym, ap, ◌∙◌, subst}
use Rattle.std.proofs.Common.{append_assoc, append-nil, add-one, drop-cons, arith}
use Rattle.std.proofs.lemmas.List.{drop_all}
use Rattle.std.proofs.lemmas.List.Sums.{sum_by-append, sum_by-cons}
use Rattle.std.proofs.lemmas.Option.{same_Some}
use Rattle.fcp_model.specs.declared.run.Entry.{Entry}
use Rattle.fcp_model.specs.declared.run.Entry.TheVariants.{Commit}
use Rattle.fcp_model.specs.Events.{Event}
use Rattle.fcp_model.specs.Runs.{replay, IsRun, last_state, cells_of}
use Rattle.log_replay.proofs.RunsOn.{last_on, length_on}
use Rattle.worker_crew.specs.declared.task.Task.{Task}
use Rattle.worker_crew.specs.Tasks.{program, first_state}
use Rattle.run_report.specs.Parts.{HasEvents, Follows}
use Rattle.run_report.proofs.FirstEvents.{first_taken}

-- what is read behind the end of a log
abbrev past_end : Entry
past_end = Commit (record { entry = 0; number = 0 }) 0

abbrev pub entry_at : List Entry → ℕ → Entry
entry_at log i = get_or log i past_end

-- These are the events of the first entries of the log, and others are left.
pub record IsOnTheWay (t : Task) (log : List Entry) (i : ℕ) (before : List Event) : Type 0 where
  pub left : List Event
  pub run : IsRun (program t) (last_state (first_state t) before) (drop i log) left
  pub whole : IsRun (program t) (first_state t) log (before ++ left)
  pub cells : cells_of (before ++ left) ≤ t.limits.cells
  pub count : length before ≡ i

-- The next entry has an event.
pub record GoesOn (t : Task) (log : List Entry) (i : ℕ) (before : List Event) (e : Entry) : Type 0 where
  pub event : Event
  pub follows : Follows t before e event
  pub way : IsOnTheWay t log (i + 1) (before ++ event ∷ [])

within_taken : (before : List Event) (ev : Event) (rest : List Event) (n : ℕ) → cells_of (before ++ ev ∷ rest) ≤ n
    → cells_of before + ev.cells ≤ n
within_taken before ev rest n h =
    let cells : Event → ℕ = λ x. x.cells in omega (arith, sum_by-append cells before (ev ∷ rest), sum_by-cons cells ev rest)

module _ (t : Task) (log : List Entry) where
  pub begins : HasEvents t log → IsOnTheWay t log 0 []
  begins h = record { left = h.events; run = h.run; whole = h.run; cells = h.cells; count = refl }

  pub goes_on : (i : ℕ) (before : List Event) → IsOnTheWay t log i before → i < length log → GoesOn t log i before (entry_at log i)
  goes_on i before h below =
      let e : Entry = entry_at log i in
      let there : drop i log ≡ e ∷ drop (i + 1) log =
      drop-cons log i past_end below ∙ ap (λ k. e ∷ drop k log) (sym (add-one i)) in
      let k = h.run.0 in
      let taken =
      first_taken k (program t) (last_state (first_state t) before) e (drop (i + 1) log) h.left
      (subst (λ es. replay k (program t) (last_state (first_state t) before) es ≡ Some h.left) there h.run.1) in
      let arranged : before ++ h.left ≡ (before ++ taken.event ∷ []) ++ taken.rest =
      ap (λ xs. before ++ xs) taken.is ∙ sym (append_assoc before (taken.event ∷ []) taken.rest) in
      record {
        event = taken.event;
        follows = record {
          is_next = (k, taken.first);
          within = within_taken before taken.event taken.rest t.limits.cells
              (subst (λ xs. cells_of (before ++ xs) ≤ t.limits.cells) taken.is h.cells);
        };
        way = record {
          left = taken.rest;
          run = (
            k,
            subst (λ s. replay k (program t) s (drop (i + 1) log) ≡ Some taken.rest)
                (sym (last_on (first_state t) before taken.event)) taken.behind,
          );
          whole = subst (IsRun (program t) (first_state t) log) arranged h.whole;
          cells = subst (λ xs. cells_of xs ≤ t.limits.cells) arranged h.cells;
          count = let a = length_on before taken.event in let b = h.count in omega arith;
        };
      }

  pub ends : (i : ℕ) (before : List Event) → IsOnTheWay t log i before → length log ≤ i → IsRun (program t) (first_state t) log before
  ends i before h most =
      let none : drop i log ≡ [] = drop_all i log most in
      let nothing : [] ≡ h.left =
      same_Some [] h.left (subst (λ es. replay h.run.0 (program t) (last_state (first_state t) before) es ≡ Some h.left) none h.run.1) in
      subst (IsRun (program t) (first_state t) log) (ap (λ xs. before ++ xs) (sym nothing) ∙ append-nil before) h.whole
