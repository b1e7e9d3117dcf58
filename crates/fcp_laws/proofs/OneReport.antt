-- A run has one outcome and one report.
use Rattle.std.proofs.Common.{◌≡◌, ℕ, ◌-◌, Bool, true, false, List, length, leb, Option, Some, sym, ◌∙◌, subst}
use Rattle.std.specs.Prelude.{MatchBool, ◌||◌}
use Rattle.std.specs.List.{list_all, list_any}
use Rattle.fcp_model.specs.declared.run.Limits.{Limits}
use Rattle.fcp_model.specs.declared.run.Control.{Control}
use Rattle.fcp_model.specs.declared.run.Outcome.{Outcome}
use Rattle.fcp_model.specs.declared.run.Outcome.TheVariants.{Failed, Aborted, Held, Terminated, Suspended, Budget, Full}
use Rattle.fcp_model.specs.declared.names.Sym.{Sym}
use Rattle.fcp_model.specs.Programs.{Program}
use Rattle.fcp_model.specs.States.{State, Mode, is_open, is_held, is_failed, is_aborted, is_ready, is_finished}
use Rattle.fcp_model.specs.Events.{Event}
use Rattle.fcp_model.specs.Runs.{last_state, entries_of, cells_of}
use Rattle.fcp_model.specs.Bounds.{commits_in, moves_in}
use Rattle.fcp_model.specs.OneWorker.{Schedule}
use Rattle.fcp_model.specs.Outcomes.{AllTooLarge, Ends}
use Rattle.fcp_model.specs.Spelling.{Bytes}
use Rattle.fcp_model.specs.ReportText.{NamedTerm, report_text}
use Rattle.fcp_model.specs.Reports.{IsOneWorkerReport}
use Rattle.fcp_laws.proofs.DeterminedRuns.{once, one_run}
use Rattle.fcp_laws.proofs.MoreReportSteps.{report_more}

-- what is said of the outcome of an open run, by three tests, and of that of any run, by its mode
abbrev IsOpenEnd : Bool → Bool → Bool → Type 0 → Outcome → Type 0
IsOpenEnd all_finished some_ready at_limit P o =
    MatchBool all_finished (o ≡ Terminated) (MatchBool some_ready (MatchBool at_limit (o ≡ Budget) ((o ≡ Full) × P)) (o ≡ Suspended))

abbrev IsEnd : Mode → Type 0 → Outcome → Type 0
IsEnd mode P o = elim mode [ is_failed ↦ o ≡ Failed | is_aborted ↦ o ≡ Aborted | is_held ↦ o ≡ Held | is_open ↦ P ]

one_open_end : (f r l : Bool) (P : Type 0) (o o' : Outcome) → IsOpenEnd f r l P o → IsOpenEnd f r l P o' → o ≡ o'
one_open_end true r l P o o' e e' = e ∙ sym e'
one_open_end false true true P o o' e e' = e ∙ sym e'
one_open_end false true false P o o' e e' = e.0 ∙ sym e'.0
one_open_end false false l P o o' e e' = e ∙ sym e'

one_end : (mode : Mode) (P P' : Type 0) (o o' : Outcome) → (P → P' → o ≡ o') → IsEnd mode P o → IsEnd mode P' o' → o ≡ o'
one_end is_open P P' o o' h e e' = h e e'
one_end is_held P P' o o' h e e' = e ∙ sym e'
one_end is_failed P P' o o' h e e' = e ∙ sym e'
one_end is_aborted P P' o o' h e e' = e ∙ sym e'

-- the events of a run fix its outcome
one_outcome : (m : Program) (limits : Limits) (s : State) (evs : List Event) (o o' : Outcome) → Ends m limits s evs o
    → Ends m limits s evs o' → o ≡ o'
one_outcome m limits s evs o o' e e' =
    let last : State = last_state s evs in
    let at_limit : Bool = leb limits.commits (commits_in (entries_of evs)) || leb limits.moves (moves_in (entries_of evs)) in
    one_end last.mode _ _ o o'
    (one_open_end (list_all (λ p. is_finished p.status) last.processes) (list_any (λ p. is_ready p.status) last.processes) at_limit
    (AllTooLarge m last (limits.cells - cells_of evs) last.processes) o o')
    e e'

-- both reports are of one run, and both are its text in as many steps as the two together
pub one_report : (m : Program) (s : State) (limits : Limits) (controls : List Control) (names : List Bytes) (variables : List NamedTerm)
    (o o' : Outcome) (bytes bytes' : Bytes)
    → IsOneWorkerReport m s limits controls names variables o bytes → IsOneWorkerReport m s limits controls names variables o' bytes'
    → (o ≡ o') × (bytes ≡ bytes')
one_report m s limits controls names variables o o' bytes bytes' r r' =
    let (events, last) = one_run m limits s controls r.events r'.events r.last r'.last r.run r'.run in
    let outcome : o ≡ o' = one_outcome m limits s r'.events o o' (subst (λ evs. Ends m limits s evs o) events r.outcome) r'.outcome in (
      outcome,
      once (λ n. text n r'.events o' r'.last) (report_more names variables m s r'.events o' controls (reached r'.last)) r.steps
          r'.steps bytes bytes' (moved events outcome last) r'.text,
    )
  where
    reached : Schedule → ℕ
    reached to = length controls - length to.controls

    text : ℕ → List Event → Outcome → Schedule → Option Bytes
    text n evs u to = report_text n names variables m s evs u controls (reached to)

    -- the first report's text, said of the second one's events, outcome and schedule
    moved : r.events ≡ r'.events → o ≡ o' → r.last ≡ r'.last → text r.steps r'.events o' r'.last ≡ Some bytes
    moved events outcome last =
        subst (λ evs. text r.steps evs o' r'.last ≡ Some bytes) events
        (subst (λ u. text r.steps r.events u r'.last ≡ Some bytes) outcome
        (subst (λ to. text r.steps r.events o to ≡ Some bytes) last r.text))
