-- A control that is due leads on.
use Rattle.std.proofs.Common.{◌≡◌, ℕ, false, List, [], ◌∷◌, ◌++◌, refl, sym, ap, ◌∙◌, subst, arith}
use Rattle.fcp_model.specs.declared.run.Control.{Control}
use Rattle.fcp_model.specs.States.{Mode}
use Rattle.fcp_model.specs.Events.{Event, control_event}
use Rattle.fcp_model.specs.Bounds.{act_entry}
use Rattle.fcp_model.specs.OneWorker.{Schedule, makes, begin, is_over, mode_after}
use Rattle.fcp_laws.proofs.Leading.{led_on}
use Rattle.fcp_laws.proofs.Rulings as rule
use Rattle.heap_words.specs.Heaps.{inside_at}
use Rattle.word_states.specs.Standing.{Book}
use Rattle.run_laws.specs.Running.{Setting, Counts, StandsAt, after_control}
use Rattle.run_laws.proofs.LaterStates.{later_stands, later_all}
use Rattle.run_laws.proofs.RuledFronts.{control_ruled}

pub control_leads : (r : Setting) (ws queue : List ℕ) (c : Counts) (evs : List Event) (at : Schedule) (book : Book) (d : Control)
    (ds : List Control) → StandsAt r ws queue c evs at book → is_over c.mode ≡ false → c.controls ≡ d ∷ ds → d.after ≡ c.moved
    → (to : Schedule) × StandsAt r ws queue (after_control c d ds)
    (evs ++ control_event at.state (act_entry d.act) (mode_after d.act c.mode) ∷ []) to book
control_leads r ws queue c evs at book d ds here going due now =
    subst (λ (mode : Mode). (to : Schedule) × StandsAt r ws queue (after_control c d ds)
    (evs ++ control_event at.state (act_entry d.act) (mode_after d.act mode) ∷ []) to book) here.mode (
      rule.after_control at d ds,
      record {
        ordered = here.ordered;
        leads = led_on r.program r.limits (begin r.from r.controls) at evs
            (makes (rule.event_of_control at d) (rule.after_control at d ds)) 0 here.leads
            (control_ruled 0 r.program r.limits at (ap is_over here.mode ∙ going) d ds (here.controls ∙ due) (now ∙ sym here.moved)) refl;
        heap = here.heap;
        stands = later_stands book (inside_at ws) at.state (mode_after d.act at.state.mode) here.stands;
        queued = later_all book at.state (mode_after d.act at.state.mode) queue at.queue here.queued;
        variables = here.variables;
        mode = ap (mode_after d.act) here.mode;
        controls = refl;
        entries = omega (arith, here.entries);
        moved = here.moved;
        passed = here.passed;
        asleep = here.asleep;
        commits = here.commits;
        moves = here.moves;
        cells = here.cells;
      },
    )
