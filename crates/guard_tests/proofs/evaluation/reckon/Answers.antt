use Rattle.std.proofs.Common.{rules, ◌∙◌, [], drop, w64, arith}
use Rattle.std.proofs.lemmas.Int.{to_z-of_z}
use mir.Val.{SFits}
use Rattle.heap_words.proofs.Keeps.{loaded_twice, still_says}
use Rattle.ro_unify.specs.Occurs.{stack}
use Rattle.ro_unify.proofs.Ending.{tame_later}
use Rattle.guard_tests.specs.declared.number.Evaluated.TheVariants.{Bad, Wait}
use Rattle.guard_tests.specs.Evaluation.{Reckons}
use Rattle.guard_tests.proofs.Evaluating.{step_leads, steps_lead, goes_on, is_spoilt, is_stopped, at_last}
use Rattle.guard_tests.proofs.evaluation.reckon.Goals as goal

pub take-requires-clause-leads : goal.take-requires-clause-leads
take-requires-clause-leads g c =
    step_leads (g.W.Words.leads c.loop-step.words) c.args.steps.now c.loop-step.step-index c.loop-step-test.true c.loop-step.invariant.leads

pub returns-in_err-push-in-Value-clause-between : goal.returns-in_err-push-in-Value-clause-between
returns-in_err-push-in-Value-clause-between g c =
    g.met.W.Words.laws.twice _ _ _ c.loop-step.invariant.loaded.went.between c.take.ensures.between

pub returns-in-Bad-clause-loaded : goal.returns-in-Bad-clause-loaded
returns-in-Bad-clause-loaded g c = loaded_twice g.met.W.Words.laws c.loop-step.invariant.loaded c.in_ok-number.ensures.loaded

pub returns-in-Wait-clause-loaded : goal.returns-in-Wait-clause-loaded
returns-in-Wait-clause-loaded g c = loaded_twice g.met.W.Words.laws c.loop-step.invariant.loaded c.in_ok-number.ensures.loaded

pub returns-in-Bad-clause-reckons : goal.returns-in-Bad-clause-reckons
returns-in-Bad-clause-reckons g c m i =
    still_says g.met.W.Words.laws
    (λ m. Reckons c.args.trail.now.binds m (drop c.loop-step.step-index c.args.steps.now) (stack c.loop-step.operands.items)
    c.loop-step.trail.reads.items Bad c.take.new.trail.reads.items
    → Reckons c.args.trail.now.binds m c.args.steps.now [] c.args.trail.now.reads.items Bad c.take.new.trail.reads.items)
    c.in_ok-number.ensures.loaded (c.loop-step.invariant.comes Bad c.take.new.trail.reads.items) m i
    (is_spoilt c.args.trail.now.binds c.loop-step.trail.binds m c.args.steps.now c.loop-step.step-index c.loop-step.operands.items
    c.take.new.operands.items c.loop-step.trail.reads.items c.take.new.trail.reads.items c.in_ok-number.field-0 c.loop-step-test.true
    c.loop-step.invariant.binds (c.in_ok-number.ensures.takes m i) c.in-Bad.is)

pub returns-in-Wait-clause-reckons : goal.returns-in-Wait-clause-reckons
returns-in-Wait-clause-reckons g c m i =
    still_says g.met.W.Words.laws
    (λ m. Reckons c.args.trail.now.binds m (drop c.loop-step.step-index c.args.steps.now) (stack c.loop-step.operands.items)
    c.loop-step.trail.reads.items Wait c.take.new.trail.reads.items
    → Reckons c.args.trail.now.binds m c.args.steps.now [] c.args.trail.now.reads.items Wait c.take.new.trail.reads.items)
    c.in_ok-number.ensures.loaded (c.loop-step.invariant.comes Wait c.take.new.trail.reads.items) m i
    (is_stopped c.args.trail.now.binds c.loop-step.trail.binds m c.args.steps.now c.loop-step.step-index c.loop-step.operands.items
    c.take.new.operands.items c.loop-step.trail.reads.items c.take.new.trail.reads.items c.in_ok-number.field-0 c.loop-step-test.true
    c.loop-step.invariant.binds (c.in_ok-number.ensures.takes m i) c.in-Wait.is)

pub loop-step-preserved : goal.loop-step-preserved
loop-step-preserved g c =
    let fits : SFits w64 c.in-Value.number = search rules in
    record {
      loaded = loaded_twice g.met.W.Words.laws c.loop-step.invariant.loaded c.in_ok-number.ensures.loaded;
      binds = c.take.ensures.binds ∙ c.loop-step.invariant.binds;
      tame = tame_later g.met.W.Words.laws c.in_ok-number.ensures.loaded c.take.ensures.binds c.loop-step.invariant.tame;
      leads = steps_lead (g.W.Words.leads c.loop-step.words) (g.W.Words.leads c.take.new.words) c.args.steps.now
          (λ w. g.met.W.Words.laws.stays_leading _ _ w c.take.ensures.between) c.loop-step.invariant.leads;
      comes = λ e rs m i h.
          still_says g.met.W.Words.laws
          (λ m. Reckons c.args.trail.now.binds m (drop c.loop-step.step-index c.args.steps.now) (stack c.loop-step.operands.items)
          c.loop-step.trail.reads.items e rs
          → Reckons c.args.trail.now.binds m c.args.steps.now [] c.args.trail.now.reads.items e rs)
          c.in_ok-number.ensures.loaded (c.loop-step.invariant.comes e rs) m i
          (goes_on c.args.trail.now.binds c.loop-step.trail.binds m c.args.steps.now c.loop-step.step-index c.loop-step.operands.items
          c.take.new.operands.items c.loop-step.trail.reads.items c.take.new.trail.reads.items c.in_ok-number.field-0
          c.loop-step-test.true c.loop-step.invariant.binds (c.in_ok-number.ensures.takes m i) c.in-Value.number
          c.push.new.operands.items c.in-Value.is (simp to_z-of_z at c.in_ok-push-in-Value.ensures) e rs h);
    }

pub returns-clause-reckons : goal.returns-clause-reckons
returns-clause-reckons g c m i =
    c.loop-step.invariant.comes c.last.result c.loop-step.trail.reads.items m i
    (at_last c.args.trail.now.binds m c.args.steps.now c.loop-step.step-index (stack c.loop-step.operands.items)
    c.loop-step.trail.reads.items c.last.result (omega arith) c.last.ensures)
