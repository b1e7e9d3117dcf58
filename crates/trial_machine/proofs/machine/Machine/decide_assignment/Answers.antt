use Rattle.std.proofs.Common.{◌≡◌, ℤ, arith, rules, sym, ap, subst, ◌∙◌, w64, to_z, of_z, to_z-of_z}
use Rattle.fcp_model.specs.declared.goal.TheConstants.{ASSIGN_PROCEDURE}
use Rattle.heap_words.specs.Trails.{WordList}
use Rattle.guard_tests.specs.declared.number.Evaluated.{Evaluated}
use Rattle.guard_tests.specs.declared.number.Evaluated.TheVariants.{Value}
use Rattle.trial_machine.specs.Assigning.{ExpressionSays}
use Rattle.trial_machine.proofs.Assignments.{bad_decided}
use Rattle.trial_machine.proofs.BuiltIns.{has_some}
use Rattle.trial_machine.proofs.Calling.{calls_on}
use Rattle.trial_machine.proofs.Loading.{loads_after}
use Rattle.trial_machine.proofs.machine.Machine.decide_assignment.Goals as goal

pub evaluate-requires-clause-counted : goal.evaluate-requires-clause-counted
evaluate-requires-clause-counted g c =
    has_some c.args.self.now.trail.kept c.args.process c.args.count ASSIGN_PROCEDURE 2 c.requires.call
    (omega (arith, c.if-count-ne2.false))

pub assign-requires-clause-says : goal.assign-requires-clause-says
assign-requires-clause-says g c =
    let same : to_z w64 (of_z w64 c.in-Value.value) ≡ c.in-Value.value = to_z-of_z {w = w64} {z = c.in-Value.value} (search rules) in (
      c.evaluate.new.trail.reads.items,
      subst (λ (k : WordList). ExpressionSays k c.args.process (Value (to_z w64 (of_z w64 c.in-Value.value)))
          c.evaluate.new.trail.reads.items) (sym c.forget_reads.ensures.kept)
          (subst (λ (d : Evaluated). ExpressionSays c.evaluate.new.trail.kept c.args.process d c.evaluate.new.trail.reads.items)
          (c.in-Value.is ∙ ap (λ (z : ℤ). Value z) (sym same)) c.in_ok-value.ensures.says),
    )

pub wait-requires-clause-says : goal.wait-requires-clause-says
wait-requires-clause-says g c =
    subst (λ (d : Evaluated). ExpressionSays c.evaluate.new.trail.kept c.args.process d c.evaluate.new.trail.reads.items) c.in-Wait.is
    c.in_ok-value.ensures.says

pub returns-in_ok-decided-in-Value-clause-loaded : goal.returns-in_ok-decided-in-Value-clause-loaded
returns-in_ok-decided-in-Value-clause-loaded g c =
    loads_after g.met.W.Words.laws c.args.self.now.trail.kept c.evaluate.new.trail.kept c.forget_reads.new.self.kept
    c.assign.new.self.trail.kept c.args.words.now c.evaluate.new.words c.assign.new.words c.evaluate.ensures.between
    c.assign.ensures.between c.forget_reads.ensures.kept c.in_ok-value.ensures.loaded c.in_ok-decided-in-Value.ensures.loaded

pub returns-in-Bad-clause-decides : goal.returns-in-Bad-clause-decides
returns-in-Bad-clause-decides g c =
    bad_decided _ c.args.process c.args.count c.evaluate.new.trail.reads.items
    (calls_on c.args.self.now.trail.kept c.evaluate.new.trail.kept c.args.process ASSIGN_PROCEDURE c.args.count
    c.in_ok-value.ensures.loaded.grows c.requires.call)
    (subst (λ (d : Evaluated). ExpressionSays c.evaluate.new.trail.kept c.args.process d c.evaluate.new.trail.reads.items) c.in-Bad.is
    c.in_ok-value.ensures.says)
