use Rattle.std.proofs.Common.{ℕ, List, subst, ◌∙◌}
use Rattle.std.specs.Prelude.{OnOk}
use Rattle.std.proofs.Math.Path.{fun_ext}
use Rattle.trial_laws.specs.AtHand.{AtHand}
use Rattle.try_desk.specs.Desks.{Adds}
use Rattle.try_desk.proofs.Children.{child_true, child_unifies, child_assigns, unify_two, unify_few, assign_two}
use Rattle.try_desk.proofs.Children.{assign_few}
use Rattle.try_desk.proofs.desk.Desk.put_child.Goals as goal

pub returns-then-procedure-eq-TRUE_PROCEDURE-clause-adds : goal.returns-then-procedure-eq-TRUE_PROCEDURE-clause-adds
returns-then-procedure-eq-TRUE_PROCEDURE-clause-adds c =
    subst (λ (p : AtHand → List ℕ). OnOk c.put_true.result (Adds c.args.trail.now.binds c.args.self.now c.put_true.new.self p))
    (fun_ext (λ r. child_true r c.args.procedure c.args.first c.args.count c.if-procedure-eq-TRUE_PROCEDURE.true))
    (c.put_true.ensures.adds c.args.trail.now.binds)

pub returns-then-count-ge2-clause-adds : goal.returns-then-count-ge2-clause-adds
returns-then-count-ge2-clause-adds c =
    subst (λ (p : AtHand → List ℕ). OnOk c.put_unification.result (Adds c.args.trail.now.binds c.args.self.now c.put_unification.new.self p))
    (fun_ext (λ r. unify_two r c.args.first c.args.count c.if-count-ge2.true
    ∙ child_unifies r c.args.procedure c.args.first c.args.count c.if-procedure-eq-UNIFY_PROCEDURE.true))
    c.put_unification.ensures.adds

pub returns-else-count-ge2-clause-adds : goal.returns-else-count-ge2-clause-adds
returns-else-count-ge2-clause-adds c =
    subst (λ (p : AtHand → List ℕ). OnOk c.put_true-else-count-ge2.result (Adds c.args.trail.now.binds c.args.self.now c.put_true-else-count-ge2.new.self p))
    (fun_ext (λ r. unify_few r c.args.first c.args.count c.if-count-ge2.false
    ∙ child_unifies r c.args.procedure c.args.first c.args.count c.if-procedure-eq-UNIFY_PROCEDURE.true))
    (c.put_true-else-count-ge2.ensures.adds c.args.trail.now.binds)

pub returns-then-count-ge2-2-clause-adds : goal.returns-then-count-ge2-2-clause-adds
returns-then-count-ge2-2-clause-adds c =
    subst (λ (p : AtHand → List ℕ). OnOk c.put_assignment.result (Adds c.args.trail.now.binds c.args.self.now c.put_assignment.new.self p))
    (fun_ext (λ r. assign_two r c.args.first c.args.count c.if-count-ge2-2.true
    ∙ child_assigns r c.args.procedure c.args.first c.args.count c.if-procedure-eq-ASSIGN_PROCEDURE.true))
    c.put_assignment.ensures.adds

pub returns-else-count-ge2-2-clause-adds : goal.returns-else-count-ge2-2-clause-adds
returns-else-count-ge2-2-clause-adds c =
    subst (λ (p : AtHand → List ℕ). OnOk c.put_true-else-count-ge2-2.result (Adds c.args.trail.now.binds c.args.self.now c.put_true-else-count-ge2-2.new.self p))
    (fun_ext (λ r. assign_few r c.args.first c.args.count c.if-count-ge2-2.false
    ∙ child_assigns r c.args.procedure c.args.first c.args.count c.if-procedure-eq-ASSIGN_PROCEDURE.true))
    (c.put_true-else-count-ge2-2.ensures.adds c.args.trail.now.binds)
