use Rattle.fcp_model.specs.Translation.{program_of}
use Rattle.process_texts.proofs.GoalTexts.{true_added, none_called, unification_added, assignment_added, call_added}
use Rattle.process_texts.proofs.goals.push_called.Goals as goal

pub returns-then-procedure-eq-TRUE_PROCEDURE-clause-text : goal.returns-then-procedure-eq-TRUE_PROCEDURE-clause-text
returns-then-procedure-eq-TRUE_PROCEDURE-clause-text g c w vs bound has says goal h e =
    true_added w vs c.args.process c.args.procedure c.args.count c.args.names.now (program_of c.args.loaded.now) bound _ _ goal h e
    c.if-procedure-eq-TRUE_PROCEDURE.true c.in_ok-push_bytes.ensures.ok

pub returns-then-procedure-lt-TRUE_PROCEDURE-clause-text : goal.returns-then-procedure-lt-TRUE_PROCEDURE-clause-text
returns-then-procedure-lt-TRUE_PROCEDURE-clause-text g c w vs bound has says goal h e =
    call_added w vs c.args.process c.args.procedure c.args.count c.args.names.now (program_of c.args.loaded.now) bound _ _ _ goal h e
    c.if-procedure-lt-TRUE_PROCEDURE.true c.in_ok-push_procedure.ensures
    (λ ts long k. c.in_ok-push_arguments.ensures.text w vs bound has says ts long k)

pub returns-then-count-ne2-clause-text : goal.returns-then-count-ne2-clause-text
returns-then-count-ne2-clause-text g c w vs bound has says goal h e =
    none_called w vs c.args.process c.args.procedure c.args.count c.args.names.now (program_of c.args.loaded.now) bound _ _ goal h e
    c.if-procedure-eq-TRUE_PROCEDURE.false c.if-procedure-lt-TRUE_PROCEDURE.false c.if-count-ne2.true

pub returns-then-procedure-eq-UNIFY_PROCEDURE-clause-text : goal.returns-then-procedure-eq-UNIFY_PROCEDURE-clause-text
returns-then-procedure-eq-UNIFY_PROCEDURE-clause-text g c w vs bound has says goal h e =
    unification_added w vs c.args.process c.args.procedure c.args.count c.args.names.now (program_of c.args.loaded.now) bound _ _ goal h e
    c.if-procedure-eq-UNIFY_PROCEDURE.true
    (λ t u k. c.in_ok-push_unification.ensures.text w vs bound has says (program_of c.args.loaded.now) t u k)

pub returns-clause-text : goal.returns-clause-text
returns-clause-text g c w vs bound has says goal h e =
    assignment_added w vs c.args.process c.args.procedure c.args.count c.args.names.now (program_of c.args.loaded.now) bound _ _ goal h e
    c.if-procedure-eq-TRUE_PROCEDURE.false c.if-procedure-lt-TRUE_PROCEDURE.false c.if-procedure-eq-UNIFY_PROCEDURE.false
    (λ t d x y i j k l. c.in_ok-push_assignment.ensures.text w vs bound has says (program_of c.args.loaded.now) t d x y i j k l)
