use Rattle.std.proofs.Common.{rules, ◌∙◌, List, sym, subst}
use Rattle.heap_words.specs.declared.steps.ExprStep.{ExprStep}
use Rattle.guard_tests.specs.declared.equality.Tested.TheVariants.{Holds, Not, Wait}
use Rattle.guard_tests.specs.Evaluation.{OperandLeads}
use Rattle.ro_unify.specs.Occurs.{Each}
use Rattle.beside_words.specs.Besides.{LeadsBeside}
use Rattle.machine_code.specs.Instructions.{Test}
use Rattle.machine_code.specs.Reading.{steps_at}
use Rattle.trial_machine.specs.Machines.{at_machine}
use Rattle.trial_machine.proofs.Besides.{own_pieces, before_call, after_call, stored_at, loads_at, loads_left}
use Rattle.trial_machine.proofs.TestSides.{word_side, side_leads}
use Rattle.trial_machine.proofs.MadeTests.{tests_at, test_holds, test_fails, test_waits}
use Rattle.trial_machine.proofs.machine.Machine.test.Goals as goal

pub test-requires-clause-sound : goal.test-requires-clause-sound
test-requires-clause-sound g c =
    (before_call c.stands_beside.ensures c.args.self.now (Test c.args.kind
    (steps_at c.args.code.now.steps c.args.left c.args.left_len)
    (steps_at c.args.code.now.steps c.args.right c.args.right_len)) c.args.words.now c.words.result.now
    c.requires.stored c.once.ensures.kept c.requires.meets
    (own_pieces c.args.self.now.desk.pieces c.words.result.now c.words.ensures.all c.words.ensures.placed)).sound

pub test-requires-clause-holds : goal.test-requires-clause-holds
test-requires-clause-holds g c =
    let may = before_call c.stands_beside.ensures c.args.self.now (Test c.args.kind
    (steps_at c.args.code.now.steps c.args.left c.args.left_len)
    (steps_at c.args.code.now.steps c.args.right c.args.right_len)) c.args.words.now c.words.result.now
    c.requires.stored c.once.ensures.kept c.requires.meets
    (own_pieces c.args.self.now.desk.pieces c.words.result.now c.words.ensures.all c.words.ensures.placed) in
    record { kept_had = may.kept_had; kept_below = may.kept_below; bound_leads = may.bound }

pub test-requires-clause-left : goal.test-requires-clause-left
test-requires-clause-left g c =
    let may = before_call c.stands_beside.ensures c.args.self.now (Test c.args.kind
    (steps_at c.args.code.now.steps c.args.left c.args.left_len)
    (steps_at c.args.code.now.steps c.args.right c.args.right_len)) c.args.words.now c.words.result.now
    c.requires.stored c.once.ensures.kept c.requires.meets
    (own_pieces c.args.self.now.desk.pieces c.words.result.now c.words.ensures.all c.words.ensures.placed) in
    subst (λ (ss : List ExprStep). Each (OperandLeads (λ x. LeadsBeside g.W.Words.knows g.W.Words.leads c.args.words.now
    c.words.result.now x)) ss)
    (sym (c.as_slice.ensures.value ∙ (c.in_ok-steps_for.ensures ∙ word_side c.args.self.now (steps_at c.args.code.now.steps c.args.left
    c.args.left_len))))
    (side_leads (λ x. LeadsBeside g.W.Words.knows g.W.Words.leads c.args.words.now c.words.result.now x) (at_machine c.args.self.now)
    (steps_at c.args.code.now.steps c.args.left c.args.left_len) may.terms)

pub test-requires-clause-right : goal.test-requires-clause-right
test-requires-clause-right g c =
    let may = before_call c.stands_beside.ensures c.args.self.now (Test c.args.kind
    (steps_at c.args.code.now.steps c.args.left c.args.left_len)
    (steps_at c.args.code.now.steps c.args.right c.args.right_len)) c.args.words.now c.words.result.now
    c.requires.stored c.once.ensures.kept c.requires.meets
    (own_pieces c.args.self.now.desk.pieces c.words.result.now c.words.ensures.all c.words.ensures.placed) in
    subst (λ (ss : List ExprStep). Each (OperandLeads (λ x. LeadsBeside g.W.Words.knows g.W.Words.leads c.args.words.now
    c.words.result.now x)) ss)
    (sym (c.as_slice-2.ensures.value ∙ (c.in_ok-steps_for-2.ensures ∙ word_side c.args.self.now (steps_at c.args.code.now.steps
    c.args.right c.args.right_len))))
    (side_leads (λ x. LeadsBeside g.W.Words.knows g.W.Words.leads c.args.words.now c.words.result.now x) (at_machine c.args.self.now)
    (steps_at c.args.code.now.steps c.args.right c.args.right_len) may.terms)

pub test-requires-clause-tame : goal.test-requires-clause-tame
test-requires-clause-tame g c =
    (before_call c.stands_beside.ensures c.args.self.now (Test c.args.kind
    (steps_at c.args.code.now.steps c.args.left c.args.left_len)
    (steps_at c.args.code.now.steps c.args.right c.args.right_len)) c.args.words.now c.words.result.now
    c.requires.stored c.once.ensures.kept c.requires.meets
    (own_pieces c.args.self.now.desk.pieces c.words.result.now c.words.ensures.all c.words.ensures.placed)).tame

pub leave-requires : goal.leave-requires
leave-requires g c =
    stored_at c.args.self.now (search rules)
    (after_call c.after_beside.ensures.beside c.args.self.now (Test c.args.kind
    (steps_at c.args.code.now.steps c.args.left c.args.left_len)
    (steps_at c.args.code.now.steps c.args.right c.args.right_len)) _ c.test.new.words
    c.test.new.trail.kept c.test.new.trail.binds c.requires.stored c.once.ensures.kept c.requires.meets
    (own_pieces c.args.self.now.desk.pieces c.words.result.now c.words.ensures.all c.words.ensures.placed) c.in_ok-answer.ensures.loaded)

pub leave-requires-in-Wait : goal.leave-requires-in-Wait
leave-requires-in-Wait g c =
    stored_at c.args.self.now (search rules)
    (after_call c.after_beside.ensures.beside c.args.self.now (Test c.args.kind
    (steps_at c.args.code.now.steps c.args.left c.args.left_len)
    (steps_at c.args.code.now.steps c.args.right c.args.right_len)) _ c.test.new.words
    c.test.new.trail.kept c.test.new.trail.binds c.requires.stored c.once.ensures.kept c.requires.meets
    (own_pieces c.args.self.now.desk.pieces c.words.result.now c.words.ensures.all c.words.ensures.placed) c.in_ok-answer.ensures.loaded)

pub returns-in-Holds-clause-loaded : goal.returns-in-Holds-clause-loaded
returns-in-Holds-clause-loaded g c =
    loads_at c.args.self.now (search rules)
    (after_call c.after_beside.ensures.beside c.args.self.now (Test c.args.kind
    (steps_at c.args.code.now.steps c.args.left c.args.left_len)
    (steps_at c.args.code.now.steps c.args.right c.args.right_len)) _ c.test.new.words
    c.test.new.trail.kept c.test.new.trail.binds c.requires.stored c.once.ensures.kept c.requires.meets
    (own_pieces c.args.self.now.desk.pieces c.words.result.now c.words.ensures.all c.words.ensures.placed) c.in_ok-answer.ensures.loaded)

pub returns-in-Holds-clause-turns : goal.returns-in-Holds-clause-turns
returns-in-Holds-clause-turns g c =
    test_holds c.args.self.now c.rest.new.self c.test.new.trail c.test.new.lists c.steps_for.new.line c.steps_for-2.new.line c.args.kind
    (steps_at c.args.code.now.steps c.args.left c.args.left_len) (steps_at c.args.code.now.steps c.args.right c.args.right_len)
    (after_call c.after_beside.ensures.beside c.args.self.now (Test c.args.kind
    (steps_at c.args.code.now.steps c.args.left c.args.left_len)
    (steps_at c.args.code.now.steps c.args.right c.args.right_len)) _ c.test.new.words
    c.test.new.trail.kept c.test.new.trail.binds c.requires.stored c.once.ensures.kept c.requires.meets
    (own_pieces c.args.self.now.desk.pieces c.words.result.now c.words.ensures.all c.words.ensures.placed)
    c.in_ok-answer.ensures.loaded).more c.test.ensures.binds
    (tests_at c.args.self.now c.args.kind (steps_at c.args.code.now.steps c.args.left c.args.left_len)
    (steps_at c.args.code.now.steps c.args.right c.args.right_len) c.in_ok-answer.answer Holds c.test.new.trail.kept
    c.test.new.trail.reads.items c.words.result.now c.test.new.words.own.now c.as_slice.result.now c.as_slice-2.result.now
    (own_pieces c.args.self.now.desk.pieces c.words.result.now c.words.ensures.all c.words.ensures.placed) c.test.ensures.between.2
    (c.as_slice.ensures.value ∙ (c.in_ok-steps_for.ensures ∙ word_side c.args.self.now (steps_at c.args.code.now.steps c.args.left
    c.args.left_len)))
    (c.as_slice-2.ensures.value ∙ (c.in_ok-steps_for-2.ensures ∙ word_side c.args.self.now (steps_at c.args.code.now.steps c.args.right
    c.args.right_len)))
    c.in-Holds.is c.in_ok-answer.ensures.tested c.in_ok-answer.ensures.opened) c.requires.sides
    c.rest.ensures.becomes c.rest.ensures.keeps

pub returns-in_ok-leave-in-Not-clause-loaded : goal.returns-in_ok-leave-in-Not-clause-loaded
returns-in_ok-leave-in-Not-clause-loaded g c =
    loads_left c.args.self.now c.leave.ensures.kept (search rules)
    (after_call c.after_beside.ensures.beside c.args.self.now (Test c.args.kind
    (steps_at c.args.code.now.steps c.args.left c.args.left_len)
    (steps_at c.args.code.now.steps c.args.right c.args.right_len)) _ c.test.new.words
    c.test.new.trail.kept c.test.new.trail.binds c.requires.stored c.once.ensures.kept c.requires.meets
    (own_pieces c.args.self.now.desk.pieces c.words.result.now c.words.ensures.all c.words.ensures.placed) c.in_ok-answer.ensures.loaded)

pub returns-in_ok-leave-in-Not-clause-turns : goal.returns-in_ok-leave-in-Not-clause-turns
returns-in_ok-leave-in-Not-clause-turns g c =
    test_fails c.args.self.now c.leave.new.self c.test.new.trail c.test.new.lists c.steps_for.new.line c.steps_for-2.new.line
    c.args.kind (steps_at c.args.code.now.steps c.args.left c.args.left_len)
    (steps_at c.args.code.now.steps c.args.right c.args.right_len)
    (after_call c.after_beside.ensures.beside c.args.self.now (Test c.args.kind
    (steps_at c.args.code.now.steps c.args.left c.args.left_len)
    (steps_at c.args.code.now.steps c.args.right c.args.right_len)) _ c.test.new.words
    c.test.new.trail.kept c.test.new.trail.binds c.requires.stored c.once.ensures.kept c.requires.meets
    (own_pieces c.args.self.now.desk.pieces c.words.result.now c.words.ensures.all c.words.ensures.placed)
    c.in_ok-answer.ensures.loaded).more
    (tests_at c.args.self.now c.args.kind (steps_at c.args.code.now.steps c.args.left c.args.left_len)
    (steps_at c.args.code.now.steps c.args.right c.args.right_len) c.in_ok-answer.answer Not c.test.new.trail.kept
    c.test.new.trail.reads.items c.words.result.now c.test.new.words.own.now c.as_slice.result.now c.as_slice-2.result.now
    (own_pieces c.args.self.now.desk.pieces c.words.result.now c.words.ensures.all c.words.ensures.placed) c.test.ensures.between.2
    (c.as_slice.ensures.value ∙ (c.in_ok-steps_for.ensures ∙ word_side c.args.self.now (steps_at c.args.code.now.steps c.args.left
    c.args.left_len)))
    (c.as_slice-2.ensures.value ∙ (c.in_ok-steps_for-2.ensures ∙ word_side c.args.self.now (steps_at c.args.code.now.steps c.args.right
    c.args.right_len)))
    c.in-Not.is c.in_ok-answer.ensures.tested c.in_ok-answer.ensures.opened) c.requires.sides
    c.in_ok-leave-in-Not.ensures.left c.in_ok-leave-in-Not.ensures.safe c.leave.ensures.keeps

pub returns-in_ok-leave-in-Wait-clause-loaded : goal.returns-in_ok-leave-in-Wait-clause-loaded
returns-in_ok-leave-in-Wait-clause-loaded g c =
    loads_left c.args.self.now c.leave-in-Wait.ensures.kept (search rules)
    (after_call c.after_beside.ensures.beside c.args.self.now (Test c.args.kind
    (steps_at c.args.code.now.steps c.args.left c.args.left_len)
    (steps_at c.args.code.now.steps c.args.right c.args.right_len)) _ c.test.new.words
    c.test.new.trail.kept c.test.new.trail.binds c.requires.stored c.once.ensures.kept c.requires.meets
    (own_pieces c.args.self.now.desk.pieces c.words.result.now c.words.ensures.all c.words.ensures.placed) c.in_ok-answer.ensures.loaded)

pub returns-in_ok-leave-in-Wait-clause-turns : goal.returns-in_ok-leave-in-Wait-clause-turns
returns-in_ok-leave-in-Wait-clause-turns g c =
    test_waits c.args.self.now c.leave-in-Wait.new.self c.test.new.trail c.test.new.lists c.steps_for.new.line c.steps_for-2.new.line
    c.args.kind (steps_at c.args.code.now.steps c.args.left c.args.left_len)
    (steps_at c.args.code.now.steps c.args.right c.args.right_len)
    (after_call c.after_beside.ensures.beside c.args.self.now (Test c.args.kind
    (steps_at c.args.code.now.steps c.args.left c.args.left_len)
    (steps_at c.args.code.now.steps c.args.right c.args.right_len)) _ c.test.new.words
    c.test.new.trail.kept c.test.new.trail.binds c.requires.stored c.once.ensures.kept c.requires.meets
    (own_pieces c.args.self.now.desk.pieces c.words.result.now c.words.ensures.all c.words.ensures.placed)
    c.in_ok-answer.ensures.loaded).more
    (tests_at c.args.self.now c.args.kind (steps_at c.args.code.now.steps c.args.left c.args.left_len)
    (steps_at c.args.code.now.steps c.args.right c.args.right_len) c.in_ok-answer.answer Wait c.test.new.trail.kept
    c.test.new.trail.reads.items c.words.result.now c.test.new.words.own.now c.as_slice.result.now c.as_slice-2.result.now
    (own_pieces c.args.self.now.desk.pieces c.words.result.now c.words.ensures.all c.words.ensures.placed) c.test.ensures.between.2
    (c.as_slice.ensures.value ∙ (c.in_ok-steps_for.ensures ∙ word_side c.args.self.now (steps_at c.args.code.now.steps c.args.left
    c.args.left_len)))
    (c.as_slice-2.ensures.value ∙ (c.in_ok-steps_for-2.ensures ∙ word_side c.args.self.now (steps_at c.args.code.now.steps c.args.right
    c.args.right_len)))
    c.in-Wait.is c.in_ok-answer.ensures.tested c.in_ok-answer.ensures.opened) c.requires.sides
    c.in_ok-leave-in-Wait.ensures.left c.in_ok-leave-in-Wait.ensures.safe c.leave-in-Wait.ensures.keeps
