use Rattle.std.proofs.Common.{suc, ◌+◌, ◌≡◌, arith}
use Rattle.trial_machine.proofs.Putting.{tuple_put, operation_put}
use Rattle.trial_machine.proofs.machine.Machine.put_tuple.Goals as goal

pub returns-in_ok-put_tuple-in-None-clause-steps :
    goal.returns-in_ok-put_tuple-in-None-clause-steps
returns-in_ok-put_tuple-in-None-clause-steps c =
    tuple_put c.args.self.now c.put_tuple.new.self c.args.slot c.args.first c.args.parts c.args.op c.in-None.is c.requires.word
    c.in_ok-put_tuple-in-None.ensures.becomes c.in_ok-put_tuple-in-None.ensures.room c.put_tuple.ensures.keeps

pub returns-in_ok-put_operation-in-Some-clause-steps :
    goal.returns-in_ok-put_operation-in-Some-clause-steps
returns-in_ok-put_operation-in-Some-clause-steps c =
    let next : c.args.first + 1 ≡ suc c.args.first = omega arith in
    operation_put c.args.self.now c.put_operation.new.self c.args.slot c.args.first (c.args.first + 1) c.args.parts c.args.op
    c.in-Some.operator c.in-Some.is c.requires.word next c.in_ok-put_operation-in-Some.ensures.becomes
    c.in_ok-put_operation-in-Some.ensures.room c.put_operation.ensures.keeps
