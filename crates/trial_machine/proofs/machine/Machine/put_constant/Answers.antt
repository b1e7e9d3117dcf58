use Rattle.heap_words.specs.Cells.{decoded}
use Rattle.machine_code.specs.Reading.{constant}
use Rattle.trial_machine.proofs.Putting.{constant_put}
use Rattle.trial_machine.proofs.machine.Machine.put_constant.Goals as goal

pub returns-clause-steps : goal.returns-clause-steps
returns-clause-steps c =
    constant_put c.args.self.now c.put_constant.new.self c.args.slot (constant c.args.code.now.smalls (decoded c.args.word))
    c.in_ok-put_constant.ensures.takes c.put_constant.ensures.keeps
