use Rattle.try_desk.proofs.Counted.{first_word}
use Rattle.try_desk.proofs.processes.is_ready.Goals as goal

pub returns-then-size-gt0 : goal.returns-then-size-gt0
returns-then-size-gt0 c = first_word c.args.words.now c.args.at c.args.size c.if-size-gt0.true c.requires
