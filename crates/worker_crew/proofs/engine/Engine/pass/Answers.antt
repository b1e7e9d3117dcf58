use Rattle.std.proofs.Common.{refl}
use Rattle.std.specs.Result.{is_ok}
use Rattle.worker_crew.proofs.Noting.{pass_noted, put_back}
use Rattle.worker_crew.proofs.engine.Engine.pass.Goals as goal

pub returns-clause-reached : goal.returns-clause-reached
returns-clause-reached c = λ t passed.
    pass_noted t c.args.process c.args.self.now passed c.leading_moves.ensures.pass _ refl
    (put_back c.args.self.now.queue.items c.push_back.new.self.items c.args.process (is_ok c.push_back.result) c.is_err.result
    c.push_back.ensures.items c.is_err.ensures.negation c.if-is_err.false)
    refl refl refl refl
