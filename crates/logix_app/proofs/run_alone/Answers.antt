use Rattle.logix_app.proofs.Answering.{writes-whole, completes}
use Rattle.logix_app.proofs.run_alone.Goals as goal

pub returns-in-Done-clause-completes : goal.returns-in-Done-clause-completes
returns-in-Done-clause-completes g c =
    completes _ _ _ _ _ _ _ _ _ c.in-Ok.answer.status
    (writes-whole _ _ _ _ _ (g.K.Sink.written c.args.sink.now) _ _ _ c.in-Ok.answer.status _ c.in-Ok.ensures.answer c.in-Done.ensures)
