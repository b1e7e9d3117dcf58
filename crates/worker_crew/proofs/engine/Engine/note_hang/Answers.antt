use Rattle.std.proofs.Common.{refl}
use Rattle.worker_crew.proofs.Noting.{hang_noted}
use Rattle.worker_crew.proofs.engine.Engine.note_hang.Goals as goal

pub returns-clause-reached : goal.returns-clause-reached
returns-clause-reached c = λ t moved is.
    hang_noted t c.args.self.now moved _ refl refl refl refl c.leading_moves.ensures.hang c.front_moves.ensures.event is refl refl
