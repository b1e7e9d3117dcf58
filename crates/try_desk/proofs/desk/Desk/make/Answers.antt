use Rattle.try_desk.specs.Held.{held}
use Rattle.try_desk.proofs.AtDesk.{none_at_hand}
use Rattle.try_desk.proofs.desk.Desk.make.Goals as goal

pub returns-clause-empty : goal.returns-clause-empty
returns-clause-empty c = none_at_hand (held c.in_ok-make.field-0) c.make-2.result c.in_ok-make.ensures.held c.make-2.ensures
