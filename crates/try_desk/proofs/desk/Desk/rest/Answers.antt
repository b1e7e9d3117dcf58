use Rattle.try_desk.specs.Held.{held}
use Rattle.try_desk.proofs.AtDesk.{try_rested}
use Rattle.try_desk.proofs.desk.Desk.rest.Goals as goal

pub returns-clause-becomes : goal.returns-clause-becomes
returns-clause-becomes c =
    try_rested c.args.self.now.clause c.args.self.now.next c.args.base c.args.self.now.behind (held c.args.self.now.slots)
    (held c.renew.new.self) c.args.self.now.pieces c.cut.new.self c.args.self.now.slots.args c.renew.ensures.held c.cut.ensures
