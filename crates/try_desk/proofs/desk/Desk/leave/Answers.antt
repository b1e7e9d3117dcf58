use Rattle.try_desk.specs.Held.{held}
use Rattle.try_desk.proofs.AtDesk.{try_ended}
use Rattle.try_desk.proofs.desk.Desk.leave.Goals as goal

pub returns-clause-becomes : goal.returns-clause-becomes
returns-clause-becomes c =
    try_ended c.args.self.now.clause c.args.self.now.next c.args.self.now.behind c.args.behind (held c.args.self.now.slots)
    (held c.renew.new.self) c.args.self.now.pieces c.clear.new.self c.args.self.now.slots.args c.renew.ensures.held c.clear.ensures
