use Rattle.std.proofs.Common.{false}
use Rattle.try_desk.specs.Held.{held}
use Rattle.try_desk.proofs.AtDesk.{word_put}
use Rattle.try_desk.proofs.desk.Desk.put_word.Goals as goal

pub returns-clause-becomes : goal.returns-clause-becomes
returns-clause-becomes c =
    word_put c.args.self.now.clause c.args.self.now.next c.args.self.now.behind (held c.args.self.now.slots) (held c.hold.new.self)
    c.args.self.now.pieces c.args.slot c.args.word false c.hold.ensures.held
