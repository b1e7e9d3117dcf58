use Rattle.try_desk.specs.Held.{held}
use Rattle.try_desk.proofs.SlotWords.{terms_put}
use Rattle.try_desk.proofs.slots.Slots.terms.Goals as goal

pub loop-i-preserved : goal.loop-i-preserved
loop-i-preserved c =
    terms_put (held c.args.self.now) c.args.first c.loop-i.i c.term.result c.args.line.now.items c.loop-i.line.items
    c.put_word.new.line.items c.loop-i.invariant c.term.ensures c.in_ok-put_word.ensures
