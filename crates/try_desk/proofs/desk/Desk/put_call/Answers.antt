use Rattle.try_desk.specs.Held.{held}
use Rattle.try_desk.proofs.Children.{call_put}
use Rattle.try_desk.proofs.desk.Desk.put_call.Goals as goal

pub returns-clause-adds : goal.returns-clause-adds
returns-clause-adds c =
    call_put c.args.self.now.clause c.args.self.now.next c.args.self.now.behind (held c.args.self.now.slots) c.args.self.now.pieces
    c.put.new.self c.args.trail.now.binds c.as_slice.result.now c.pass.new.line.items c.put_words.new.words.items c.clear.new.self.items c.encode.result
    c.encode-2.result c.args.procedure c.args.first c.args.count c.in_ok-put.field-0 c.in_ok-put.ensures.pieces c.in_ok-put.ensures.at.0
    c.in_ok-put.ensures.at.1 c.as_slice.ensures.value c.in_ok-pass.ensures c.in_ok-put_words.ensures c.clear.ensures.items
    c.encode.ensures.value c.encode-2.ensures.value
