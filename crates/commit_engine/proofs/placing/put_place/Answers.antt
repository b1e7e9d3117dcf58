use Rattle.std.proofs.Common.{refl}
use Rattle.commit_engine.proofs.NewPlaces.{puts_none, puts_new}
use Rattle.commit_engine.proofs.placing.put_place.Goals as goal

pub returns-then-is_open : goal.returns-then-is_open
returns-then-is_open c = λ e.
    puts_none c.args.read.now.kept c.args.addr c.args.places.now.items c.args.places.now.items
    (c.is_open.ensures.0 c.if-is_open.true) refl

pub returns-in-Ok : goal.returns-in-Ok
returns-in-Ok c = λ e.
    puts_new c.args.read.now.kept c.args.addr c.args.places.now.items c.push.new.self.items
    (c.is_new.ensures.0 c.if-not-is_new.false) c.in-Ok.ensures.items
