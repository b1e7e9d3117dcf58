use Rattle.trial_machine.proofs.Loading.{holds_free, loads_of}
use Rattle.move_plans.proofs.woken.Wakers.find.Goals as goal

pub wake_writes-requires-clause-holds : goal.wake_writes-requires-clause-holds
wake_writes-requires-clause-holds g c =
    holds_free g.met.W.Words.laws c.args.trail.now.kept c.args.trail.now.binds c.args.words.now c.requires.stored c.requires.free

pub returns-clause-loaded : goal.returns-clause-loaded
returns-clause-loaded g c =
    loads_of g.met.W.Words.laws c.args.trail.now.kept c.args.trail.now.binds c.wake_writes.new.trail.kept c.wake_writes.new.trail.binds
    c.args.words.now c.wake_writes.new.words c.requires.stored c.in_ok-wake_writes.ensures.loaded
