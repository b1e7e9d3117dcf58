use Rattle.trial_machine.proofs.Loading.{holds_free, loads_of}
use Rattle.move_plans.proofs.room.lay_from.Goals as goal

pub lay-requires-clause-holds : goal.lay-requires-clause-holds
lay-requires-clause-holds g c =
    holds_free g.met.W.Words.laws c.args.trail.now.kept c.args.trail.now.binds c.args.words.now c.requires.stored c.requires.free

pub returns-clause-loaded : goal.returns-clause-loaded
returns-clause-loaded g c =
    loads_of g.met.W.Words.laws c.args.trail.now.kept c.args.trail.now.binds c.lay.new.trail.kept c.lay.new.trail.binds
    c.args.words.now c.lay.new.words c.requires.stored c.in_ok-laid.ensures.loaded

pub returns-clause-room : goal.returns-clause-room
returns-clause-room g c t = record {
  laid = c.in_ok-laid.ensures.laid t;
  tops = c.in_ok-laid.ensures.opened.tops;
  rise = c.in_ok-laid.ensures.opened.rise;
}
