use Rattle.trial_machine.proofs.Loading.{loads_on}
use Rattle.move_plans.proofs.room.find_room.Goals as goal

pub returns-clause-loaded : goal.returns-clause-loaded
returns-clause-loaded g c =
    loads_on g.met.W.Words.laws c.args.trail.now.kept c.lay_from.new.trail.kept c.lay_from-2.new.trail.kept c.args.words.now
    c.lay_from.new.words c.lay_from-2.new.words c.lay_from.ensures.between c.lay_from-2.ensures.between
    c.in_ok-laid.ensures.loaded c.in_ok-laid_anew.ensures.loaded
