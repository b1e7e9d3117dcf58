use Rattle.trial_machine.proofs.Loading.{loads_on}
use Rattle.move_plans.proofs.Reading.{mover_read}
use Rattle.move_plans.proofs.mover.load_mover.Goals as goal

pub returns-clause-loaded : goal.returns-clause-loaded
returns-clause-loaded g c =
    loads_on g.met.W.Words.laws c.args.trail.now.kept c.load_word.new.trail.kept c.load_word-2.new.trail.kept c.args.words.now
    c.load_word.new.words c.load_word-2.new.words c.load_word.ensures.between c.load_word-2.ensures.between
    c.in_ok-status.ensures.loaded c.in_ok-name.ensures.loaded

pub returns-clause-mover : goal.returns-clause-mover
returns-clause-mover g c =
    mover_read c.load_word-2.new.trail.kept c.args.process c.in_ok-status.status c.in_ok-name.name c.mover_in.result
    (c.in_ok-name.ensures.loaded.grows c.args.process c.in_ok-status.status c.in_ok-status.ensures.word) c.in_ok-name.ensures.word
    c.mover_in.ensures
