use Rattle.tame_commits.proofs.Settling.{settled_tame}
use Rattle.tame_commits.proofs.commits_are_tame.Goals as goal

pub returns : goal.returns
returns g c settled ps is =
    settled_tame g.met.W.Words.laws c.args.trail.now.kept c.args.trail.now.binds c.args.words.now _ c.requires.sound c.requires.holds
    c.requires.tame is.value is.opened settled ps is
