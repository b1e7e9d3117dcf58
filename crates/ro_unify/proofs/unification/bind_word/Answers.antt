use Rattle.heap_words.proofs.Keeps.{bound_loaded}
use Rattle.ro_unify.proofs.Ending.{bound_tame}
use Rattle.ro_unify.proofs.unification.bind_word.Goals as goal

pub returns-clause-loaded : goal.returns-clause-loaded
returns-clause-loaded g c =
    bound_loaded g.met.W.Words.laws c.args.at c.args.word c.requires.sound c.in_ok-bind.ensures.kept c.in_ok-bind.ensures.binds
    c.requires.leads c.requires.holds

pub returns-clause-tame : goal.returns-clause-tame
returns-clause-tame g c =
    bound_tame g.met.W.Words.laws c.args.at c.args.word c.requires.sound c.requires.holds c.requires.leads c.in_ok-bind.ensures.kept
    c.in_ok-bind.ensures.binds c.requires.free c.requires.seen c.requires.walked c.requires.tame
