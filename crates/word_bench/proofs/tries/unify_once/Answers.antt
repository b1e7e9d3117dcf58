use Rattle.ro_unify.proofs.Starting.{starts_tame}
use Rattle.word_bench.proofs.tries.unify_once.Goals as goal

pub unify-requires-clause-tame : goal.unify-requires-clause-tame
unify-requires-clause-tame g c = starts_tame g.met.W.Words.laws _ _ _ c.clear.ensures.kept c.clear.ensures.binds c.requires.sound
