use Rattle.unify_terms.proofs.UnifyInWords.{unify_so}
use Rattle.unify_terms.proofs.unify_words.Goals as goal

pub returns-clause-unified : goal.returns-clause-unified
returns-clause-unified g c m i p names s ts tps st d =
    unify_so p m names s c.args.trail.now.binds c.args.trail.now.reads.items c.args.pairs.now _
    (c.in_ok-end.ensures.unifies m i) ts tps st d
