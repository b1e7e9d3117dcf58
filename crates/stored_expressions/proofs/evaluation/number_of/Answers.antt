use Rattle.std.proofs.Common.{ℕ, List, [], ◌∷◌, sym, subst}
use Rattle.heap_words.specs.Trails.{WordList}
use Rattle.heap_words.proofs.Keeps.{loaded_twice, still_says}
use Rattle.ro_unify.proofs.Ending.{tame_later}
use Rattle.guard_tests.specs.Guards.{Expresses, AreEvaluated}
use Rattle.stored_expressions.specs.Listing.{Lists}
use Rattle.stored_expressions.proofs.Listings.{listed_so}
use Rattle.stored_expressions.proofs.evaluation.number_of.Goals as goal

pub evaluate-requires-clause-tame : goal.evaluate-requires-clause-tame
evaluate-requires-clause-tame g c = tame_later g.met.W.Words.laws c.in_ok-list.ensures.loaded c.list.ensures.binds c.requires.tame

pub returns-clause-loaded : goal.returns-clause-loaded
returns-clause-loaded g c = loaded_twice g.met.W.Words.laws c.in_ok-list.ensures.loaded c.in_ok-end.ensures.loaded

pub returns-clause-evaluated : goal.returns-clause-evaluated
returns-clause-evaluated g c m i p s st t d =
    let listed = still_says g.met.W.Words.laws (λ m. Lists m (c.args.word ∷ []) [] c.list.new.steps.items) c.in_ok-end.ensures.loaded
    c.in_ok-list.ensures.lists m i in
    let evaluated : AreEvaluated m c.args.trail.now.binds c.args.trail.now.reads.items c.as_slice.result.now c.in_ok-end.end
    c.evaluate.new.trail.reads.items =
    subst (λ (bs : WordList). AreEvaluated m bs c.args.trail.now.reads.items c.as_slice.result.now c.in_ok-end.end
    c.evaluate.new.trail.reads.items) c.list.ensures.binds
    (subst (λ (rs : List ℕ). AreEvaluated m c.list.new.trail.binds rs c.as_slice.result.now c.in_ok-end.end
    c.evaluate.new.trail.reads.items) c.list.ensures.reads (c.in_ok-end.ensures.evaluated m i)) in
    evaluated p s st t (subst (Expresses p m t) (sym c.as_slice.ensures.value) (listed_so m p t c.args.word _ d listed))
