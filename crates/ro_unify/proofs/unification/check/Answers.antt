use Rattle.std.proofs.Common.{ap, ◌∙◌, [], ◌∷◌, ◌++◌}
use Rattle.ro_unify.specs.Unify.{binding}
use Rattle.ro_unify.proofs.Chains.{open_seen}
use Rattle.ro_unify.proofs.Ending.{tame_later}
use Rattle.ro_unify.proofs.Walkings.{open_later}
use Rattle.ro_unify.proofs.Turns.{is_absent, is_found}
use Rattle.ro_unify.proofs.unification.check.Goals as goal

pub returns-then-branch-clause-does : goal.returns-then-branch-clause-does
returns-then-branch-clause-does g c m i =
    is_found c.args.trail.now.binds m c.args.trail.now.reads.items c.args.at c.args.word c.occurs.new.trail.reads.items
    c.in_ok-occurs.field-0 c.if-branch.true (c.in_ok-occurs.ensures.found m i)

pub returns-in_ok-bind_word-clause-does : goal.returns-in_ok-bind_word-clause-does
returns-in_ok-bind_word-clause-does g c m i =
    is_absent c.args.trail.now.binds m c.args.trail.now.reads.items c.args.at c.args.word c.occurs.new.trail.reads.items
    c.in_ok-occurs.field-0 _ _ c.if-branch.false
    (c.in_ok-occurs.ensures.found m (rw c.bind_word.ensures.kept at i))
    (c.in_ok-bind_word.ensures.binds ∙ ap
    (λ bs. bs ++ binding c.args.at c.args.word ∷ []) c.occurs.ensures.binds) c.bind_word.ensures.reads

pub bind_word-requires-clause-tame : goal.bind_word-requires-clause-tame
bind_word-requires-clause-tame g c = tame_later g.met.W.Words.laws c.in_ok-occurs.ensures.loaded c.occurs.ensures.binds c.requires.tame

pub bind_word-requires-clause-seen : goal.bind_word-requires-clause-seen
bind_word-requires-clause-seen g c =
    open_seen _ _ c.args.at
    (open_later g.met.W.Words.laws c.args.at c.in_ok-occurs.ensures.loaded c.occurs.ensures.binds c.requires.unbound).1

pub returns-then-branch-clause-tame : goal.returns-then-branch-clause-tame
returns-then-branch-clause-tame g c = tame_later g.met.W.Words.laws c.in_ok-occurs.ensures.loaded c.occurs.ensures.binds c.requires.tame
