use Rattle.std.proofs.Common.{ap, false}
use Rattle.ro_unify.specs.Value.{leads_on}
use Rattle.ro_unify.proofs.Chains.{open_seen}
use Rattle.ro_unify.proofs.Ending.{tame_later}
use Rattle.ro_unify.proofs.Turns.{differ}
use Rattle.ro_unify.proofs.Walkings.{link_walked, open_later}
use Rattle.ro_unify.proofs.unification.order.Goals as goal

pub bind_word-requires-clause-tame : goal.bind_word-requires-clause-tame
bind_word-requires-clause-tame g c =
    tame_later g.met.W.Words.laws c.in_ok-is_older_place.ensures.loaded c.is_older_place.ensures.binds c.requires.tame

pub bind_word-requires-clause-seen : goal.bind_word-requires-clause-seen
bind_word-requires-clause-seen g c =
    open_seen _ _ c.args.q
    (open_later g.met.W.Words.laws c.args.q c.in_ok-is_older_place.ensures.loaded c.is_older_place.ensures.binds c.requires.unbound.1).1

pub bind_word-requires-clause-walked : goal.bind_word-requires-clause-walked
bind_word-requires-clause-walked g c =
    link_walked _ _ _ c.args.q c.args.p c.encode.result false
    (open_later g.met.W.Words.laws c.args.p c.in_ok-is_older_place.ensures.loaded c.is_older_place.ensures.binds c.requires.unbound.0)
    (differ c.args.p c.args.q c.requires.differ) (ap (leads_on false) c.encode.ensures.back)

pub bind_word-requires-else-branch-clause-tame : goal.bind_word-requires-else-branch-clause-tame
bind_word-requires-else-branch-clause-tame g c =
    tame_later g.met.W.Words.laws c.in_ok-is_older_place.ensures.loaded c.is_older_place.ensures.binds c.requires.tame

pub bind_word-requires-else-branch-clause-seen : goal.bind_word-requires-else-branch-clause-seen
bind_word-requires-else-branch-clause-seen g c =
    open_seen _ _ c.args.p
    (open_later g.met.W.Words.laws c.args.p c.in_ok-is_older_place.ensures.loaded c.is_older_place.ensures.binds c.requires.unbound.0).1

pub bind_word-requires-else-branch-clause-walked : goal.bind_word-requires-else-branch-clause-walked
bind_word-requires-else-branch-clause-walked g c =
    link_walked _ _ _ c.args.p c.args.q c.encode-else-branch.result false
    (open_later g.met.W.Words.laws c.args.q c.in_ok-is_older_place.ensures.loaded c.is_older_place.ensures.binds c.requires.unbound.1)
    c.requires.differ (ap (leads_on false) c.encode-else-branch.ensures.back)
