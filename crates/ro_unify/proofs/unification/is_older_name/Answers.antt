use Rattle.ro_unify.proofs.Leads.{name_known}
use Rattle.ro_unify.proofs.unification.is_older_name.Goals as goal

pub both-requires-clause-known : goal.both-requires-clause-known
both-requires-clause-known g c =
    rw c.name_of.ensures (name_known g.met.W.Words.laws _ c.args.p c.requires.sound c.ranges.p c.requires.leads.0)

pub both-requires-clause-also : goal.both-requires-clause-also
both-requires-clause-also g c =
    rw c.name_of-2.ensures (name_known g.met.W.Words.laws _ c.args.q c.requires.sound c.ranges.q c.requires.leads.1)
