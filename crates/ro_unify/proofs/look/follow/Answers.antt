use Rattle.std.proofs.Common.{sym, inl, refl}
use Rattle.ro_unify.proofs.Leads.{place_known, step_leads}
use Rattle.ro_unify.proofs.look.follow.Goals as goal

pub word-requires-clause-known : goal.word-requires-clause-known
word-requires-clause-known g c =
    place_known g.met.W.Words.laws _ _ _ _ _ _ c.requires.sound c.requires.leads (sym c.in-Some.ensures) (inl refl)

pub returns-in_ok-next-in-None-bound-clause-leads : goal.returns-in_ok-next-in-None-bound-clause-leads
returns-in_ok-next-in-None-bound-clause-leads g c =
    rw c.through.ensures (step_leads g.met.W.Words.laws _ _ _ _ c.in_ok-next-in-None-bound.ensures.loaded.sound
    (λ b r. g.met.W.Words.laws.stays_known _ _ _ c.word.ensures.between
    (place_known g.met.W.Words.laws _ _ _ _ _ _ c.requires.sound c.requires.leads (sym c.in-Some.ensures) r))
    (g.met.W.Words.laws.had_leads _ _ _ c.in_ok-next-in-None-bound.ensures.loaded.sound c.in_ok-next-in-None-bound.ensures.had))
