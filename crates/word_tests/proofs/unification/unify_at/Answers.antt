use Rattle.std.proofs.Common.{ℕ, List, sym, subst}
use Rattle.ro_unify.specs.Occurs.{Each}
use Rattle.ro_unify.specs.Alike.{Both}
use Rattle.ro_unify.proofs.Starting.{starts_holding, starts_tame}
use Rattle.word_tests.proofs.unification.unify_at.Goals as goal

pub unify-requires-clause-sound : goal.unify-requires-clause-sound
unify-requires-clause-sound g c =
    let laws = g.met.W.Words.laws in
    laws.stays_sound _ _ (laws.stays_sound _ _ c.requires.sound c.load-left.ensures.later) c.load-right.ensures.later

pub unify-requires-clause-holds : goal.unify-requires-clause-holds
unify-requires-clause-holds g c = starts_holding g.met.W.Words.laws _ _ _ c.in_ok-trail.ensures.kept c.in_ok-trail.ensures.binds

pub unify-requires-clause-leads : goal.unify-requires-clause-leads
unify-requires-clause-leads g c =
    let laws = g.met.W.Words.laws in
    let once = laws.stays_sound _ _ c.requires.sound c.load-left.ensures.later in
    let twice = laws.stays_sound _ _ once c.load-right.ensures.later in
    let left = laws.stays_leading _ _ _ c.load-right.ensures.later
    (laws.had_leads _ _ _ once (laws.had_given _ _ _ _ c.load-left.ensures.gave)) in
    let right = laws.had_leads _ _ _ twice (laws.had_given _ _ _ _ c.load-right.ensures.gave) in
    subst (λ (ps : List (ℕ × ℕ)). Each (Both (g.W.Words.leads c.load-right.new.self)) ps) (sym c.as_slice.ensures) ((left, right), tt)

pub unify-requires-clause-tame : goal.unify-requires-clause-tame
unify-requires-clause-tame g c =
    let laws = g.met.W.Words.laws in
    starts_tame laws _ _ _ c.in_ok-trail.ensures.kept c.in_ok-trail.ensures.binds
    (laws.stays_sound _ _ (laws.stays_sound _ _ c.requires.sound c.load-left.ensures.later) c.load-right.ensures.later)
