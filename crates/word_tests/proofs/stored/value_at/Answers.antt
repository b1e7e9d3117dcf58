use Rattle.ro_unify.proofs.Starting.{starts_holding, starts_tame}
use Rattle.word_tests.proofs.stored.value_at.Goals as goal

pub number_of-requires-clause-sound : goal.number_of-requires-clause-sound
number_of-requires-clause-sound g c = g.met.W.Words.laws.stays_sound _ _ c.requires.sound c.load-word.ensures.later

pub number_of-requires-clause-holds : goal.number_of-requires-clause-holds
number_of-requires-clause-holds g c = starts_holding g.met.W.Words.laws _ _ _ c.in_ok-trail.ensures.kept c.in_ok-trail.ensures.binds

pub number_of-requires-clause-leads : goal.number_of-requires-clause-leads
number_of-requires-clause-leads g c =
    let laws = g.met.W.Words.laws in
    let once = laws.stays_sound _ _ c.requires.sound c.load-word.ensures.later in
    laws.had_leads _ _ _ once (laws.had_given _ _ _ _ c.load-word.ensures.gave)

pub number_of-requires-clause-tame : goal.number_of-requires-clause-tame
number_of-requires-clause-tame g c =
    let laws = g.met.W.Words.laws in
    starts_tame laws _ _ _ c.in_ok-trail.ensures.kept c.in_ok-trail.ensures.binds
    (laws.stays_sound _ _ c.requires.sound c.load-word.ensures.later)
