use Rattle.ro_unify.proofs.Starting.{starts_holding, starts_tame}
use Rattle.word_tests.proofs.value_texts.text_at.Goals as goal

pub value_text-requires-clause-sound : goal.value_text-requires-clause-sound
value_text-requires-clause-sound g c = g.met.W.Words.laws.stays_sound _ _ c.requires.sound c.load-word.ensures.later

pub value_text-requires-clause-holds : goal.value_text-requires-clause-holds
value_text-requires-clause-holds g c = starts_holding g.met.W.Words.laws _ _ _ c.in_ok-trail.ensures.kept c.in_ok-trail.ensures.binds

pub value_text-requires-clause-leads : goal.value_text-requires-clause-leads
value_text-requires-clause-leads g c =
    let laws = g.met.W.Words.laws in
    laws.had_leads _ _ _ (laws.stays_sound _ _ c.requires.sound c.load-word.ensures.later)
    (laws.had_given _ _ _ _ c.load-word.ensures.gave)

pub value_text-requires-clause-tame : goal.value_text-requires-clause-tame
value_text-requires-clause-tame g c =
    let laws = g.met.W.Words.laws in
    starts_tame laws _ _ _ c.in_ok-trail.ensures.kept c.in_ok-trail.ensures.binds
    (laws.stays_sound _ _ c.requires.sound c.load-word.ensures.later)
