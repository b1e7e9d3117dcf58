use Rattle.word_bench.proofs.tries.unify_anew.Goals as goal

pub unify_rounds-requires-clause-leads : goal.unify_rounds-requires-clause-leads
unify_rounds-requires-clause-leads g c =
    let laws = g.met.W.Words.laws in
    let once = laws.stays_sound _ _ c.requires.sound c.load-left.ensures.later in
    laws.stays_leading _ _ _ c.load-right.ensures.later (laws.had_leads _ _ _ once (laws.had_given _ _ _ _ c.load-left.ensures.gave))

pub unify_rounds-requires-clause-also : goal.unify_rounds-requires-clause-also
unify_rounds-requires-clause-also g c =
    let laws = g.met.W.Words.laws in
    let once = laws.stays_sound _ _ c.requires.sound c.load-left.ensures.later in
    let twice = laws.stays_sound _ _ once c.load-right.ensures.later in
    laws.had_leads _ _ _ twice (laws.had_given _ _ _ _ c.load-right.ensures.gave)
