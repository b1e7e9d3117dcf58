use Rattle.word_bench.proofs.tries.add_bound.Goals as goal

pub unify_once-requires-clause-leads : goal.unify_once-requires-clause-leads
unify_once-requires-clause-leads g c =
    let laws = g.met.W.Words.laws in
    let once = laws.stays_sound _ _ c.requires.sound c.load-left.ensures.later in
    laws.stays_leading _ _ _ c.load-right.ensures.later
    (laws.stays_leading _ _ _ c.load-bound.ensures.later
    (laws.had_leads _ _ _ once (laws.had_given _ _ _ _ c.load-left.ensures.gave)))

pub unify_once-requires-clause-also : goal.unify_once-requires-clause-also
unify_once-requires-clause-also g c =
    let laws = g.met.W.Words.laws in
    let once = laws.stays_sound _ _ c.requires.sound c.load-left.ensures.later in
    let twice = laws.stays_sound _ _ once c.load-bound.ensures.later in
    laws.stays_leading _ _ _ c.load-right.ensures.later (laws.had_leads _ _ _ twice (laws.had_given _ _ _ _ c.load-bound.ensures.gave))

pub add_again-requires-clause-leads : goal.add_again-requires-clause-leads
add_again-requires-clause-leads g c =
    let laws = g.met.W.Words.laws in
    let once = laws.stays_sound _ _ c.requires.sound c.load-left.ensures.later in
    laws.stays_leading _ _ _ c.unify_once.ensures.between
    (laws.stays_leading _ _ _ c.load-right.ensures.later
    (laws.stays_leading _ _ _ c.load-bound.ensures.later
    (laws.had_leads _ _ _ once (laws.had_given _ _ _ _ c.load-left.ensures.gave))))

pub add_again-requires-clause-also : goal.add_again-requires-clause-also
add_again-requires-clause-also g c =
    let laws = g.met.W.Words.laws in
    let once = laws.stays_sound _ _ c.requires.sound c.load-left.ensures.later in
    let twice = laws.stays_sound _ _ once c.load-bound.ensures.later in
    let thrice = laws.stays_sound _ _ twice c.load-right.ensures.later in
    laws.stays_leading _ _ _ c.unify_once.ensures.between (laws.had_leads _ _ _ thrice (laws.had_given _ _ _ _ c.load-right.ensures.gave))
