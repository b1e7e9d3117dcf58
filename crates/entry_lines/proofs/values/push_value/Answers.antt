use Rattle.unify_terms.specs.WordsOfTries.{memory_of}
use Rattle.entry_lines.proofs.Agreeing.{agrees_with, still_store}
use Rattle.entry_lines.proofs.ShownValues.{value_adds}
use Rattle.entry_lines.proofs.values.push_value.Goals as goal

pub returns-clause-text : goal.returns-clause-text
returns-clause-text g c u book s has stands j at =
    value_adds u book s stands c.args.trail.now.binds c.args.names.now c.args.nodes c.encode-word.result c.args.place _ _ j
    c.requires.reads.free c.encode-word.ensures.back at
    (c.in_ok-value_text.ensures.shown (memory_of u) (agrees_with g.met.W.Words.laws u c.in_ok-value_text.ensures.loaded.sound
    (still_store g.met.W.Words.laws c.value_text.ensures.between c.requires.reads.store) has))
