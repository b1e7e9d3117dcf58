use Rattle.unify_terms.specs.WordsOfTries.{memory_of}
use Rattle.entry_lines.proofs.Agreeing.{agrees_with, still_store}
use Rattle.entry_lines.proofs.ShownValues.{term_adds}
use Rattle.process_texts.proofs.reading.push_value.Goals as goal

pub returns-clause-text : goal.returns-clause-text
returns-clause-text g c u vs bound has says t d =
    term_adds u vs bound says c.args.trail.now.binds c.args.names.now _ c.args.word _ _ t c.requires.reads.free d
    (c.in_ok-value_text.ensures.shown (memory_of u) (agrees_with g.met.W.Words.laws u c.in_ok-value_text.ensures.loaded.sound
    (still_store g.met.W.Words.laws c.value_text.ensures.between c.requires.reads.store) has))
