use Rattle.entry_lines.proofs.Agreeing.{still_store}
use Rattle.process_texts.proofs.Cells.{word_read}
use Rattle.process_texts.proofs.reading.word_at.Goals as goal

pub returns-clause-word : goal.returns-clause-word
returns-clause-word g c =
    word_read g.met.W.Words.laws c.args.addr c.in_ok-word.word c.in_ok-word.ensures.loaded.sound
    (still_store g.met.W.Words.laws c.word.ensures.between c.requires.reads.store) c.in_ok-word.ensures.word
