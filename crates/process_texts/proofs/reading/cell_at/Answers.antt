use Rattle.std.proofs.Common.{subst, sym}
use Rattle.process_texts.specs.Reading.{CellRead}
use Rattle.process_texts.proofs.Cells.{cell_read}
use Rattle.process_texts.proofs.reading.cell_at.Goals as goal

pub returns-clause-cell : goal.returns-clause-cell
returns-clause-cell g c =
    subst (CellRead c.word_at.new.trail.kept c.args.addr) (sym c.decode.ensures.value)
    (cell_read _ c.args.addr c.in_ok-word.word c.in_ok-word.ensures.word)
