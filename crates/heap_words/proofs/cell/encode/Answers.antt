use Rattle.std.proofs.Common.{ap, ◌∙◌}
use Rattle.heap_words.specs.Cells.{decoded}
use Rattle.heap_words.proofs.Encodings.{decoded_encoded}
use Rattle.heap_words.proofs.cell.encode.Goals as goal

pub returns-clause-back : goal.returns-clause-back
returns-clause-back c = ap decoded c.word_of.ensures ∙ decoded_encoded c.args.cell c.requires
