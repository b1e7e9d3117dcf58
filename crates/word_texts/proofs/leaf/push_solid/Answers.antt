use Rattle.std.proofs.Common.{sym}
use Rattle.word_texts.proofs.Steps.{long_known}
use Rattle.word_texts.proofs.leaf.push_solid.Goals as goal

pub word-requires-clause-known : goal.word-requires-clause-known
word-requires-clause-known g c = long_known g.met.W.Words.laws _ _ _ _ c.requires.sound c.requires.leads (sym c.in-Long.ensures)
