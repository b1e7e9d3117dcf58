use Rattle.std.proofs.Common.{arith}
use Rattle.word_texts.proofs.Steps.{writable_named, read_only_named}
use Rattle.word_texts.proofs.leaf.push_look.Goals as goal

pub push_open-requires-clause-known : goal.push_open-requires-clause-known
push_open-requires-clause-known g c =
    writable_named g.met.W.Words.laws _ c.in-Writable.place c.requires.sound (omega arith) (rw c.in-Writable.is at c.requires.leads)

pub push_open-requires-in-ReadOnly-clause-known : goal.push_open-requires-in-ReadOnly-clause-known
push_open-requires-in-ReadOnly-clause-known g c =
    read_only_named g.met.W.Words.laws _ c.in-ReadOnly.place c.requires.sound (omega arith) (rw c.in-ReadOnly.is at c.requires.leads)
