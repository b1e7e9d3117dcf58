use Rattle.std.proofs.Common.{sym}
use Rattle.std.specs.Slots.{slots_items}
use Rattle.word_commit.proofs.Ends.{taken_index}
use Rattle.word_commit.proofs.closed.ClosedWords.word.Goals as goal

pub returns : goal.returns
returns c = let s = c.args.self.now in
    sym (taken_index (slots_items s.table.words) s.len c.args.addr c.word.result c.requires c.word.ensures)
