use Rattle.std.proofs.Common.{◌∙◌, length, ap}
use Rattle.page_layout.specs.Laying.{tops_of}
use Rattle.page_layout.specs.Hangs.{entry_of, heads_at, entries_at}
use Rattle.page_layout.specs.Writing.{written}
use Rattle.page_layout.proofs.Entries.{total_threes, heads_are, entries_are, hang_put}
use Rattle.page_layout.proofs.hang.put_hang.Goals as goal

pub put_entries-requires-clause-size : goal.put_entries-requires-clause-size
put_entries-requires-clause-size c = c.requires.laid.size ∙ total_threes (length c.args.lists.now)

pub returns : goal.returns
returns c n =
    hang_put (entry_of c.args.table.now c.args.lists.now) n c.args.process c.args.lists.now (tops_of c.args.rooms.now)
    (heads_at c.args.table.now 0 c.args.lists.now) (entries_at c.args.table.now n c.args.process 0 c.args.lists.now)
    (written n c.clear.new.self.items) (written n c.put.new.writes.items) (written n c.put_heads.new.writes.items)
    (written n c.put_tops.new.writes.items) (written n c.put_entries.new.writes.items) (ap (written n) c.clear.ensures.items)
    (c.in_ok-put.ensures n) (c.in_ok-put_heads.ensures n) (c.in_ok-put_tops.ensures n) (c.in_ok-put_entries.ensures n)
    (heads_are c.args.table.now c.args.lists.now c.requires.once)
    (entries_are c.args.table.now n c.args.process c.args.lists.now c.requires.once)
