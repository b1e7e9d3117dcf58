use Rattle.std.proofs.Common.{arith, ◌+◌, ◌*◌}
use Rattle.word_commit.proofs.Clocks.{clocks_at}
use Rattle.word_commit.proofs.store.Store.clock.Goals as goal

pub load-requires : goal.load-requires
load-requires g c = let d = c.args.self.now in (
  c.requires.seat,
  (let z = d.size in omega arith),
  clocks_at g.F.Fits.means d.table.shared.key d.table.shared.table_id.slots c.args.seat.now.token.id c.args.seat.now.token.me
      (1024 * d.pages + d.pages) (let k = d.key in omega arith),
)
