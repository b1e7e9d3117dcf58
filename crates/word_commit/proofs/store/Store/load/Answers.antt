use Rattle.std.proofs.Common.{arith}
use Rattle.word_commit.proofs.Loads.{loads}
use Rattle.word_commit.proofs.store.Store.load.Goals as goal

pub load-requires : goal.load-requires
load-requires g c = let d = c.args.self.now in (
  c.requires.seat,
  (let z = d.size in let k = d.key in let p = c.requires.addr in omega arith),
  loads g.F.Fits.means d.table.shared.key d.table.shared.table_id.slots c.args.seat.now.token.id c.args.seat.now.token.me c.args.addr
      c.requires.addr,
)
