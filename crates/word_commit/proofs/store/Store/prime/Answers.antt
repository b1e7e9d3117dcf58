use Rattle.std.proofs.Common.{arith}
use Rattle.word_commit.proofs.Writes.{primes}
use Rattle.word_commit.proofs.store.Store.prime.Goals as goal

pub store-requires : goal.store-requires
store-requires g c = let d = c.args.self.now in let f = c.requires.free in (
  c.requires.seat,
  (let z = d.size in let k = d.key in let p = c.requires.addr in omega arith),
  primes g.F.Fits.means d.table.shared.key d.table.shared.table_id.slots c.args.seat.now.token.id c.args.seat.now.token.me c.args.addr
      c.args.word f.0 c.requires.idle f.1 f.2,
)
