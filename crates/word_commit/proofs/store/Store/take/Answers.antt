use Rattle.std.proofs.Common.{arith, ◌+◌, ◌*◌, ◌-◌}
use Rattle.word_commit.proofs.Takes.{takes_at}
use Rattle.word_commit.proofs.store.Store.take.Goals as goal

pub swap-found-requires : goal.swap-found-requires
swap-found-requires g c = let d = c.args.self.now in (
  c.requires.seat,
  (let z = d.size in let k = d.key in let p = c.requires.page in omega arith),
  takes_at g.F.Fits.means d.table.shared.key d.table.shared.table_id.slots c.args.seat.now.token.id c.args.seat.now.token.me c.args.page
      (1024 * d.pages + c.args.page) (1024 * d.pages + c.args.page - 1024 * d.table.shared.key.pages)
      (let k = d.key in omega arith) (let k = d.key in omega arith) c.requires.page c.args.seat.now.alive c.requires.other,
)
