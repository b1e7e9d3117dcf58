use Rattle.std.proofs.Common.{arith, ◌+◌, ◌*◌, ◌-◌}
use Rattle.word_commit.proofs.Takes.{gives_at}
use Rattle.word_commit.proofs.store.Store.give.Goals as goal

pub store-requires : goal.store-requires
store-requires g c = let d = c.args.self.now in (
  c.requires.seat,
  (let z = d.size in let k = d.key in let p = c.requires.page_there in omega arith),
  gives_at g.F.Fits.means d.table.shared.key d.table.shared.table_id.slots c.args.seat.now.token.id c.args.seat.now.token.me c.args.page
      (1024 * d.pages + c.args.page) (1024 * d.pages + c.args.page - 1024 * d.table.shared.key.pages)
      (let k = d.key in omega arith) (let k = d.key in omega arith) c.requires.page_there c.requires.page c.requires.over,
)
