use Rattle.std.proofs.Common.{arith, ◌+◌, ◌*◌}
use Rattle.word_commit.proofs.Stamps.{stamps_at}
use Rattle.word_commit.proofs.store.Store.stamp_as.Goals as goal

pub fetch_add-requires : goal.fetch_add-requires
fetch_add-requires g c = let d = c.args.self.now in (
  c.requires.token,
  (let z = d.size in omega arith),
  stamps_at g.F.Fits.means d.table.shared.key d.table.shared.table_id.slots c.args.token.now.id (1024 * d.pages + d.pages)
      c.args.token.now.me c.args.entry.now g.N.Turning.next
      (let k = d.key in omega arith) c.requires.next g.met.F.Fits.laws c.requires.alive c.requires.affords c.requires.may,
)
