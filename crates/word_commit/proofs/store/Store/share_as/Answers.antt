use Rattle.std.proofs.Common.{arith}
use Rattle.word_commit.proofs.Shares.{splits_as}
use Rattle.word_commit.proofs.store.Store.share_as.Goals as goal

pub split_seat-requires : goal.split_seat-requires
split_seat-requires g c = let d = c.args.self.now in (
  c.requires.token,
  (let z = d.size in omega arith),
  splits_as g.F.Fits.means d.table.shared.key c.args.token.now.id c.args.token.now.me.0 g.N.Portion.quota c.args.quota c.requires.quota
      c.requires.rights c.requires.within,
)
