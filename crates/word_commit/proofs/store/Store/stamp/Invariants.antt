use Rattle.std.proofs.Common.{suc}
use Rattle.word_commit.specs.Views.{stamped}
use Rattle.word_commit.proofs.store.Store.stamp.Given as goal

abbrev pub ghosts-stamp_as : goal.ghosts-stamp_as
ghosts-stamp_as g a = record { next = λ v found. stamped g.F.Fits.means v a.entry.now (suc found) }
