use Rattle.std.proofs.Common.{◌≡◌, ◌≤◌}
use Rattle.word_commit.specs.Views.{clocked}
use Rattle.word_commit.specs.Sights.{Sees}
use Rattle.word_commit.proofs.store.Store.clock.Given as goal

abbrev pub ghosts-load : goal.ghosts-load
ghosts-load g a = record {
  then = λ step me found after. (after ≡ (clocked me.0 found, me.1)) × (me.0.front ≤ found)
      × Sees g.F.Fits.means a.self.now.key after.0;
}
