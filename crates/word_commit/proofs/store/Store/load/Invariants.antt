use Rattle.std.proofs.Common.{◌≡◌}
use Rattle.word_commit.specs.Views.{loaded}
use Rattle.word_commit.specs.Sights.{Tells}
use Rattle.word_commit.proofs.store.Store.load.Given as goal

abbrev pub ghosts-load : goal.ghosts-load
ghosts-load g a = record {
  then = λ step me found after. (after ≡ (loaded g.F.Fits.means me.0 a.word found, me.1))
      × Tells g.F.Fits.means a.self.now.key me.0 after.0 a.word found;
}
