use Rattle.std.proofs.Common.{◌≡◌}
use Rattle.word_commit.specs.Views.{primed}
use Rattle.word_commit.proofs.store.Store.prime.Given as goal

abbrev pub ghosts-store : goal.ghosts-store
ghosts-store g a = record { then = λ step me found after. after ≡ (primed me.0 a.word a.new, me.1) }
