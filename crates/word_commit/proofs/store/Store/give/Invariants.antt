use Rattle.std.proofs.Common.{◌≡◌, ◌*◌, ◌-◌}
use Rattle.word_commit.specs.Views.{gave}
use Rattle.word_commit.proofs.store.Store.give.Given as goal

abbrev pub ghosts-store : goal.ghosts-store
ghosts-store g a = record { then = λ step me found after. after ≡ (gave me.0 (a.word - 1024 * a.self.now.key.pages), me.1) }
