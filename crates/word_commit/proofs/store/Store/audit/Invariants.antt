use Rattle.std.proofs.Common.{◌≡◌, ◌≤◌}
use Rattle.word_commit.specs.Views.{Charge, left, granted}
use Rattle.word_commit.proofs.store.Store.audit.Given as goal

abbrev pub ghosts-load : goal.ghosts-load
ghosts-load g a = record { then = λ step me found after. (after ≡ me) × ((c : Charge) → left c me.0.purse ≤ granted c a.self.now.key) }
