use Rattle.std.proofs.Common.{◌≡◌, ◌*◌, ◌-◌, ◌<◌}
use Rattle.word_commit.specs.Views.{all_rights, took}
use Rattle.word_commit.proofs.store.Store.take.Given as goal

abbrev pub ghosts-swap : goal.ghosts-swap
ghosts-swap g a = record {
  then = λ step me found after. (after ≡ (took me.0 (a.word - 1024 * a.self.now.key.pages) found, me.1))
      × (found < 2) × (me.0.purse.rights ≡ all_rights → found ≡ 0);
}
