-- Workers with a seat each.
use Rattle.std.specs.Prelude.{ℕ, ◌+◌, ◌<◌, ◌≤◌}
use Rattle.word_commit.specs.declared.store.Store.{Store}
use Rattle.word_commit.specs.Shows.{IsSeatOf, view_of, spare_of, given_of}
use Rattle.store_bench.specs.declared.counts.Count.{Count}
use Rattle.store_bench.specs.declared.counts.Counts.{Counts}
use Rattle.store_bench.specs.declared.workers.Worker.{Worker}
use Rattle.store_bench.specs.Spells.{IsAtRest}

-- it can make so many entries in pages of the store
pub record IsReady (store : Store Counts Count Count) (rounds : ℕ) (w : Worker) : Type 0 where
  pub seat : IsSeatOf store w.seat
  pub rest : IsAtRest (view_of w.seat)
  pub room : rounds ≤ spare_of w.seat
  pub funds : rounds ≤ (view_of w.seat).purse.moves
  pub ring : (0 < w.ring.spread) × (w.ring.first + w.ring.spread ≤ (given_of store).pages)
