-- Workers with a seat each.
use Rattle.std.specs.Prelude.{◌≡◌, ◌≢◌, ℕ, ◌+◌, ◌<◌, ◌≤◌, length}
use Rattle.word_commit.specs.declared.store.Store.{Store}
use Rattle.word_commit.specs.Shows.{IsSeatOf, view_of, spare_of, given_of}
use Rattle.store_tests.specs.declared.purses.Transfer.{Transfer}
use Rattle.store_tests.specs.declared.purses.Purses.{Purses}
use Rattle.store_tests.specs.declared.workers.Worker.{Worker}
use Rattle.store_tests.specs.Transfers.{IsAtRest}

-- it can make so many transfers between two pages of the store
pub record IsReady (store : Store Purses Transfer Transfer) (wanted : ℕ) (w : Worker) : Type 0 where
  pub seat : IsSeatOf store w.seat
  pub pages : (w.from < (given_of store).pages) × (w.to < (given_of store).pages) × (w.to ≢ w.from)
  pub rest : IsAtRest (view_of w.seat)
  pub room : wanted ≤ spare_of w.seat
  pub funds : wanted ≤ (view_of w.seat).purse.moves
  pub none : length (view_of w.seat).entries ≡ 0
  pub rights : (view_of w.seat).purse.rights ≡ 1

-- it made as many as it counted, and counted no more than were wanted
pub record IsDone (store : Store Purses Transfer Transfer) (wanted : ℕ) (w : Worker) : Type 0 where
  pub seat : IsSeatOf store w.seat
  pub rest : IsAtRest (view_of w.seat)
  pub few : w.tally.done + w.tally.busy ≤ wanted
  pub entries : length (view_of w.seat).entries ≡ w.tally.done
  pub rights : (view_of w.seat).purse.rights ≡ 1
