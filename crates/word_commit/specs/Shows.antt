-- What contracts see of a store and of its seats.
use Rattle.std.specs.Prelude.{◌≡◌, ℕ}
use Rattle.word_commit.specs.declared.fits.Fits.{Ghosts}
use Rattle.word_commit.specs.declared.store.Store.{Store}
use Rattle.word_commit.specs.declared.store.Seat.{Seat}
use Rattle.word_commit.specs.declared.view.View.{View}
use Rattle.word_commit.specs.declared.view.Given.{Given}

module _ {F E L : Type 0} where
  -- with what the store was made
  abbrev pub given_of : Store F E L → Given
  given_of store = store.table.shared.key

  -- what the seat knows and has made
  abbrev pub view_of : {h : Ghosts F E L} → Seat F E L h → View E
  view_of seat = seat.token.me.0

  -- for how many entries more it has room
  abbrev pub spare_of : {h : Ghosts F E L} → Seat F E L h → ℕ
  spare_of seat = seat.spare

  -- the seat is one of the store's
  abbrev pub IsSeatOf : {h : Ghosts F E L} → Store F E L → Seat F E L h → Type 0
  IsSeatOf store seat = seat.token.table_id ≡ store.table.shared.table_id
