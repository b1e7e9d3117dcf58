-- Pieces found room.
use Rattle.std.specs.Prelude.{ℕ, List}
use Rattle.heap_words.specs.Trails.{WordList, word_at}
use Rattle.page_layout.specs.declared.rooms.Room.{Room}
use Rattle.page_layout.specs.Laying.{IsLaid}
use Rattle.page_layout.specs.Openings.{AreTops}
use Rattle.page_layout.specs.Looking.{Rise}

-- Pieces of these sizes are laid into rooms whose tops were read, which stand in ascending order.
pub record HasRoom (kept : WordList) (rooms : List Room) (table sizes : List ℕ) : Type 0 where
  pub laid : IsLaid rooms table sizes
  pub tops : AreTops rooms (word_at kept)
  pub rise : Rise rooms
