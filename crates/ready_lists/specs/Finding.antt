-- The processes that were found so far. Only the crate's private clauses cite this file.
use Rattle.std.specs.Prelude.{◌≡◌, ℕ, ◌+◌, ◌<◌, pos, Bool, true, false, List, Option, Some, nat_eq, Contains}
use Rattle.std.specs.List.{IsDistinct}
use Rattle.heap_words.specs.Heaps.{inside_at}
use Rattle.heap_words.specs.declared.cell.Cell.{Cell}
use Rattle.heap_words.specs.declared.cell.Cell.TheVariants.{Small, Status}
use Rattle.heap_words.specs.declared.cell.Stand.{Stand}
use Rattle.word_states.specs.Words.{At}
use Rattle.ready_lists.specs.Ready.{stands_ready, stands_live}
use Rattle.ready_lists.specs.declared.listing.Found.{Found}
use Rattle.ready_lists.specs.declared.listing.Sought.{Sought}
use Rattle.ready_lists.specs.declared.listing.Sought.TheVariants as sought

-- how those stand that are sought
abbrev pub stands_so : Sought → Stand → Bool
stands_so sought.Ready = stands_ready
stands_so sought.Live = stands_live

-- the status of a process that stands so
abbrev pub is_status : (Stand → Bool) → Option Cell → Bool
is_status stands (Some (Status d)) = stands d
is_status stands _ = false

-- the process stands so, and this is the number in its name word, where that says one
pub record IsFound (stands : Stand → Bool) (ws : List ℕ) (f : Found) : Type 0 where
  pub status : (d : Stand) × (stands d ≡ true) × At (inside_at ws) f.process (Status d)
  pub number : (n : ℕ) → At (inside_at ws) (f.process + 1) (Small (pos n)) → f.name ≡ n

-- both are at one address
abbrev pub is_one : Found → Found → Bool
is_one f g = nat_eq f.process g.process

-- exactly those below the address are in the list, each once
pub record HasFound (stands : Stand → Bool) (ws : List ℕ) (n : ℕ) (fs : List Found) : Type 0 where
  pub all : (a : ℕ) → a < n → (d : Stand) → stands d ≡ true → At (inside_at ws) a (Status d)
      → (f : Found) × Contains fs f × (f.process ≡ a)
  pub only : (f : Found) → Contains fs f → (f.process < n) × IsFound stands ws f
  pub once : IsDistinct is_one fs
