-- A shelf in memory, as its contracts speak of it.
use Rattle.std.specs.Prelude.{◌≡◌, ℕ, List, [], ◌∷◌, map, Option, is_none, Bool, true, false, not, ◌&&◌, ◌||◌}
use Rattle.std.specs.List.{list_any, zip}
use Rattle.std.specs.Str.{bytes_eq}
use Rattle.std.specs.String.{string_bytes}
use Rattle.logix_edge.specs.declared.memory_shelf.MemoryShelf.{MemoryShelf}
use Rattle.logix_edge.specs.declared.shelf.Fetched.{Fetched}
use Rattle.logix_edge.specs.declared.shelf.Fetched.TheVariants.{Bytes, TooLong, Failed, NoMemory}
use Rattle.logix_edge.specs.Causes.{counted, is_listed}
use Rattle.logix_edge.specs.LastFailed.{last_name}
use Rattle.logix_edge.specs.Shelves.{Entries, bytes_of}

-- no name is there twice
abbrev pub names_differ : List (List ℕ) → Bool
names_differ [] = true
names_differ (name ∷ names) = not (list_any (bytes_eq name) names) && names_differ names

-- what it holds: each name with the text at its place
abbrev pub shelf_entries : MemoryShelf → Entries
shelf_entries shelf = zip (map string_bytes shelf.names) (map (λ text. text.items) shelf.texts)

-- how many fetches there were
abbrev pub shelf_calls : MemoryShelf → ℕ
shelf_calls shelf = shelf.calls.made

-- the numbers of the fetches that are to fail
abbrev pub shelf_fails : MemoryShelf → List ℕ
shelf_fails shelf = shelf.calls.fails

-- how many fetches failed
abbrev pub shelf_faults : MemoryShelf → ℕ
shelf_faults shelf = shelf.faults.count

-- the name of the fetch that failed last
abbrev pub shelf_last : MemoryShelf → Option (List ℕ)
shelf_last shelf = last_name shelf.faults

-- the next fetch, of this name, is one of those that are to fail, or the name is lacking
abbrev pub fetch_fails : MemoryShelf → List ℕ → Bool
fetch_fails shelf name =
    is_listed (shelf_fails shelf) (counted (shelf_calls shelf)) || is_none (bytes_of (shelf_entries shelf) name)

-- a fetch fails if it has to, and only then, unless memory lacks
abbrev pub FailsIf : Bool → Fetched → Type 0
FailsIf fails (Bytes v) = fails ≡ false
FailsIf fails TooLong = fails ≡ false
FailsIf fails Failed = fails ≡ true
FailsIf fails NoMemory = Unit {0}
