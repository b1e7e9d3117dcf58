-- What a fetch from a shelf answers.
use Rattle.std.specs.Prelude.{◌≡◌, ℕ, ◌<◌, ◌≤◌, List, length, Option, Some, None, IsSomeAnd}
use Rattle.std.specs.Map.{lookup}
use Rattle.std.specs.Str.{bytes_eq}
use Rattle.logix_edge.specs.declared.shelf.Fetched.{Fetched}
use Rattle.logix_edge.specs.declared.shelf.Fetched.TheVariants.{Bytes, TooLong, Failed, NoMemory}
use Rattle.logix_edge.specs.Causes.{Rose}

-- a finite map: names, each with its bytes
abbrev pub Entries : Type 0
Entries = List (List ℕ × List ℕ)

-- the bytes under a name, if there is such a name
abbrev pub bytes_of : Entries → List ℕ → Option (List ℕ)
bytes_of entries name = lookup (λ held. bytes_eq held name) entries

-- a claim on what the shelf holds, where it tells that
abbrev pub Told : Option Entries → (Entries → Type 0) → Type 0
Told None claim = Unit {0}
Told (Some entries) claim = claim entries

-- no fault was counted
pub record IsQuiet (before now : ℕ) (was is : Option (List ℕ)) : Type 0 where
  pub count : now ≡ before
  pub last : is ≡ was

-- a fault was counted, of a fetch of this name
pub record NotesFault (before now : ℕ) (is : Option (List ℕ)) (name : List ℕ) : Type 0 where
  pub later : before ≤ now
  pub rose : Rose before now
  pub last : is ≡ Some name

-- a fault is counted exactly where the answer is that the fetch failed
abbrev pub CountsFaults : ℕ → ℕ → Option (List ℕ) → Option (List ℕ) → List ℕ → Fetched → Type 0
CountsFaults before now was is name (Bytes v) = IsQuiet before now was is
CountsFaults before now was is name TooLong = IsQuiet before now was is
CountsFaults before now was is name Failed = NotesFault before now is name
CountsFaults before now was is name NoMemory = IsQuiet before now was is

-- bytes are at most as many as the limit
abbrev pub IsWithin : ℕ → Fetched → Type 0
IsWithin limit (Bytes v) = length v.items ≤ limit
IsWithin limit TooLong = Unit {0}
IsWithin limit Failed = Unit {0}
IsWithin limit NoMemory = Unit {0}

-- what an answer says of the bytes under the name: that it gives them, that they are above the limit, or nothing
abbrev pub Agrees : Option (List ℕ) → ℕ → Fetched → Type 0
Agrees there limit (Bytes v) = there ≡ Some v.items
Agrees there limit TooLong = IsSomeAnd there (λ bytes. limit < length bytes)
Agrees there limit Failed = Unit {0}
Agrees there limit NoMemory = Unit {0}

-- A shelf was asked for a name: what it holds, the count of faults, before and now, and the name that failed last, which was and is.
pub record IsFetch (held : Option Entries) (before now : ℕ) (was is : Option (List ℕ)) (name : List ℕ) (limit : ℕ)
    (fetched : Fetched) : Type 0 where
  pub faults : CountsFaults before now was is name fetched
  pub within : IsWithin limit fetched
  pub told : Told held (λ entries. Agrees (bytes_of entries name) limit fetched)
