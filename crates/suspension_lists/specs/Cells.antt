-- What the words of waiting lists say.
use Rattle.std.specs.Prelude.{ℕ, pos, Bool, false, Option, Some, None, nat_eq}
use Rattle.heap_words.specs.declared.cell.Cell.{Cell}
use Rattle.heap_words.specs.declared.cell.Cell.TheVariants.{Unbound, Small, Cons, Status, Raw}
use Rattle.heap_words.specs.declared.cell.Stand.TheVariants.{Waiting}

-- the first entry of the waiting list of the place with this word, and 0 where none waits
abbrev pub list_of : Option Cell → ℕ
list_of (Some (Unbound e)) = e
list_of _ = 0

-- the entry to which a link leads, and 0 where it leads to none
abbrev pub link_of : Option Cell → ℕ
link_of (Some (Cons l)) = l
link_of _ = 0

-- the number that a word says, and 0 where it says none from 0 on
abbrev pub number_of : Option Cell → ℕ
number_of (Some (Small (pos n))) = n
number_of _ = 0

-- the process that an entry's first word says
abbrev pub process_of : Option Cell → Option ℕ
process_of (Some (Raw p)) = Some p
process_of _ = None

-- whether a status is that of a process which waits by the hang of this number
abbrev pub waits_by : ℕ → Option Cell → Bool
waits_by n (Some (Status (Waiting k))) = nat_eq k n
waits_by n _ = false
