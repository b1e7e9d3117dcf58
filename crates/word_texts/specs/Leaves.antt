-- The texts of values without parts, as words say them. They are texts also where the words stand for no term.
use Rattle.std.specs.Prelude.{ℕ, ◌+◌, ◌-◌, ◌*◌, ◌/◌, ◌%◌, ℤ, pos, negsuc, List, [], ◌++◌, Option, Some, if◌then◌else◌, nat_lt, codes}
use Rattle.std.specs.Fmt.{signed_decimal}
use Rattle.heap_words.specs.Cells.{decoded}
use Rattle.heap_words.specs.Trails.{Memory}
use Rattle.heap_words.specs.declared.cell.Cell.{Cell}
use Rattle.heap_words.specs.declared.cell.Cell.TheVariants as cell
use Rattle.ro_unify.specs.declared.look.Look.{Look}
use Rattle.ro_unify.specs.declared.look.Look.TheVariants.{Writable, ReadOnly, Solid}
use Rattle.word_states.specs.Numbers.{low_bits}
use Rattle.fcp_model.specs.declared.run.Place.{Place}
use Rattle.fcp_model.specs.Places.{place}
use Rattle.fcp_model.specs.Spelling.{Bytes, string_text, name_at, place_text}
use Rattle.word_texts.specs.declared.leaf.Leaf.{Leaf}
use Rattle.word_texts.specs.declared.leaf.Leaf.TheVariants.{Number, Long, Text, Nil, Unknown}

-- the place of a name: 268,435,456 times the entry, and the number
abbrev pub place_named : ℤ → Place
place_named (pos n) = place (n / 268435456) (n % 268435456)
place_named (negsuc n) = place 0 0

-- the place of a name's word
abbrev pub place_of : Option Cell → Place
place_of (Some (cell.Small z)) = place_named z
place_of _ = place 0 0

-- the number of so many bits, of which the 64th counts below 0
abbrev pub signed : ℕ → ℤ
signed x = if nat_lt x 0x8000000000000000 then pos x else negsuc (0xffffffffffffffff - x)

-- the number whose upper eight bits are h, and whose lower 56 bits the cell has
abbrev pub long_number : ℕ → Option Cell → ℤ
long_number h (Some (cell.Small low)) = signed (h * 0x100000000000000 + low_bits low)
long_number h _ = pos 0

-- what a word without parts is
abbrev pub leaf_of : Option Cell → Leaf
leaf_of (Some (cell.Small z)) = Number z
leaf_of (Some (cell.Wide a h)) = Long a h
leaf_of (Some (cell.Str s)) = Text s
leaf_of (Some cell.Nil) = Nil
leaf_of _ = Unknown

-- its text
abbrev pub solid_text : Memory → List Bytes → Leaf → Bytes
solid_text m names (Number z) = signed_decimal z
solid_text m names (Long a h) = signed_decimal (long_number h (decoded (m a)))
solid_text m names (Text s) = string_text (name_at names s.0)
solid_text m names Nil = codes "[]"
solid_text m names Unknown = []

-- the text of the unbound place at a, whose name stands before its word
abbrev pub open_text : Memory → ℕ → Bytes
open_text m a = place_text (place_of (decoded (m (a - 1))))

-- the text of a value without parts
abbrev pub look_text : Memory → List Bytes → Look → Bytes
look_text m names (Writable a) = open_text m a
look_text m names (ReadOnly a) = open_text m a ++ codes "?"
look_text m names (Solid x) = solid_text m names (leaf_of (decoded x))
