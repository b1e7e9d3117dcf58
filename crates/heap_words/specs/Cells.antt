-- The words of cells: a word is 16 times what its cell says, and the tag of the cell's kind.
use Rattle.std.specs.Prelude.{ℕ, ◌+◌, ◌-◌, ◌*◌, ◌/◌, ◌%◌, ◌<◌, ℤ, pos, negsuc, ◌-ℤ◌, ◌≤ℤ◌, Bool, true, false}
use Rattle.std.specs.Prelude.{Option, Some, None, option_map, if◌then◌else◌, nat_eq, nat_lt}
use Rattle.heap_words.specs.declared.cell.Cell.{Cell}
use Rattle.heap_words.specs.declared.cell.Cell.TheVariants.{Unbound, Ref, RoRef, Small, Wide, Str, Nil, Cons, Tuple, Status, Raw, Top}
use Rattle.heap_words.specs.declared.cell.Stand.{Stand}
use Rattle.heap_words.specs.declared.cell.Stand.TheVariants.{Ready, Waiting, Done}

-- the number of a stand
abbrev pub encoded_stand : Stand → ℕ
encoded_stand Ready = 0
encoded_stand Done = 1
encoded_stand (Waiting n) = 2 + n

-- a small number, raised by 2^55
abbrev pub raised : ℤ → ℕ
raised (pos n) = 0x80000000000000 + n
raised (negsuc n) = 0x80000000000000 - (n + 1)

-- the small number of a raised one
abbrev pub lowered : ℕ → ℤ
lowered x = pos x -ℤ pos 0x80000000000000

-- the tag of a cell's kind
abbrev pub tag : Cell → ℕ
tag (Unbound a) = 0
tag (Ref a) = 1
tag (RoRef a) = 2
tag (Small z) = 3
tag (Wide a h) = 4
tag (Str s) = 5
tag Nil = 6
tag (Cons a) = 7
tag (Tuple a) = 8
tag (Status d) = 9
tag (Raw n) = 10
tag (Top a) = 11

-- what a cell says beside its kind
abbrev pub says : Cell → ℕ
says (Unbound a) = a
says (Ref a) = a
says (RoRef a) = a
says (Small z) = raised z
says (Wide a h) = h * 0x100000000 + a
says (Str s) = s.0
says Nil = 0
says (Cons a) = a
says (Tuple a) = a
says (Status d) = encoded_stand d
says (Raw n) = n
says (Top a) = a

-- the word of a cell
abbrev pub encoded : Cell → ℕ
encoded c = 16 * says c + tag c

-- the ranges of a cell's fields
abbrev pub IsCell : Cell → Type 0
IsCell (Unbound a) = a < 0x100000000
IsCell (Ref a) = a < 0x100000000
IsCell (RoRef a) = a < 0x100000000
IsCell (Small z) = (negsuc 0x7fffffffffffff ≤ℤ z) × (z ≤ℤ pos 0x7fffffffffffff)
IsCell (Wide a h) = (a < 0x100000000) × (h < 256)
IsCell (Str s) = s.0 < 0x100000000
IsCell Nil = Unit {0}
IsCell (Cons a) = a < 0x100000000
IsCell (Tuple a) = a < 0x100000000
IsCell (Status Ready) = Unit {0}
IsCell (Status Done) = Unit {0}
IsCell (Status (Waiting n)) = n < 0x100000000
IsCell (Raw n) = n < 0x100000000
IsCell (Top a) = a < 0x100000000

-- the stand of a number, where there is one
abbrev pub stand_of : ℕ → Option Stand
stand_of x = if nat_eq x 0 then Some Ready else
    (if nat_eq x 1 then Some Done else (if nat_lt x 0x100000002 then Some (Waiting (x - 2)) else None))

-- the cell of a tag that says a number of 32 bits
abbrev pub plain_of : ℕ → ℕ → Option Cell
plain_of t x =
    if nat_eq t 0 then Some (Unbound x) else
    (if nat_eq t 1 then Some (Ref x) else
    (if nat_eq t 2 then Some (RoRef x) else
    (if nat_eq t 5 then Some (Str (record { 0 = x })) else
    (if nat_eq t 7 then Some (Cons x) else
    (if nat_eq t 8 then Some (Tuple x) else
    (if nat_eq t 10 then Some (Raw x) else
    (if nat_eq t 11 then Some (Top x) else None)))))))

-- the cell of a tag and of what is said, where there is one
abbrev pub cell_of : ℕ → ℕ → Option Cell
cell_of t x =
    if nat_eq t 3 then (if nat_lt x 0x100000000000000 then Some (Small (lowered x)) else None) else
    (if nat_eq t 4 then (if nat_lt x 0x10000000000 then Some (Wide (x % 0x100000000) (x / 0x100000000)) else None) else
    (if nat_eq t 6 then (if nat_eq x 0 then Some Nil else None) else
    (if nat_eq t 9 then option_map Status (stand_of x) else
    (if nat_lt x 0x100000000 then plain_of t x else None))))

-- the cell of a word, where it is a cell's
unfoldable pub decoded : ℕ → Option Cell
decoded w = cell_of (w % 16) (w / 16)

-- neither an unbound place nor a status nor a top
abbrev pub is_final_cell : Cell → Bool
is_final_cell (Unbound a) = false
is_final_cell (Status d) = false
is_final_cell (Top a) = false
is_final_cell _ = true

-- a word that is no cell's is final too
abbrev pub is_final_in : Option Cell → Bool
is_final_in None = true
is_final_in (Some c) = is_final_cell c

-- no other word may take its place
abbrev pub is_final_word : ℕ → Bool
is_final_word w = is_final_in (decoded w)
