-- The texts of names and strings.
use Rattle.std.specs.Prelude.{ℕ, Bool, false, ◌&&◌, ◌||◌, nat_eq, List, [], ◌∷◌, ◌++◌, Some, None, slice_get, unwrap_or, if◌then◌else◌, codes, decimal}
use Rattle.std.specs.Char.{is_ascii_alphanumeric, is_ascii_lowercase}
use Rattle.std.specs.List.{list_all}
use Rattle.fcp_model.specs.declared.run.Place.{Place}
use Rattle.fcp_model.specs.declared.run.Proc.{Proc}
use Rattle.fcp_model.specs.Places.{Variable, made, own}

-- a text, as its bytes
abbrev pub Bytes : Type 0
Bytes = List ℕ

-- a letter, a digit or `_`
abbrev pub is_word_byte : ℕ → Bool
is_word_byte b = is_ascii_alphanumeric b || nat_eq b 95

-- the form of a name: it begins with a lower-case letter, and has letters, digits and `_` alone
abbrev pub is_name : Bytes → Bool
is_name bs = elim (slice_get bs 0) [ None ↦ false | Some b ↦ is_ascii_lowercase b && list_all is_word_byte bs ]

-- each `'` twice
abbrev pub doubled : Bytes → Bytes
doubled [] = []
doubled (b ∷ bs) = (if nat_eq b 39 then 39 ∷ 39 ∷ [] else b ∷ []) ++ doubled bs

-- a string is written as it is where it has the form of a name, and else between quotes
abbrev pub string_text : Bytes → Bytes
string_text bs = if is_name bs then bs else 39 ∷ doubled bs ++ 39 ∷ []

-- the string of a number
abbrev pub name_at : List Bytes → ℕ → Bytes
name_at names s = unwrap_or (slice_get names s) []

-- `_n.k`
abbrev pub place_text : Place → Bytes
place_text p = codes "_" ++ decimal p.entry ++ codes "." ++ decimal p.number

-- `#n.k`
abbrev pub process_text : Proc → Bytes
process_text p = codes "#" ++ decimal p.entry ++ codes "." ++ decimal p.number

-- a place by its name, and a variable of a source text as `Vk`
abbrev pub variable_text : Variable → Bytes
variable_text (made p) = place_text p
variable_text (own k) = codes "V" ++ decimal k
