-- The marks: signs of one to three bytes.
use Rattle.std.specs.Prelude.{◌≢◌, ◌≤◌, ℕ, nat_eq, List, [], ◌∷◌, length, Option, option_map, find, codes}
use Rattle.std.specs.List.{starts_with}
use Rattle.fcp_text.specs.Bytes.{Text}
use Rattle.fcp_text.specs.Signs as signs

-- each mark with its number, a longer one before a shorter one
abbrev pub marks : List (Text × ℕ)
marks =
    (codes "\\==", signs.not_same) ∷ (codes "=:=", signs.equal) ∷ (codes "=\\=", signs.not_equal)
    ∷ (codes ":-", signs.if_sign) ∷ (codes ":=", signs.assign) ∷ (codes "==", signs.same)
    ∷ (codes "=<", signs.at_most) ∷ (codes ">=", signs.at_least)
    ∷ (codes "(", signs.round_open) ∷ (codes ")", signs.round_close) ∷ (codes "[", signs.square_open) ∷ (codes "]", signs.square_close)
    ∷ (codes "{", signs.curly_open) ∷ (codes "}", signs.curly_close) ∷ (codes "|", signs.bar) ∷ (codes ",", signs.comma)
    ∷ (codes ".", signs.dot) ∷ (codes "?", signs.question)
    ∷ (codes "=", signs.equals) ∷ (codes "<", signs.less) ∷ (codes ">", signs.greater)
    ∷ (codes "+", signs.plus) ∷ (codes "-", signs.minus) ∷ (codes "*", signs.times) ∷ (codes "/", signs.divide)
    ∷ (codes ":", signs.colon) ∷ (codes "#", signs.hash) ∷ []

-- the first of the table, and so the longest, that a text begins with, as its number and its length
abbrev pub mark_in : List (Text × ℕ) → Text → Option (ℕ × ℕ)
mark_in table z = option_map (λ m. (m.1, length m.0)) (find (λ m. starts_with nat_eq z m.0) table)

-- the mark at the front of a text, with its length, where there is one
unfoldable pub mark : Text → Option (ℕ × ℕ)
mark z = mark_in marks z

-- one to three bytes, where the second and the third are c and d
abbrev pub IsShort : ℕ → ℕ → ℕ → Type 0
IsShort c d len = (1 ≤ len) × (len ≤ 3) × (2 ≤ len → c ≢ 0) × (3 ≤ len → d ≢ 0)
