-- Words by address, and lists of words with their addresses.
use Rattle.std.specs.Prelude.{◌≡◌, ℕ, suc, ◌⊎◌, true, List, [], ◌∷◌, map, Option, Some, None}
use Rattle.heap_words.specs.Cells.{decoded, is_final_word}
use Rattle.heap_words.specs.Trails.{WordList, word_at}
use Rattle.heap_words.specs.declared.cell.Cell.{Cell}

-- the words in use, by address
abbrev pub Words : Type 0
Words = ℕ → Option ℕ

-- the address is in use
abbrev pub Has : Words → ℕ → Type 0
Has w a = (x : ℕ) × (w a ≡ Some x)

-- the word at an address is that of the cell
abbrev pub At : Words → ℕ → Cell → Type 0
At w a c = (x : ℕ) × (w a ≡ Some x) × (decoded x ≡ Some c)

-- these words stand one after another, the first at the address
abbrev pub StandAt : Words → ℕ → List ℕ → Type 0
StandAt w a [] = Unit {0}
StandAt w a (x ∷ xs) = (w a ≡ Some x) × StandAt w (suc a) xs

-- final words stay as they are
abbrev pub Grows : Words → Words → Type 0
Grows w w' = (a x : ℕ) → w a ≡ Some x → is_final_word x ≡ true → w' a ≡ Some x

-- the first of two, where there is one
abbrev pub first_of : Option ℕ → Option ℕ → Option ℕ
first_of None o = o
first_of (Some x) o = Some x

-- the words of a list, and elsewhere the others
abbrev pub over : WordList → Words → Words
over ws w a = first_of (word_at ws a) (w a)

-- an address with its word is in a list
abbrev pub Among : WordList → ℕ × ℕ → Type 0
Among [] x = ⊥
Among (y ∷ ys) x = (y ≡ x) ⊎ Among ys x

-- the words have all those of a list
abbrev pub HasAll : WordList → Words → Type 0
HasAll xs w = (a x : ℕ) → Among xs (a, x) → w a ≡ Some x

-- the addresses of a list
abbrev pub addresses_of : WordList → List ℕ
addresses_of xs = map (λ (x : ℕ × ℕ). x.0) xs

-- a list has no address twice
abbrev pub AreApart : WordList → Type 0
AreApart [] = Unit {0}
AreApart (x ∷ xs) = ((y : ℕ) → Among xs (x.0, y) → ⊥) × AreApart xs

-- these words one after another, the first at the address
abbrev pub row : ℕ → List ℕ → WordList
row a [] = []
row a (x ∷ xs) = (a, x) ∷ row (suc a) xs

-- an address is in a list
abbrev pub IsIn : ℕ → List ℕ → Type 0
IsIn a [] = ⊥
IsIn a (b ∷ bs) = (b ≡ a) ⊎ IsIn a bs

-- no address stands twice
abbrev pub AreDistinct : List ℕ → Type 0
AreDistinct [] = Unit {0}
AreDistinct (a ∷ as') = (IsIn a as' → ⊥) × AreDistinct as'
