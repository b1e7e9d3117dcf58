-- Words for tests: any list of words, of which a load gives those that fit where they stand.
use Rattle.std.specs.Prelude.{◌≡◌, ℕ, ◌+◌, ◌%◌, ◌<◌, ◌&&◌, ◌||◌, Bool, true, false, not, List, Option, Some}
use Rattle.std.specs.Prelude.{None, if◌then◌else◌, nat_eq, nat_lt, slice_get, option_map, length}
use Rattle.heap_words.specs.Cells.{decoded, is_final_word}
use Rattle.heap_words.specs.Refers.{Refers, HasPart, teller, RefersBy, HasPartBy}
use Rattle.heap_words.specs.declared.cell.Cell.{Cell}
use Rattle.heap_words.specs.declared.cell.Cell.TheVariants.{Unbound, Small, Nil, Cons, Status, Raw}

-- Slots of eight words: from the first on a process, from the fifth on a waiting entry.
abbrev pub is_entry : ℕ → Bool
is_entry a = nat_eq (a % 8) 4

-- the words of entries
abbrev pub in_entry : ℕ → Bool
in_entry a = nat_lt 3 (a % 8)

-- a cell fits at an address among n
abbrev pub does_fit : ℕ → ℕ → Cell → Bool
does_fit n a (Unbound e) = not (in_entry a) && (nat_eq e 0 || (is_entry e && nat_lt (e + 2) n))
does_fit n a (Small z) = true
does_fit n a Nil = true
does_fit n a (Cons l) = is_entry l && nat_lt (l + 2) a
does_fit n a (Status d) = nat_eq (a % 8) 0 && nat_lt (a + 3) n
does_fit n a (Raw p) = is_entry a && nat_lt p a
does_fit n a _ = false

-- a word where it fits, and that of the empty list elsewhere
abbrev pub fitting : ℕ → ℕ → Option Cell → ℕ → ℕ
fitting n a None x = 6
fitting n a (Some c) x = if does_fit n a c then x else 6

-- the word that a load gives
abbrev pub word_in : List ℕ → ℕ → Option ℕ
word_in ws a = option_map (λ x. fitting (length ws) a (decoded x) x) (slice_get ws a)

-- a word leads to addresses of the list alone, and its parts are final
pub record LeadsIn (ws : List ℕ) (x : ℕ) : Type 0 where
  pub refers : (b : ℕ) (c : Cell) → decoded x ≡ Some c → Refers c b → b < length ws
  pub refers_by : (t y n b : ℕ) (c : Cell) → decoded x ≡ Some c → teller c ≡ Some t → word_in ws t ≡ Some y → decoded y ≡ Some (Raw n)
      → RefersBy n c b → b < length ws
  pub part_final : (b y : ℕ) (c : Cell) → decoded x ≡ Some c → HasPart c b → word_in ws b ≡ Some y → is_final_word y ≡ true
  pub part_final_by : (t z n b y : ℕ) (c : Cell) → decoded x ≡ Some c → teller c ≡ Some t → word_in ws t ≡ Some z
      → decoded z ≡ Some (Raw n) → HasPartBy n c b → word_in ws b ≡ Some y → is_final_word y ≡ true
