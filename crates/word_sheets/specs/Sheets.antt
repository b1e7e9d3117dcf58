-- Words for tests: any list of words, of which a load gives those that fit where they stand.
use Rattle.std.specs.Prelude.{◌≡◌, ℕ, ◌+◌, ◌/◌, ◌%◌, ◌<◌, ◌&&◌, Bool, true, false, not, List, Option, Some}
use Rattle.std.specs.Prelude.{None, if◌then◌else◌, nat_eq, nat_lt, slice_get, option_map, length}
use Rattle.heap_words.specs.Cells.{decoded, is_final_word}
use Rattle.heap_words.specs.Refers.{Refers, HasPart, teller, RefersBy, HasPartBy}
use Rattle.heap_words.specs.declared.cell.Cell.{Cell}
use Rattle.heap_words.specs.declared.cell.Cell.TheVariants.{Unbound, Ref, RoRef, Small, Wide, Str, Nil, Cons, Tuple, Status, Raw, Top}

-- Blocks of 128 words take turns: in the first there are places, in the second the words of terms, and so on.
abbrev pub is_among_places : ℕ → Bool
is_among_places a = nat_eq (a / 128 % 2) 0

-- the first word of a block of terms, where alone a count stands
abbrev pub is_head : ℕ → Bool
is_head a = nat_eq (a % 256) 128

-- A cell fits at an address where it leads to lower addresses alone, and as to its parts to words of terms.
abbrev pub does_fit : ℕ → Cell → Bool
does_fit a (Unbound e) = nat_eq e 0 && is_among_places a
does_fit a (Ref b) = nat_lt b a
does_fit a (RoRef b) = nat_lt b a
does_fit a (Small z) = true
does_fit a (Wide b h) = nat_lt b a && not (is_among_places b)
does_fit a (Str s) = true
does_fit a Nil = true
does_fit a (Cons b) = nat_lt (b + 1) a && (not (is_among_places b) && (not (is_among_places (b + 1)) && not (is_head b)))
does_fit a (Tuple b) = nat_lt (b + 66) a && is_head b
does_fit a (Status d) = false
does_fit a (Raw n) = is_head a
does_fit a (Top b) = false

-- a word where it fits, and that of the empty list elsewhere
abbrev pub fitting : ℕ → Option Cell → ℕ → ℕ
fitting a None x = 6
fitting a (Some c) x = if does_fit a c then x else 6

-- the word that a load gives
abbrev pub word_in : List ℕ → ℕ → Option ℕ
word_in ws a = option_map (λ x. fitting a (decoded x) x) (slice_get ws a)

-- a word leads to addresses of the list alone, and its parts are final
pub record LeadsIn (ws : List ℕ) (x : ℕ) : Type 0 where
  pub refers : (b : ℕ) (c : Cell) → decoded x ≡ Some c → Refers c b → b < length ws
  pub refers_by : (t y n b : ℕ) (c : Cell) → decoded x ≡ Some c → teller c ≡ Some t → word_in ws t ≡ Some y → decoded y ≡ Some (Raw n)
      → RefersBy n c b → b < length ws
  pub part_final : (b y : ℕ) (c : Cell) → decoded x ≡ Some c → HasPart c b → word_in ws b ≡ Some y → is_final_word y ≡ true
  pub part_final_by : (t z n b y : ℕ) (c : Cell) → decoded x ≡ Some c → teller c ≡ Some t → word_in ws t ≡ Some z
      → decoded z ≡ Some (Raw n) → HasPartBy n c b → word_in ws b ≡ Some y → is_final_word y ≡ true
