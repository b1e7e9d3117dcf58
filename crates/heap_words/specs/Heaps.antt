-- The words of a plain heap: pages of 1,024 words, of which the first is the page's top.
use Rattle.std.specs.Prelude.{◌≡◌, ℕ, ◌+◌, ◌-◌, ◌*◌, ◌%◌, ◌<◌, ◌≤◌, ◌&&◌, ◌||◌, Bool, true, List, Option}
use Rattle.std.specs.Prelude.{Some, None, if◌then◌else◌, nat_eq, nat_lt, slice_get, length}
use Rattle.std.specs.Option.{option_and_then}
use Rattle.heap_words.specs.Cells.{decoded, encoded, is_final_word}
use Rattle.heap_words.specs.Refers.{Refers, HasPart, teller, RefersBy, HasPartBy}
use Rattle.heap_words.specs.WordsLaws.{Acyclic}
use Rattle.heap_words.specs.declared.cell.Cell.{Cell}
use Rattle.heap_words.specs.declared.cell.Cell.TheVariants.{Status, Raw, Top}
use Rattle.heap_words.specs.declared.cell.Stand.{Stand}

-- the address that a top says, and 0 of any other cell
abbrev pub top_said : Option Cell → ℕ
top_said (Some (Top a)) = a
top_said _ = 0

-- the top of the page whose first word is at the address
abbrev pub top_at : List ℕ → ℕ → ℕ
top_at ws first = top_said (option_and_then decoded (slice_get ws first))

-- the address is a page's first, or lies below its page's top
unfoldable pub is_inside : List ℕ → ℕ → Bool
is_inside ws a = nat_lt a (length ws) && (nat_eq (a % 1024) 0 || nat_lt a (top_at ws (a - a % 1024)))

-- the word at an address inside
abbrev pub inside_at : List ℕ → ℕ → Option ℕ
inside_at ws a = if is_inside ws a then slice_get ws a else None

-- the word, where it is final
abbrev pub only_final : Option ℕ → Option ℕ
only_final None = None
only_final (Some x) = if is_final_word x then Some x else None

-- the final word at an address inside
abbrev pub final_at : List ℕ → ℕ → Option ℕ
final_at ws a = only_final (inside_at ws a)

-- A word refers only to addresses inside, by itself and by the number that stands inside, and its parts there are final.
pub record RefersInside (ws : List ℕ) (x : ℕ) : Type 0 where
  pub refers : (b : ℕ) (c : Cell) → decoded x ≡ Some c → Refers c b → is_inside ws b ≡ true
  pub refers_by : (t y n b : ℕ) (c : Cell) → decoded x ≡ Some c → teller c ≡ Some t → inside_at ws t ≡ Some y → decoded y ≡ Some (Raw n)
      → RefersBy n c b → is_inside ws b ≡ true
  pub part_final : (b y : ℕ) (c : Cell) → decoded x ≡ Some c → HasPart c b → inside_at ws b ≡ Some y → is_final_word y ≡ true
  pub part_final_by : (t z n b y : ℕ) (c : Cell) → decoded x ≡ Some c → teller c ≡ Some t → inside_at ws t ≡ Some z
      → decoded z ≡ Some (Raw n) → HasPartBy n c b → inside_at ws b ≡ Some y → is_final_word y ≡ true

-- the words of a plain heap
pub record IsHeap (ws : List ℕ) : Type 0 where
  -- whole pages, and at most 4,000,000,000 words in all of them
  pub whole : length ws % 1024 ≡ 0
  pub small : length ws ≤ 4000000000
  -- each top lies above its page's first word, and not past the page's end
  pub above : (p : ℕ) → 1024 * p < length ws → 1024 * p < top_at ws (1024 * p)
  pub within : (p : ℕ) → 1024 * p < length ws → top_at ws (1024 * p) ≤ 1024 * p + 1024
  -- the words inside refer only to addresses inside, and their parts are final
  pub inside : (a x : ℕ) → inside_at ws a ≡ Some x → RefersInside ws x
  -- behind a status stand three words, and where the third says a number, as many further ones, the arguments
  pub process : (p x b : ℕ) (d : Stand) → inside_at ws p ≡ Some x → decoded x ≡ Some (Status d) → p < b → b ≤ p + 3 → is_inside ws b ≡ true
  pub arguments : (p x y n b : ℕ) (d : Stand) → inside_at ws p ≡ Some x → decoded x ≡ Some (Status d) → inside_at ws (p + 3) ≡ Some y
      → decoded y ≡ Some (Raw n) → p + 3 < b → b ≤ p + 3 + n → is_inside ws b ≡ true
  -- the final words inside refer to one another in no cycle
  pub no_cycle : Acyclic (final_at ws)

-- the word that a new heap has at an address: a top that says the next address, or an unbound place
abbrev pub fresh_word : ℕ → ℕ
fresh_word a = if nat_eq (a % 1024) 0 then encoded (Top (a + 1)) else 0

-- the first words of a new heap
pub record AreFresh (n : ℕ) (ws : List ℕ) : Type 0 where
  pub size : length ws ≡ n
  pub each : (a : ℕ) → a < n → slice_get ws a ≡ Some (fresh_word a)
