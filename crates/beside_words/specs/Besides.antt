-- A try's own words, beside others.
use Rattle.std.specs.Prelude.{◌≡◌, ℕ, ◌+◌, ◌-◌, ◌<◌, ◌≤◌, ◌⊎◌, true, List, Option, Some, None, if◌then◌else◌, nat_lt, slice_get, length}
use Rattle.heap_words.specs.Cells.{decoded, is_final_word}
use Rattle.heap_words.specs.Refers.{Refers, RefersBy, HasPart, HasPartBy, teller}
use Rattle.heap_words.specs.WordsLaws.{Acyclic}
use Rattle.heap_words.specs.Heaps.{only_final}
use Rattle.heap_words.specs.declared.cell.Cell.{Cell}
use Rattle.heap_words.specs.declared.cell.Cell.TheVariants.{Raw, Status}
use Rattle.heap_words.specs.declared.cell.Stand.{Stand}

-- the own word at an address
abbrev pub own_at : List ℕ → ℕ → Option ℕ
own_at ws a = if nat_lt a 4000000000 then None else slice_get ws (a - 4000000000)

-- the address of an own word
abbrev pub IsOwn : List ℕ → ℕ → Type 0
IsOwn ws a = (4000000000 ≤ a) × (a < 4000000000 + length ws)

-- a known address of the words below, or that of an own word
abbrev pub KnownBeside : (ℕ → Type 0) → List ℕ → ℕ → Type 0
KnownBeside knows ws a = (knows a × (a < 4000000000)) ⊎ IsOwn ws a

-- The word refers to known addresses. What it refers to by a number, and its parts, are own words, and parts are final.
pub record InOwn (knows : ℕ → Type 0) (ws : List ℕ) (x : ℕ) : Type 0 where
  pub refers : (b : ℕ) (c : Cell) → decoded x ≡ Some c → Refers c b → KnownBeside knows ws b
  pub told : (t : ℕ) (c : Cell) → decoded x ≡ Some c → teller c ≡ Some t → 4000000000 ≤ t
  pub refers_by : (t y n b : ℕ) (c : Cell) → decoded x ≡ Some c → teller c ≡ Some t → own_at ws t ≡ Some y → decoded y ≡ Some (Raw n)
      → RefersBy n c b → KnownBeside knows ws b
  pub part : (b : ℕ) (c : Cell) → decoded x ≡ Some c → HasPart c b → 4000000000 ≤ b
  pub part_final : (b y : ℕ) (c : Cell) → decoded x ≡ Some c → HasPart c b → own_at ws b ≡ Some y → is_final_word y ≡ true
  pub part_final_by : (t z n b y : ℕ) (c : Cell) → decoded x ≡ Some c → teller c ≡ Some t → own_at ws t ≡ Some z → decoded z ≡ Some (Raw n)
      → HasPartBy n c b → own_at ws b ≡ Some y → is_final_word y ≡ true

-- The own words fit beside the others: they are few, each leads on, and after a status stand the words of a process.
pub record OwnWords (knows leads : ℕ → Type 0) (ws : List ℕ) : Type 0 where
  pub few : length ws ≤ 0x100000000 - 4000000000
  pub process : (a x b : ℕ) (d : Stand) → own_at ws a ≡ Some x → decoded x ≡ Some (Status d) → a < b → b ≤ a + 3 → IsOwn ws b
  pub arguments : (a x y n b : ℕ) (d : Stand) → own_at ws a ≡ Some x → decoded x ≡ Some (Status d) → own_at ws (a + 3) ≡ Some y
      → decoded y ≡ Some (Raw n) → a + 3 < b → b ≤ a + 3 + n → IsOwn ws b
  pub each : (a x : ℕ) → own_at ws a ≡ Some x → leads x ⊎ InOwn knows ws x

-- the words that are shown below, and the final own ones
abbrev pub either : (ℕ → Option ℕ) → List ℕ → ℕ → Option ℕ
either shown ws a = if nat_lt a 4000000000 then shown a else only_final (own_at ws a)

-- The store is sound and has no address of own words, the own words fit beside it, and whatever it shows later, final words have no
-- cycle.
abbrev pub SoundBeside : {S : Type 0} → (S → ℕ) → (S → Type 0) → (S → ℕ → Type 0) → (S → ℕ → Type 0) → (S → ℕ → Option ℕ) → (S → S → Type 0)
    → S → List ℕ → Type 0
SoundBeside addresses is_sound knows leads shown later w ws = (is_sound w) × (addresses w ≤ 4000000000)
    × OwnWords (knows w) (leads w) ws × ((v : _) → later w v → Acyclic (either (shown v) ws))

-- the word was loaded from the store, or is an own one
abbrev pub HadBeside : {S : Type 0} → (S → ℕ → ℕ → Type 0) → S → List ℕ → ℕ → ℕ → Type 0
HadBeside had w ws a x = (had w a x × (a < 4000000000)) ⊎ (own_at ws a ≡ Some x)

-- the word leads to words of the store alone, or to own ones too
abbrev pub LeadsBeside : {S : Type 0} → (S → ℕ → Type 0) → (S → ℕ → Type 0) → S → List ℕ → ℕ → Type 0
LeadsBeside knows leads w ws x = leads w x ⊎ InOwn (knows w) ws x
