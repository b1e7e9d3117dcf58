-- What is asked of words that are loaded.
use Rattle.std.specs.Prelude.{◌≡◌, ℕ, ◌+◌, ◌<◌, ◌≤◌, true, Option, Some, None}
use Rattle.heap_words.specs.Cells.{decoded, is_final_word}
use Rattle.heap_words.specs.Refers.{Refers, Reaches, HasPart, teller, RefersBy, ReachesBy, HasPartBy}
use Rattle.heap_words.specs.declared.cell.Cell.{Cell}
use Rattle.heap_words.specs.declared.cell.Cell.TheVariants.{Cons, Status, Raw}
use Rattle.heap_words.specs.declared.cell.Stand.{Stand}

-- what refers to no more than it says by itself
abbrev pub tells_all : Cell → Type 0
tells_all c = teller c ≡ None

-- Words by address, where there is one, have no cycle: neither along walks over terms nor along waiting lists.
pub record Acyclic (at : ℕ → Option ℕ) : Type 0 where
  pub rank : ℕ → ℕ
  -- it falls from a word to each word to which a walk over terms goes on by itself
  pub falls : (a b x : ℕ) (c : Cell) → at a ≡ Some x → decoded x ≡ Some c → Reaches c b → rank b < rank a
  -- and to each to which it goes on by the number that stands there
  pub falls_by : (a b x t y n : ℕ) (c : Cell) → at a ≡ Some x → decoded x ≡ Some c → teller c ≡ Some t → at t ≡ Some y
      → decoded y ≡ Some (Raw n) → ReachesBy n c b → rank b < rank a
  -- and another one falls from the link of a waiting entry to the link of the entry to which it leads
  pub order : ℕ → ℕ
  pub links : (a c x y n : ℕ) → at a ≡ Some x → decoded x ≡ Some (Cons c) → at c ≡ Some y → decoded y ≡ Some (Raw n)
      → order (c + 2) < order a

-- The laws of loaded words, by what they are of: `later` says that only loads lie between two states. Every crate above
-- stands on these laws, and each kind of words has to show them: they are not to change any more.
pub record WordsLaws {S : Type 0} (addresses : S → ℕ) (sound : S → Type 0) (knows : S → ℕ → Type 0) (had : S → ℕ → ℕ → Type 0)
    (leads : S → ℕ → Type 0) (own shown : S → ℕ → Option ℕ) (later : S → S → Type 0) (gave : S → S → ℕ → ℕ → Type 0) : Type 0 where
  -- no load lies between a state and itself, and two stretches of loads are one
  pub still : (w : S) → sound w → later w w
  pub twice : (u v w : S) → later u v → later v w → later u w
  -- what stays while only loads are made
  pub stays_sound : (v w : S) → sound v → later v w → sound w
  pub stays_known : (v w : S) (a : ℕ) → later v w → knows v a → knows w a
  pub stays_had : (v w : S) (a x : ℕ) → later v w → had v a x → had w a x
  pub stays_leading : (v w : S) (x : ℕ) → later v w → leads v x → leads w x
  pub stays_shown : (v w : S) (a x : ℕ) → later v w → shown v a ≡ Some x → shown w a ≡ Some x
  pub same_own : (v w : S) (a : ℕ) → later v w → own w a ≡ own v a
  pub fixed : (v w : S) → later v w → addresses w ≡ addresses v
  -- what a load gave, seen over a longer stretch
  pub gave_after : (u v w : S) (a x : ℕ) → later u v → gave v w a x → gave u w a x
  pub gave_before : (u v w : S) (a x : ℕ) → gave u v a x → later v w → gave u w a x
  pub had_given : (v w : S) (a x : ℕ) → gave v w a x → had w a x
  -- a loaded word stands at a known address
  pub had_known : (w : S) (a x : ℕ) → sound w → had w a x → knows w a
  -- addresses
  pub in_range : (w : S) (a : ℕ) → sound w → knows w a → a < addresses w
  pub few : (w : S) → sound w → addresses w ≤ 0x100000000
  -- a loaded word leads to known addresses alone, and so does one that refers to such by itself and to no more
  pub had_leads : (w : S) (a x : ℕ) → sound w → had w a x → leads w x
  pub reaches : (w : S) (x b : ℕ) (c : Cell) → sound w → leads w x → decoded x ≡ Some c → Refers c b → knows w b
  pub reaches_by : (w : S) (x t y n b : ℕ) (c : Cell) → sound w → leads w x → decoded x ≡ Some c → teller c ≡ Some t → had w t y
      → decoded y ≡ Some (Raw n) → RefersBy n c b → knows w b
  -- and as to parts to none
  pub plain : (w : S) (x : ℕ) (c : Cell) → sound w → decoded x ≡ Some c → tells_all c → ((b : ℕ) → HasPart c b → ⊥)
      → ((b : ℕ) → Refers c b → knows w b) → leads w x
  -- below 4,000,000,000 it leads only to addresses that are below it too
  pub leads_below : (w : S) (a x b : ℕ) (c : Cell) → sound w → had w a x → a < 4000000000 → decoded x ≡ Some c → Refers c b → b < 4000000000
  pub leads_below_by : (w : S) (a x t y n b : ℕ) (c : Cell) → sound w → had w a x → a < 4000000000 → decoded x ≡ Some c → teller c ≡ Some t
      → had w t y → decoded y ≡ Some (Raw n) → RefersBy n c b → b < 4000000000
  -- the parts of a word that leads to known addresses are final
  pub part_final : (w : S) (x b y : ℕ) (c : Cell) → sound w → leads w x → decoded x ≡ Some c → HasPart c b → had w b y
      → is_final_word y ≡ true
  pub part_final_by : (w : S) (x t z n b y : ℕ) (c : Cell) → sound w → leads w x → decoded x ≡ Some c → teller c ≡ Some t → had w t z
      → decoded z ≡ Some (Raw n) → HasPartBy n c b → had w b y → is_final_word y ≡ true
  -- after a status three words are known, and where the third says a number, as many further ones, the arguments
  pub behind_status : (w : S) (p x b : ℕ) (d : Stand) → sound w → had w p x → decoded x ≡ Some (Status d) → p < b → b ≤ p + 3 → knows w b
  pub arguments : (w : S) (p x y n b : ℕ) (d : Stand) → sound w → had w p x → decoded x ≡ Some (Status d) → had w (p + 3) y
      → decoded y ≡ Some (Raw n) → p + 3 < b → b ≤ p + 3 + n → knows w b
  -- final words have no cycle
  pub no_cycle : (w : S) → sound w → Acyclic (shown w)
  -- a final word that was loaded is shown
  pub had_shown : (w : S) (a x : ℕ) → sound w → had w a x → is_final_word x ≡ true → shown w a ≡ Some x
  -- own words count as loaded, and stand from 4,000,000,000 on
  pub own_had : (w : S) (a x : ℕ) → sound w → own w a ≡ Some x → had w a x
  pub own_range : (w : S) (a x : ℕ) → own w a ≡ Some x → 4000000000 ≤ a
