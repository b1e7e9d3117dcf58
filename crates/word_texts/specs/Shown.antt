-- The text of a value of words as that of the term for which they stand.
use Rattle.std.specs.Prelude.{◌≡◌, ℕ, ◌+◌, ◌-◌, ◌*◌, ◌<◌, ◌≤◌, true, pos, List, ◌++◌, Option, Some}
use Rattle.heap_words.specs.Cells.{decoded}
use Rattle.heap_words.specs.Trails.{WordList, Memory, KeepsLoads, Says}
use Rattle.heap_words.specs.declared.cell.Cell.TheVariants.{Small}
use Rattle.unify_terms.specs.Denotes.{Naming, Denotes, Stands}
use Rattle.fcp_model.specs.declared.run.Place.{Place}
use Rattle.fcp_model.specs.Places.{Variable, made}
use Rattle.fcp_model.specs.Terms.{Term, Bindings}
use Rattle.fcp_model.specs.Spelling.{Bytes}
use Rattle.fcp_model.specs.TermText.{cut_text}

-- Each place has its name before its word: 268,435,456 times the entry that made it, and its number there.
pub record Labels (p : Naming) (m : Memory) : Type 0 where
  pub place : ℕ → Place
  pub named : (a : ℕ) → p.is_place a ≡ true → p.name a ≡ made (place a)
  pub word : (a : ℕ) → p.is_place a ≡ true → decoded (m (a - 1)) ≡ Some (Small (pos (268435456 * (place a).entry + (place a).number)))
  pub below : (a : ℕ) → p.is_place a ≡ true → (place a).number < 268435456

-- a text with the text of a term after it, cut after so many nodes, from some number of steps on
pub record Adds (names : List Bytes) (s : Bindings) (nodes : ℕ) (t : Term Variable) (old new : Bytes) : Type 0 where
  pub text : Bytes
  pub appended : new ≡ old ++ text
  pub steps : ℕ
  pub cut : (n : ℕ) → steps ≤ n → cut_text n names s nodes t ≡ Some text

-- Wherever the words under the bindings stand for a map, the places have their names and the word denotes a term, the text of
-- that term's value was added.
abbrev pub IsShown : Memory → WordList → List Bytes → ℕ → ℕ → Bytes → Bytes → Type 0
IsShown m bs names nodes w old new =
    (p : Naming) → Labels p m → (s : Bindings) (t : Term Variable) → Stands p m bs s → Denotes p m t w → Adds names s nodes t old new

-- Likewise, wherever the definitions have a text for that value, a front of it was added.
abbrev pub IsFront : Memory → WordList → List Bytes → ℕ → ℕ → Bytes → Bytes → Type 0
IsFront m bs names nodes w old new =
    (p : Naming) → Labels p m → (s : Bindings) (t : Term Variable) → Stands p m bs s → Denotes p m t w
    → (n : ℕ) (text : Bytes) → cut_text n names s nodes t ≡ Some text → (x y : Bytes) × (new ≡ old ++ x) × (text ≡ x ++ y)

-- The call stopped after some loads, and so it is said of every memory that has what they gave.
pub record Stops {S : Type 0} (is_sound : S → Type 0) (had : S → ℕ → ℕ → Type 0) (leads : S → ℕ → Type 0) (later : S → S → Type 0)
    (gave : S → S → ℕ → ℕ → Type 0) (own : S → ℕ → Option ℕ) (before binds : WordList) (v w : S) (P : Memory → Type 0) : Type 0 where
  pub kept : WordList
  pub at : S
  pub loaded : KeepsLoads is_sound had leads later gave before binds v kept binds at
  pub between : later at w
  pub says : Says (own at) kept P
