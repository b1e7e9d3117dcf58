-- What the takes of pages looked at.
use Rattle.std.specs.Prelude.{◌≡◌, ◌⊎◌, ℕ, ◌/◌, ◌<◌, Bool, false, List, [], ◌∷◌, ◌++◌, Option, Some, None}
use Rattle.heap_words.specs.Cells.{is_final_word}
use Rattle.word_states.specs.Words.{Among, IsIn}
use Rattle.word_moves.specs.declared.word_move.WordMove.{WordMove}
use Rattle.commit_engine.specs.Halls.{writes_of}
use Rattle.commit_engine.specs.Holding.{Keeps, IsFree}

-- the page has a word that the entry writes, or one that it read and that is not final
abbrev pub IsNeeded : WordMove → ℕ → ℕ → Type 0
IsNeeded e n p = ((a x : ℕ) × Among (writes_of e n) (a, x) × (a / 1024 ≡ p))
    ⊎ ((a x : ℕ) × Among e.reads.items (a, x) × (is_final_word x ≡ false) × (a / 1024 ≡ p))

-- a take looked at the page, and found it free or not
abbrev pub Took : List (ℕ × Bool) → ℕ → Bool → Type 0
Took [] p b = ⊥
Took (t ∷ ts) p b = (t ≡ (p, b)) ⊎ Took ts p b

-- page numbers rise
abbrev pub AreRising : List (ℕ × Bool) → Type 0
AreRising [] = Unit {0}
AreRising (t ∷ ts) = ((p : ℕ) (b : Bool) → Took ts p b → t.0 < p) × AreRising ts

-- More takes looked at pages, in ascending order, and each of them is one of these.
pub record TookEach (before after : List (ℕ × Bool)) (may : ℕ → Type 0) : Type 0 where
  pub looks : List (ℕ × Bool)
  pub are : after ≡ before ++ looks
  pub rise : AreRising looks
  pub each : (q : ℕ) (b : Bool) → Took looks q b → may q

-- a take found the page held
abbrev pub FoundBusy : List (ℕ × Bool) → List (ℕ × Bool) → ℕ → Type 0
FoundBusy before after page = (ts : List (ℕ × Bool)) × (after ≡ before ++ ts) × Took ts page false

-- all pages are held now; or none is, since another worker holds this one
abbrev pub TakeSays : ℕ → (ℕ → Bool) → List (ℕ × Bool) → List (ℕ × Bool) → List ℕ → Option ℕ → Type 0
TakeSays count holds before after pages None = Keeps holds pages 0 count × TookEach before after (λ q. IsIn q pages)
TakeSays count holds before after pages (Some page) = IsFree holds × FoundBusy before after page
