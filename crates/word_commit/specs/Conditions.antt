-- What a seat owes before it writes.
use Rattle.std.specs.Prelude.{◌≡◌, ◌⊎◌, ℕ, ◌+◌, ◌*◌, ◌/◌, ◌<◌, ◌≤◌, List, [], length, true, false, slice_index}
use Rattle.word_commit.specs.declared.quota.Quota.{Quota}
use Rattle.word_commit.specs.declared.view.View.{View}
use Rattle.word_commit.specs.declared.view.Given.{Given}
use Rattle.word_commit.specs.Meanings.{Wording, Meaning, Among}
use Rattle.word_commit.specs.Histories.{start_of, applied, tops, Inside, AddsNothing, MayWrite}
use Rattle.word_commit.specs.Views.{Charge, price, left, is_in, shown}

module _ (m : Wording) where
  -- the address is at or above its page's top, which is known
  abbrev pub IsFree : List (ℕ × ℕ) → ℕ → Type 0
  IsFree known a = (t : ℕ) × Among known (start_of a, t) × (m.top t ≤ a)

  -- the address is a page's first, or below its page's top, which is known
  abbrev pub IsUsed : List (ℕ × ℕ) → ℕ → Type 0
  IsUsed known a = (a ≡ start_of a) ⊎ ((t : ℕ) × Among known (start_of a, t) × (a < m.top t))

  -- words that the history may have by now, for all that the view knows
  abbrev pub CouldBe : ℕ → List (ℕ × ℕ) → List ℕ → Type 0
  CouldBe pages known w = (length w ≡ 1024 * pages) × ((x : ℕ × ℕ) → Among known x → Inside m w x.0 → slice_index w x.0 ≡ x.1)

  -- it was written before: as it is, or as a word that is not final and adds nothing to what words refer to
  abbrev pub IsPrimed : List (ℕ × ℕ) → ℕ × ℕ → Type 0
  IsPrimed known x = (y : ℕ) × Among known (x.0, y) × ((y ≡ x.1) ⊎ ((m.is_final y ≡ false) × AddsNothing m (x.0, y)))

module _ {E : Type 0} where
  -- a quota within what a view has left
  abbrev pub IsWithin : Quota → View E → Type 0
  IsWithin q v = (q.commits ≤ v.purse.commits) × (q.moves ≤ v.purse.moves) × (q.cells ≤ v.purse.cells)

module _ {E : Type 0} (m : Meaning E) where
  -- the quota that is left suffices
  abbrev pub Affords : View E → E → Type 0
  Affords v e = (c : Charge) → price c (m.cost e) ≤ left c v.purse

  -- What a seat owes of an entry that is to have the number n.
  pub record MayStamp (g : Given) (v : View E) (e : E) (n : ℕ) : Type 0 where
    -- nothing is still to be published
    pub idle : v.grip.due ≡ []
    pub sound : m.sound e
    -- each word read is known and in use, or is a final word that was loaded at a known address
    pub reads : (x : ℕ × ℕ) → Among (m.reads e) x → (Among v.grip.known x × IsUsed m.words v.grip.known x.0)
        ⊎ (Among (shown v.looks) x × (m.words.is_final x.1 ≡ true))
    -- all that it writes lies in held pages
    pub held : (x : ℕ × ℕ) → Among (m.writes e n) x → is_in (x.0 / 1024) v.grip.held ≡ true
    -- over whatever the history may be by now its writes are lawful, and raise the tops by no more than its cells
    pub writes : (w : List ℕ) → CouldBe m.words g.pages v.grip.known w → MayWrite m.words w (m.writes e n)
    pub cells : (w : List ℕ) → CouldBe m.words g.pages v.grip.known w
        → tops m.words g.pages (applied w (m.writes e n)) ≤ tops m.words g.pages w + (m.cost e).cells
    -- each word that comes inside by it was primed
    pub primed : (x : ℕ × ℕ) → Among (m.writes e n) x → (w : List ℕ) → CouldBe m.words g.pages v.grip.known w
        → (Inside m.words w x.0 → ⊥) → IsPrimed m.words v.grip.known x
