-- Stretches without an entry, by the laws of a hall.
use Rattle.std.proofs.Common.{ℕ, ◌/◌, ◌<◌, Bool, List, Option, refl, ◌∙◌}
use Rattle.heap_words.specs.WordsLaws.{WordsLaws}
use Rattle.word_commit.specs.declared.quota.Quota.{Quota}
use Rattle.word_moves.specs.declared.word_move.WordMove.{WordMove}
use Rattle.commit_engine.specs.Halls.{HallLaws}
use Rattle.commit_engine.specs.Holding.{IsQuiet}

module _ {S : Type 0} {addresses : S → ℕ} {sound : S → Type 0} {knows : S → ℕ → Type 0} {had : S → ℕ → ℕ → Type 0} {leads : S → ℕ → Type 0}
    {own shown : S → ℕ → Option ℕ} {later : S → S → Type 0} {gave once : S → S → ℕ → ℕ → Type 0} {page_count : S → ℕ}
    {holds : S → ℕ → Bool} {due : S → Bool} {purse : S → Quota} {spare : S → ℕ} {takes : S → List (ℕ × Bool)} {alone : S → Type 0}
    {stands primed : S → ℕ → ℕ → Type 0} {silent : S → S → Type 0} {found : S → S → ℕ → ℕ → Type 0} {added : S → S → WordMove → ℕ → Type 0}
    (w : WordsLaws {S = S} addresses sound knows had leads own shown later gave)
    (l : HallLaws {S = S} addresses sound knows had shown later gave once page_count holds due purse spare takes alone stands primed silent
    found added) where
  pub quiet_none : (v : S) → sound v → IsQuiet page_count due purse spare silent v v
  quiet_none v s = record { no_entry = l.later_silent v v s (w.still v s); rest = (refl, refl, refl, refl) }

  pub quiet_then : (u v x : S) → IsQuiet page_count due purse spare silent u v → IsQuiet page_count due purse spare silent v x
      → IsQuiet page_count due purse spare silent u x
  quiet_then u v x a b = record {
    no_entry = l.silent_twice u v x a.no_entry b.no_entry;
    rest = (b.rest.0 ∙ a.rest.0, b.rest.1 ∙ a.rest.1, b.rest.2 ∙ a.rest.2, b.rest.3 ∙ a.rest.3);
  }

  pub quiet_loads : (v x : S) → sound v → later v x → IsQuiet page_count due purse spare silent v x
  quiet_loads v x s h = record { no_entry = l.later_silent v x s h; rest = l.later_rest v x h }

  -- what was loaded is of a page of the hall
  pub had_low : (v : S) (a x : ℕ) → sound v → had v a x → a / 1024 < page_count v
  had_low v a x s h = l.pages v a s (w.had_known v a x s h)
