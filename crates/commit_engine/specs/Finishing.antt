-- What the end of a turn says, of the hall before and after it, and of the planner with the move that is made.
use Rattle.std.specs.Prelude.{◌≡◌, ℕ, ◌-◌, Bool, true, false, List, if◌then◌else◌}
use Rattle.fcp_model.specs.declared.run.Entry.{Entry}
use Rattle.fcp_model.specs.declared.run.Entry.TheVariants.{Commit}
use Rattle.word_states.specs.Words.{Among}
use Rattle.word_commit.specs.declared.quota.Quota.{Quota}
use Rattle.word_moves.specs.declared.word_move.WordMove.{WordMove}
use Rattle.word_moves.specs.Planned.{IsCarried}
use Rattle.move_plans.specs.declared.planner.Planner.{Planner}
use Rattle.move_plans.specs.Plans.{move_of}
use Rattle.commit_engine.specs.declared.answer.Turn.{Turn}
use Rattle.commit_engine.specs.declared.answer.Turn.TheVariants as answer
use Rattle.commit_engine.specs.declared.making.Making.{Making}
use Rattle.commit_engine.specs.declared.making.Making.TheVariants as making
use Rattle.commit_engine.specs.declared.prepared.Prepared.{Prepared}
use Rattle.commit_engine.specs.Halls.{IsPaid, IsSpent}
use Rattle.commit_engine.specs.Making.{IsEntry, MakeSays, is_made}
use Rattle.commit_engine.specs.Takes.{IsNeeded, TookEach, FoundBusy}
use Rattle.commit_engine.specs.Turns.{IsCommit, IsHang, IsAlone, TellsMove, has_made}

-- the answer of a turn, by the entry and how its making ended
abbrev pub answer_of : Entry → Making → Turn
answer_of (Commit p k) (making.Made n) = answer.Committed n
answer_of _ (making.Made n) = answer.Hung n
answer_of _ (making.Busy page) = answer.Busy page
answer_of _ (making.Changed c) = answer.Stale c.addr c.kept c.found

-- so does this turn, in which this entry was made in this way, and a hall that is alone makes it
abbrev pub AnswerSays : {S : Type 0} (page_count : S → ℕ) (due : S → Bool) (purse : S → Quota) (spare : S → ℕ) (takes : S → List (ℕ × Bool))
    (silent : S → S → Type 0) (found : S → S → ℕ → ℕ → Type 0) (added : S → S → WordMove → ℕ → Type 0) → WordMove → List ℕ → S → S
    → Type 0 → Turn → Type 0
AnswerSays page_count due purse spare takes silent found added e pages old new alone r =
    (m : Making) × (r ≡ answer_of e.entry m) × MakeSays page_count due purse spare takes silent found added e pages old new m
    × (alone → is_made m ≡ true)

-- what is left after a turn, by its answer
pub record IsLeft {S : Type 0} (page_count : S → ℕ) (purse : S → Quota) (spare : S → ℕ) (alone : S → Type 0) (old new : S)
    (r : Turn) : Type 0 where
  pub one : alone old → IsAlone r ≡ true
  pub same_purse : has_made r ≡ false → purse new ≡ purse old
  pub same_pages : page_count new ≡ page_count old
  pub room : spare new ≡ (if has_made r then spare old - 1 else spare old)

-- The entry of the move at hand is prepared.
pub record IsPrepared (before after : Planner) (p : ℕ) (r : Prepared) : Type 0 where
  pub is_entry : IsEntry r.entry r.pages.items r.places.items
  pub carried : IsCarried r.entry (move_of before p)
  pub address : r.entry.address ≡ p
  pub tells : TellsMove after (move_of before p)

module _ {S : Type 0} (page_count : S → ℕ) (due : S → Bool) (purse : S → Quota) (spare : S → ℕ) (takes : S → List (ℕ × Bool))
    (silent : S → S → Type 0) (found : S → S → ℕ → ℕ → Type 0) (added : S → S → WordMove → ℕ → Type 0) (old new : S)
    (before after : Planner) (p : ℕ) where
  -- The entry of the planner's move was made, with this number.
  pub record IsEntered (e : WordMove) (n : ℕ) : Type 0 where
    pub is_added : added old new e n
    pub address : e.address ≡ p
    pub carried : IsCarried e (move_of before p)
    pub tells : TellsMove after (move_of before p)
    pub paid : IsPaid (purse old) e
    pub left : IsSpent (purse old) e (purse new)
    pub took : TookEach (takes old) (takes new) (IsNeeded e n)

  -- by the answer
  abbrev pub FinishSays : Turn → Type 0
  FinishSays (answer.Committed n) = (e : WordMove) × IsEntered e n × IsCommit e.entry
  FinishSays (answer.Hung n) = (e : WordMove) × IsEntered e n × IsHang e.entry
  FinishSays (answer.Busy page) = silent old new × FoundBusy (takes old) (takes new) page
  FinishSays (answer.Stale a x y) = silent old new × Among before.machine.trail.kept (a, x) × found old new a y × (x ≡ y → ⊥)
  FinishSays answer.NoMemory = silent old new
  FinishSays _ = ⊥
