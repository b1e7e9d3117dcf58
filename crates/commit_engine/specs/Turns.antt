-- What a turn answers, of the hall before and after it.
use Rattle.std.specs.Prelude.{◌≡◌, ℕ, ◌<◌, Bool, true, false, List, ◌++◌, Some}
use Rattle.fcp_model.specs.declared.run.Entry.{Entry}
use Rattle.fcp_model.specs.declared.run.Entry.TheVariants.{Commit, Hang, Fail}
use Rattle.fcp_model.specs.declared.run.Proc.{Proc}
use Rattle.fcp_model.specs.Programs.{Program}
use Rattle.heap_words.specs.Cells.{decoded}
use Rattle.heap_words.specs.Trails.{word_at}
use Rattle.heap_words.specs.declared.cell.Cell.TheVariants.{Status}
use Rattle.heap_words.specs.declared.cell.Stand.TheVariants.{Ready}
use Rattle.word_states.specs.Going.{Move, Fits}
use Rattle.machine_code.specs.Compiling.{Tables}
use Rattle.trial_machine.specs.Deciding.{IsCodeOf}
use Rattle.word_commit.specs.declared.quota.Quota.{Quota}
use Rattle.word_moves.specs.declared.word_move.WordMove.{WordMove}
use Rattle.word_moves.specs.Planned.{IsSafeMove, IsCarried}
use Rattle.move_plans.specs.declared.planner.Planner.{Planner}
use Rattle.move_plans.specs.Plans.{NamesMover, IsPlan, IsLargePlan}
use Rattle.commit_engine.specs.declared.answer.Turn.{Turn}
use Rattle.commit_engine.specs.declared.answer.Turn.TheVariants as answer
use Rattle.commit_engine.specs.declared.answer.Spent.TheVariants as spent
use Rattle.commit_engine.specs.Halls.{IsPaid, IsSpent}
use Rattle.commit_engine.specs.Takes.{IsNeeded, Took, AreRising}

-- the entry is a commit, or a hang
abbrev pub IsCommit : Entry → Type 0
IsCommit e = (q : Proc) × (k : ℕ) × (e ≡ Commit q k)

abbrev pub IsHang : Entry → Type 0
IsHang e = (q : Proc) × (e ≡ Hang q)

abbrev pub IsFail : Entry → Type 0
IsFail e = (q : Proc) × (e ≡ Fail q)

-- an answer that a hall gives which is alone
abbrev pub IsAlone : Turn → Bool
IsAlone (answer.Busy page) = false
IsAlone (answer.Stale a x y) = false
IsAlone _ = true

-- what the planner tells of the move: its entry, and what it makes, wakes, binds and waits for
pub record TellsMove (pl : Planner) (v : Move) : Type 0 where
  pub entry : v.entry ≡ pl.entry
  pub children : v.children ≡ pl.children.items
  pub woken : v.woken ≡ pl.woken.items
  pub bound : v.bound ≡ pl.bound.items
  pub waits : v.waits ≡ pl.waits.items

module _ {S : Type 0} (found : S → S → ℕ → ℕ → Type 0) (takes : S → List (ℕ × Bool)) (purse : S → Quota) (silent : S → S → Type 0)
    (added : S → S → WordMove → ℕ → Type 0) (t : Tables) (old new : S) (pl : Planner) (p : ℕ) where
  -- the takes of this call
  pub record TookFor (needed : ℕ → Type 0) : Type 0 where
    pub pages : List (ℕ × Bool)
    pub are : takes new ≡ takes old ++ pages
    pub rise : AreRising pages
    pub each : (q : ℕ) (b : Bool) → Took pages q b → needed q

  -- An entry was made, with this number: it carries out the move v of the process, which fits each program of which the code is.
  pub record Made (e : WordMove) (n : ℕ) (v : Move) : Type 0 where
    pub is_added : added old new e n
    pub address : e.address ≡ p
    pub carried : IsCarried e v
    pub named : NamesMover e.reads.items p e.entry
    pub safe : IsSafeMove v
    pub fits : (m : Program) → IsCodeOf t m → Fits m v
    pub tells : TellsMove pl v
    pub paid : IsPaid (purse old) e
    pub left : IsSpent (purse old) e (purse new)
    pub took : TookFor (IsNeeded e n)

  -- the process fails by words that were found, and no entry was made
  pub record Failing : Type 0 where
    pub plan : IsPlan t pl p
    pub fail : IsFail pl.entry
    pub words : (a x : ℕ) → word_at pl.machine.trail.kept a ≡ Some x → found old new a x

  -- a move is decided for the process by words that were found, and has so many cells
  pub record IsLarge (needed : ℕ) : Type 0 where
    pub plan : IsLargePlan t pl p needed
    pub words : (a x : ℕ) → word_at pl.machine.trail.kept a ≡ Some x → found old new a x

  -- what the answer says; but for an entry that was made, no entry lies between the two
  abbrev pub TurnSays : Turn → Type 0
  TurnSays (answer.Committed n) = (e : WordMove) × (v : Move) × Made e n v × IsCommit e.entry
  TurnSays (answer.Hung n) = (e : WordMove) × (v : Move) × Made e n v × IsHang e.entry
  TurnSays answer.Fails = silent old new × Failing
  TurnSays (answer.Gone d) = silent old new × ((x : ℕ) × found old new p x × (decoded x ≡ Some (Status d)) × (d ≡ Ready → ⊥))
  TurnSays (answer.Busy page) = silent old new × ((ts : List (ℕ × Bool)) × (takes new ≡ takes old ++ ts) × Took ts page false)
  TurnSays (answer.Stale a x y) = silent old new × found old new a x × found old new a y × (x ≡ y → ⊥)
  TurnSays (answer.Spent spent.Moves) = silent old new × ((purse old).moves ≡ 0)
  TurnSays (answer.Spent spent.Commits) = silent old new × ((purse old).commits ≡ 0)
  TurnSays (answer.Spent (spent.Cells needed left)) = silent old new × ((purse old).cells ≡ left) × (left < needed) × IsLarge needed
  TurnSays answer.NoMemory = silent old new

-- an answer behind which an entry was made
abbrev pub has_made : Turn → Bool
has_made (answer.Committed n) = true
has_made (answer.Hung n) = true
has_made _ = false
