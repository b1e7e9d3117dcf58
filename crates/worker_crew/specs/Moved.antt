-- What a turn of the front leaves, and what one ruling gives. Only the crate's private clauses cite this file.
use Rattle.std.specs.Prelude.{◌≡◌, ℕ, ◌+◌, ◌-◌, ◌<◌, ◌≤◌, [], ◌∷◌, ◌++◌, length}
use Rattle.word_states.specs.Words.{Words}
use Rattle.word_states.specs.Going.{Move, GoesOn}
use Rattle.heap_words.specs.Heaps.{inside_at}
use Rattle.commit_engine.specs.Halls.{commits_of, moves_of}
use Rattle.commit_engine.specs.Turns.{TellsMove, IsFail}
use Rattle.run_laws.specs.Running.{IsFront, FrontCosts}
use Rattle.worker_crew.specs.declared.task.Task.{Task}
use Rattle.worker_crew.specs.declared.engine.Engine.{Engine}
use Rattle.worker_crew.specs.declared.engine.Ruled.{Ruled}
use Rattle.worker_crew.specs.declared.engine.Ruled.TheVariants as ruled
use Rattle.worker_crew.specs.Tasks.{program}
use Rattle.worker_crew.specs.Reached.{counts_of, entries_left, IsAtRest, IsReached, HasRoom, HasEnded}

-- This process was taken from the front of the queue, and a move of it goes on in other words.
pub record MovesFront (t : Task) (front : ℕ) (e : Engine) (v : Move) (after : Words) : Type 0 where
  pub reached : IsReached t (front ∷ []) e
  pub is_front : IsFront v e.hall.words.items front e.queue.items (counts_of t e)
  pub goes : GoesOn (program t) v reached.book reached.at.state after

-- The front made a move, which the planner tells: the hall has its words, and its entry in the log. All but the hall and the planner is as
-- it was.
pub record HasMoved (t : Task) (e : Engine) : Type 0 where
  pub old : Engine
  pub front : ℕ
  pub move : Move
  pub moves_front : MovesFront t front old move (inside_at e.hall.words.items)
  pub tells : TellsMove e.planner move
  pub log : e.hall.log.items ≡ old.hall.log.items ++ move.entry ∷ []
  pub rest : IsAtRest t e
  pub queue : e.queue.items ≡ old.queue.items
  pub asleep : e.asleep ≡ old.asleep
  pub made : e.made ≡ old.made
  pub mode : e.mode ≡ old.mode
  -- the quota covered it, and fell by what it costs
  pub paid : move.cells ≤ old.hall.quota.cells
  pub commits : e.hall.quota.commits ≡ old.hall.quota.commits - commits_of move.entry
  pub moves : e.hall.quota.moves ≡ old.hall.quota.moves - moves_of move.entry
  pub cells : e.hall.quota.cells ≡ old.hall.quota.cells - move.cells

-- the front fails, as the planner tells
pub record HasFailed (t : Task) (front : ℕ) (e : Engine) : Type 0 where
  pub move : Move
  pub after : Words
  pub moves_front : MovesFront t front e move after
  pub tells : move.entry ≡ e.planner.entry
  pub fails : IsFail e.planner.entry

-- The entry of the front has more cells than are left. Nothing of it was planned.
pub record HasPassed (t : Task) (front : ℕ) (e : Engine) : Type 0 where
  pub reached : IsReached t (front ∷ []) e
  pub room : HasRoom t e
  pub needed : ℕ
  pub costs : FrontCosts (program t) reached.at needed
  pub large : e.hall.quota.cells < needed

-- what one ruling gives, where so many entries were left, with so many processes in the queue and so many of them at its back
abbrev pub RuleGives : Task → ℕ → ℕ → ℕ → Engine → Ruled → Type 0
RuleGives t left queued passed e (ruled.Ends o) = HasEnded t e o
RuleGives t left queued passed e ruled.Passes =
    IsReached t [] e × (entries_left t e ≡ left) × (length e.queue.items ≡ queued) × (e.passed ≡ passed + 1) × (passed < queued)
RuleGives t left queued passed e ruled.Makes = IsReached t [] e × (entries_left t e < left)
