-- A log within limits, with its controls kept.
use Rattle.std.specs.Prelude.{◌≡◌, ℕ, ◌+◌, ◌<◌, ◌≤◌, ◌⊎◌, Bool, true, false, not, List, [], ◌∷◌, map, length, take, drop, count_by, if◌then◌else◌, IsTrue}
use Rattle.fcp_model.specs.declared.run.Entry.{Entry}
use Rattle.fcp_model.specs.declared.run.Entry.TheVariants.{Commit, Fail, Snapshot, Suspend, Resume, Abort}
use Rattle.fcp_model.specs.declared.run.Limits.{Limits}
use Rattle.fcp_model.specs.declared.run.Act.{Act}
use Rattle.fcp_model.specs.declared.run.Act.TheVariants as act
use Rattle.fcp_model.specs.declared.run.Control.{Control}
use Rattle.fcp_model.specs.Events.{Event}
use Rattle.fcp_model.specs.Runs.{entries_of, cells_of}

-- the entry is a commit
abbrev pub is_commit : Entry → Bool
is_commit (Commit p k) = true
is_commit _ = false

-- the entry is a fail
abbrev pub is_fail : Entry → Bool
is_fail (Fail p) = true
is_fail _ = false

-- the entry was asked for by a control
abbrev pub is_control : Entry → Bool
is_control Snapshot = true
is_control Suspend = true
is_control Resume = true
is_control Abort = true
is_control _ = false

-- commits, hangs and fails
abbrev pub is_move : Entry → Bool
is_move e = not (is_control e)

-- how many entries are commits
abbrev pub commits_in : List Entry → ℕ
commits_in es = count_by is_commit es

-- how many entries are moves
abbrev pub moves_in : List Entry → ℕ
moves_in es = count_by is_move es

-- 1 for a yes
abbrev pub one : Bool → ℕ
one b = if b then 1 else 0

-- where there is a move, one more commit and one more move are allowed
abbrev pub AllowsMove : Limits → ℕ → ℕ → Bool → Type 0
AllowsMove limits commits moves true = (commits < limits.commits) × (moves < limits.moves)
AllowsMove limits commits moves false = Unit {0}

-- before each move the commits and the moves so far are both below their limits
abbrev pub KeepsCounts : Limits → ℕ → ℕ → List Entry → Type 0
KeepsCounts limits commits moves [] = Unit {0}
KeepsCounts limits commits moves (e ∷ es) = AllowsMove limits commits moves (is_move e) × KeepsCounts limits (commits + one (is_commit e)) (moves + one (is_move e)) es

-- the run keeps to the limits
pub record IsWithin (limits : Limits) (evs : List Event) : Type 0 where
  pub counts : KeepsCounts limits 0 0 (entries_of evs)
  pub cells : cells_of evs ≤ limits.cells

-- the entry that a control asks for
abbrev pub act_entry : Act → Entry
act_entry act.Snapshot = Snapshot
act_entry act.Suspend = Suspend
act_entry act.Resume = Resume
act_entry act.Abort = Abort

-- the last entry is a fail
abbrev pub ends_in_fail : List Entry → Bool
ends_in_fail [] = false
ends_in_fail (e ∷ []) = is_fail e
ends_in_fail (e ∷ f ∷ es) = ends_in_fail (f ∷ es)

-- each control entry, with the number of moves before it
abbrev pub control_places : ℕ → List Entry → List (ℕ × Entry)
control_places moves [] = []
control_places moves (e ∷ es) = if is_control e then (moves, e) ∷ control_places moves es else control_places (moves + 1) es

-- the next control is not due: the log has fewer moves, or it ends in a fail and has no more
abbrev pub NotDue : List Entry → List Control → Type 0
NotDue log [] = Unit {0}
NotDue log (c ∷ cs) = (moves_in log < c.after) ⊎ (IsTrue (ends_in_fail log) × (moves_in log ≤ c.after))

-- the log's controls are the first `reached` of the list, each made after its number of moves, and the next is not due
pub record KeepsControls (controls : List Control) (reached : ℕ) (log : List Entry) : Type 0 where
  pub made : control_places 0 log ≡ map (λ c. (c.after, act_entry c.act)) (take reached controls)
  pub within : reached ≤ length controls
  pub rest : NotDue log (drop reached controls)
