-- What a planner answers for a process, by the words that it read.
use Rattle.std.specs.Prelude.{◌≡◌, ℕ, ◌+◌, ◌<◌, ◌≤◌, pos, Some}
use Rattle.fcp_model.specs.declared.run.Entry.{Entry}
use Rattle.fcp_model.specs.declared.run.Entry.TheVariants.{Commit, Hang, Fail}
use Rattle.fcp_model.specs.declared.run.Proc.{Proc}
use Rattle.fcp_model.specs.Programs.{Program}
use Rattle.heap_words.specs.Cells.{decoded}
use Rattle.heap_words.specs.Trails.{WordList, word_at}
use Rattle.heap_words.specs.declared.cell.Cell.TheVariants.{Small, Status}
use Rattle.heap_words.specs.declared.cell.Stand.TheVariants.{Ready}
use Rattle.word_states.specs.Words.{At}
use Rattle.word_states.specs.Standing.{name_code}
use Rattle.word_states.specs.Trials.{AreReads}
use Rattle.word_states.specs.Costs.{DecidesCells}
use Rattle.word_states.specs.Going.{Move, Fits}
use Rattle.page_layout.specs.Writing.{written}
use Rattle.machine_code.specs.Compiling.{Tables}
use Rattle.trial_machine.specs.Deciding.{Decides, IsCodeOf}
use Rattle.trial_machine.specs.declared.decide.Trial.{Trial}
use Rattle.trial_machine.specs.declared.decide.Trial.TheVariants.{Fails}
use Rattle.word_moves.specs.Planned.{IsSafeMove}
use Rattle.move_plans.specs.declared.planner.Planner.{Planner}
use Rattle.move_plans.specs.declared.planner.Planned.{Planned}
use Rattle.move_plans.specs.declared.planner.Planned.TheVariants as planned

-- the move of the process at p that the planner holds
abbrev pub move_of : Planner → ℕ → Move
move_of pl p = record {
  process = p;
  entry = pl.entry;
  reads = pl.machine.trail.kept;
  writes = λ n. written n pl.writes.items;
  cells = pl.cells;
  children = pl.children.items;
  woken = pl.woken.items;
  bound = pl.bound.items;
  waits = pl.waits.items;
}

-- the entry is a move of this process
abbrev pub IsMoveOf : Entry → Proc → Type 0
IsMoveOf (Commit q k) r = q ≡ r
IsMoveOf (Hang q) r = q ≡ r
IsMoveOf (Fail q) r = q ≡ r
IsMoveOf _ r = ⊥

-- The entry is a move of the process at p: its name was read there.
pub record NamesMover (read : WordList) (p : ℕ) (e : Entry) : Type 0 where
  pub mover : Proc
  pub is_move : IsMoveOf e mover
  pub small : mover.number < 268435456
  pub name : At (word_at read) (p + 1) (Small (pos (name_code mover.entry mover.number)))

-- The move is that of a Ready process: it is sound, and fits each program of which the code is.
pub record IsPlan (t : Tables) (pl : Planner) (p : ℕ) : Type 0 where
  pub is_ready : At (word_at pl.machine.trail.kept) p (Status Ready)
  pub named : NamesMover pl.machine.trail.kept p pl.entry
  pub safe : IsSafeMove (move_of pl p)
  pub fits : (m : Program) → IsCodeOf t m → Fits m (move_of pl p)

-- A commit or a hang is decided for a Ready process by what was read, and its entry has so many cells, for each program of which the code is.
pub record IsLargePlan (t : Tables) (pl : Planner) (p needed : ℕ) : Type 0 where
  pub is_ready : At (word_at pl.machine.trail.kept) p (Status Ready)
  pub reads : AreReads pl.machine.trail.kept
  pub trial : Trial
  pub decided : Decides t pl.machine p trial
  pub goes_on : trial ≡ Fails → ⊥
  pub costs : (m : Program) → IsCodeOf t m → DecidesCells m pl.machine.trail.kept p needed

-- by the answer: a commit or a hang of no more cells than are left, a fail, a process that is not Ready, one whose move has more cells than
-- are left, or one whose move finds no room in the pages
abbrev pub PlanSays : Tables → Planner → ℕ → ℕ → Planned → Type 0
PlanSays t pl p left planned.Commits = IsPlan t pl p × ((q : Proc) × (k : ℕ) × (pl.entry ≡ Commit q k)) × (pl.cells ≤ left)
PlanSays t pl p left planned.Hangs = IsPlan t pl p × ((q : Proc) × (pl.entry ≡ Hang q)) × (pl.cells ≤ left)
PlanSays t pl p left planned.Fails = IsPlan t pl p × ((q : Proc) × (pl.entry ≡ Fail q))
PlanSays t pl p left (planned.Gone d) =
    (x : ℕ) × (word_at pl.machine.trail.kept p ≡ Some x) × (decoded x ≡ Some (Status d)) × (d ≡ Ready → ⊥)
PlanSays t pl p left (planned.Large cells) = IsLargePlan t pl p cells × (left < cells)
PlanSays t pl p left planned.Full = Unit {0}
