-- What laying a goal asks, and what it leaves.
use Rattle.std.specs.Prelude.{◌≡◌, ℕ, ◌+◌, ◌-◌, ◌*◌, ◌%◌, ◌<◌, ◌≤◌, pos, min, List, [], ◌∷◌, length, replicate, slice_get}
use Rattle.std.specs.Prelude.{sum, sum_by, Some, None}
use Rattle.fcp_model.specs.declared.source.GoalText.{GoalText}
use Rattle.fcp_model.specs.declared.source.Module.{Module}
use Rattle.fcp_model.specs.declared.goal.TheConstants.{TRUE_PROCEDURE}
use Rattle.fcp_model.specs.ProcedureNames.{procedure_names}
use Rattle.fcp_model.specs.Goals.{AreNumbersOf}
use Rattle.fcp_model.specs.Places.{place}
use Rattle.fcp_model.specs.Programs.{Goal}
use Rattle.fcp_model.specs.Cells.{goal_cells}
use Rattle.fcp_model.specs.Translation.{started_goals, start_of}
use Rattle.fcp_model.specs.ClosedPrograms.{GoalsOver, IsNumbered}
use Rattle.heap_words.specs.Heaps.{IsHeap, AreFresh, inside_at, top_at}
use Rattle.heap_words.specs.declared.cell.Cell.TheVariants.{Small}
use Rattle.word_states.specs.Words.{At}
use Rattle.word_states.specs.Standing.{Book, StandsFor, PlaceAt}
use Rattle.goal_layout.specs.declared.layout.Laid.{Laid}
use Rattle.goal_layout.specs.declared.layout.Laid.TheVariants.{Done, NoRoom}
use Rattle.goal_layout.specs.FirstFit.{first_fit}
use Rattle.goal_layout.specs.PieceSizes.{sizes_of}
use Rattle.goal_layout.specs.Pages.{ArePages, rooms}
use Rattle.goal_layout.specs.Laying.{IsQuiet}
use Rattle.goal_layout.specs.Items.{IsNarrowGoal}

-- the words of a new heap: whole pages with nothing but their tops
pub record AreNew (ws : List ℕ) : Type 0 where
  pub whole : length ws % 1024 ≡ 0
  pub small : length ws ≤ 4000000000
  pub fresh : AreFresh (length ws) ws

-- each of the goals has few arguments, each of them narrow
abbrev pub AreNarrowGoals : List (Goal ℕ) → Type 0
AreNarrowGoals [] = Unit {0}
AreNarrowGoals (g ∷ gs) = IsNarrowGoal g × AreNarrowGoals gs

-- What laying asks of a goal, with the numbers of its procedures. Each goal that is read from a text and loads has it.
pub record MayBeLaid (m : Module) (g : GoalText × List ℕ) : Type 0 where
  -- the numbers are those of the module, which has at most as many procedures as there are numbers below the built-in ones
  pub numbers : AreNumbersOf m g.0.items g.1
  pub procedures : length (procedure_names m.clauses) ≤ TRUE_PROCEDURE
  -- there are items, and not too many of them
  pub some : 0 < length g.0.items
  pub items : length g.0.items ≤ 256
  -- variables are numbered from 1, up to at most 250
  pub variables : length g.0.names ≤ 250
  pub numbered : GoalsOver (IsNumbered (length g.0.names)) (started_goals m g.0)
  -- each call has at most 64 arguments, and each tuple at most 65 parts
  pub narrow : AreNarrowGoals (started_goals m g.0)

-- the goal's pieces
abbrev pub goal_pieces : Module → GoalText → List ℕ
goal_pieces m g = sizes_of (length g.names) (started_goals m g)

-- the goal's cells
abbrev pub cells_of : Module → GoalText → ℕ
cells_of m g = 2 * length g.names + sum_by goal_cells (started_goals m g)

-- The goal's places are laid: the k-th has its word at 2k and its name before it.
pub record LaysPlaces (vars : ℕ) (ws ws' : List ℕ) : Type 0 where
  pub pages : ArePages ws'
  pub size : length ws' ≡ length ws
  pub fits : first_fit (rooms ws) (replicate vars 2) ≡ Some (rooms ws')
  pub names : (k : ℕ) → 1 ≤ k → k ≤ vars → At (inside_at ws') (2 * k - 1) (Small (pos k))
  pub words : (k : ℕ) → 1 ≤ k → k ≤ vars → inside_at ws' (2 * k) ≡ Some 0
  pub quiet : (a x : ℕ) → inside_at ws' a ≡ Some x → IsQuiet x

-- The goal was laid.
pub record LaysGoal (m : Module) (g : GoalText) (p : ℕ) (ws ws' : List ℕ) : Type 0 where
  -- all of its pieces fit, one after another, each in the first page that has room for it; and these rooms are left
  pub fits : first_fit (rooms ws) (goal_pieces m g) ≡ Some (rooms ws')
  -- the words are a heap, and stand for the first state of the goal's runs
  pub heap : IsHeap ws'
  pub book : Book
  pub stands : StandsFor book (inside_at ws') (start_of m g)
  -- the place of variable k has its word at 2k
  pub places : (k : ℕ) → 1 ≤ k → k ≤ length g.names → PlaceAt book (place 0 k) (2 * k)
  -- the first process is at p
  pub first : slice_get book.processes 0 ≡ Some p
  -- no top is lower than it was
  pub tops : (q : ℕ) → 1024 * q < length ws → top_at ws (1024 * q) ≤ top_at ws' (1024 * q)

-- the number, or the greatest that 32 bits hold where it is greater
abbrev pub at_most : ℕ → ℕ
at_most n = min n 4294967295

-- How a goal was laid: where not all of its pieces fit, its cells and the free words are told, and the words are as they were.
abbrev pub IsLaid : Module → GoalText → List ℕ → List ℕ → Laid → Type 0
IsLaid m g ws ws' (Done p) = LaysGoal m g p ws ws'
IsLaid m g ws ws' (NoRoom needed free) = (first_fit (rooms ws) (goal_pieces m g) ≡ None)
    × (needed ≡ at_most (cells_of m g)) × (free ≡ sum (rooms ws)) × (ws' ≡ ws)
