-- What laying an item does to the words.
use Rattle.std.specs.Prelude.{◌≡◌, ◌⊎◌, ℕ, ◌+◌, ◌%◌, ◌≤◌, pos, true, false, List, [], ◌∷◌, ◌++◌, length, map, slice_get, Some}
use Rattle.fcp_model.specs.declared.source.Call.{Call}
use Rattle.fcp_model.specs.declared.source.Module.{Module}
use Rattle.fcp_model.specs.declared.goal.TheConstants.{TRUE_PROCEDURE}
use Rattle.fcp_model.specs.ProcedureNames.{procedure_names}
use Rattle.fcp_model.specs.Goals.{number_of_call}
use Rattle.fcp_model.specs.Places.{Variable, placed, proc}
use Rattle.fcp_model.specs.Terms.{Term}
use Rattle.fcp_model.specs.Expressions.{Expr}
use Rattle.fcp_model.specs.Programs.{Goal, user, true', unifies, assigns, rename_goal}
use Rattle.fcp_model.specs.States.{ready, Process}
use Rattle.fcp_model.specs.Translation.{goal_of}
use Rattle.fcp_model.specs.ClosedPrograms.{GoalOver, IsNumbered}
use Rattle.heap_words.specs.Cells.{decoded, encoded}
use Rattle.heap_words.specs.Heaps.{is_inside, inside_at}
use Rattle.heap_words.specs.declared.cell.Cell.TheVariants.{Small, Raw, Status}
use Rattle.heap_words.specs.declared.cell.Stand.TheVariants.{Ready}
use Rattle.word_states.specs.Words.{At, StandAt}
use Rattle.word_states.specs.Denoting.{Addresses, Denotes, Arguments, ExprSays}
use Rattle.word_states.specs.Standing.{ProcessSays}
use Rattle.goal_layout.specs.FirstFit.{first_fit}
use Rattle.goal_layout.specs.PieceSizes.{term_sizes, expr_sizes, all_sizes, goal_sizes}
use Rattle.goal_layout.specs.Pages.{ArePages, rooms}
use Rattle.goal_layout.specs.Laying.{IsNarrow, IsNarrowExpr, IsSaid, Fills, places_of, settled_term, settled_expr}

-- the words of a process that is Ready: its status, its name, its procedure, its number of arguments, the arguments
abbrev pub process_words : ℕ → ℕ → List ℕ → List ℕ
process_words number procedure args =
    encoded (Status Ready) ∷ encoded (Small (pos number)) ∷ encoded (Raw procedure) ∷ encoded (Raw (length args)) ∷ args

-- the process of this number is laid at p
abbrev pub LaysProcess : ℕ → ℕ → List ℕ → ℕ → List ℕ → List ℕ → Type 0
LaysProcess number procedure args p = Fills (4 + length args) p (process_words number procedure args)

-- each of the terms is narrow
abbrev pub AllNarrow : List (Term ℕ) → Type 0
AllNarrow [] = Unit {0}
AllNarrow (t ∷ ts) = IsNarrow t × AllNarrow ts

-- a goal of at most 64 arguments, each of them narrow
abbrev pub IsNarrowGoal : Goal ℕ → Type 0
IsNarrowGoal (user f ts) = (length ts ≤ 64) × AllNarrow ts
IsNarrowGoal true' = Unit {0}
IsNarrowGoal (unifies t u) = IsNarrow t × IsNarrow u
IsNarrowGoal (assigns t e) = IsNarrow t × IsNarrowExpr e

-- the goal of a call in a module
abbrev pub called : Module → Call → Goal ℕ
called m call = goal_of (procedure_names m.clauses) call

-- in a module with few procedures the call has this number
pub record IsNumberIn (m : Module) (call : Call) (procedure : ℕ) : Type 0 where
  pub number : number_of_call m call ≡ Some procedure
  pub few : length (procedure_names m.clauses) ≤ TRUE_PROCEDURE

-- and the goal may be laid
pub record IsLayable (m : Module) (call : Call) (procedure : ℕ) : Type 0 where
  pub number : IsNumberIn m call procedure
  pub narrow : IsNarrowGoal (called m call)
  pub numbered : (vars : ℕ) × GoalOver (IsNumbered vars) (called m call)

-- the goal of a process
abbrev pub settled_goal : Goal ℕ → Goal Variable
settled_goal = rename_goal (placed 0)

-- the process `#0.k` with this goal
abbrev pub new_process : ℕ → Goal ℕ → Process
new_process k g = record { name = proc 0 k; goal = settled_goal g; status = ready }

-- A process was laid after pieces of these sizes: its head says its number and its procedure, and after it stand its arguments.
pub record LaysHeaded (vs : Addresses) (sizes : List ℕ) (k f : ℕ) (xs : List ℕ) (p : ℕ) (ws ws' : List ℕ) : Type 0 where
  pub pages : ArePages ws'
  pub size : length ws' ≡ length ws
  pub fits : first_fit (rooms ws) (sizes ++ (4 + length xs) ∷ []) ≡ Some (rooms ws')
  pub kept : (a : ℕ) → is_inside ws a ≡ true → (a % 1024 ≡ 0 → ⊥) → (is_inside ws' a ≡ true) × (slice_get ws' a ≡ slice_get ws a)
  pub free : is_inside ws p ≡ false
  pub said : (a x : ℕ) → inside_at ws' a ≡ Some x
      → (inside_at ws a ≡ Some x) ⊎ (IsSaid (inside_at ws') vs x ⊎ ((a ≡ p) × (decoded x ≡ Some (Status Ready))))
  pub status : At (inside_at ws') p (Status Ready)
  pub name : At (inside_at ws') (p + 1) (Small (pos k))
  pub procedure : At (inside_at ws') (p + 2) (Raw f)
  pub count : At (inside_at ws') (p + 3) (Raw (length xs))
  pub stand : StandAt (inside_at ws') (p + 4) xs

-- A call's arguments and its process were laid.
pub record LaysCall (vars : ℕ) (ts : List (Term ℕ)) (f k p : ℕ) (ws ws' : List ℕ) : Type 0 where
  pub words : List ℕ
  pub count : length words ≡ length ts
  pub headed : LaysHeaded (places_of vars) (all_sizes ts) k f words p ws ws'
  pub args : Arguments (inside_at ws') (places_of vars) (p + 4) (map settled_term ts)

-- The two sides of `=` and its process were laid.
pub record LaysUnify (vars : ℕ) (t u : Term ℕ) (f k p : ℕ) (ws ws' : List ℕ) : Type 0 where
  pub first : ℕ
  pub second : ℕ
  pub headed : LaysHeaded (places_of vars) (term_sizes t ++ term_sizes u) k f (first ∷ second ∷ []) p ws ws'
  pub args : Arguments (inside_at ws') (places_of vars) (p + 4) (settled_term t ∷ settled_term u ∷ [])

-- The two sides of `:=` and its process were laid.
pub record LaysAssign (vars : ℕ) (t : Term ℕ) (e : Expr ℕ) (f k p : ℕ) (ws ws' : List ℕ) : Type 0 where
  pub first : ℕ
  pub second : ℕ
  pub headed : LaysHeaded (places_of vars) (term_sizes t ++ expr_sizes e) k f (first ∷ second ∷ []) p ws ws'
  pub left : Denotes (inside_at ws') (places_of vars) first (settled_term t)
  pub right : ExprSays (inside_at ws') (places_of vars) second (settled_expr e)

-- An item was laid: the pieces of its terms, and its process at p.
pub record LaysItem (vars : ℕ) (g : Goal ℕ) (k p : ℕ) (ws ws' : List ℕ) : Type 0 where
  pub pages : ArePages ws'
  pub size : length ws' ≡ length ws
  pub fits : first_fit (rooms ws) (goal_sizes g) ≡ Some (rooms ws')
  pub kept : (a : ℕ) → is_inside ws a ≡ true → (a % 1024 ≡ 0 → ⊥) → (is_inside ws' a ≡ true) × (slice_get ws' a ≡ slice_get ws a)
  pub free : is_inside ws p ≡ false
  pub said : (a x : ℕ) → inside_at ws' a ≡ Some x
      → (inside_at ws a ≡ Some x) ⊎ (IsSaid (inside_at ws') (places_of vars) x ⊎ ((a ≡ p) × (decoded x ≡ Some (Status Ready))))
  pub process : ProcessSays (inside_at ws') (places_of vars) [] 0 p (new_process k g)
