-- The cells of a commit are those that the numbers of its process say.
use Rattle.std.proofs.Common.{◌≡◌, ℕ, zero, suc, ◌+◌, ◌<◌, Bool, true, false, cond, List, [], ◌∷◌, length, map, refl, sym, ap, ◌∙◌}
use Rattle.std.proofs.Common.{Option, Some, None}
use Rattle.std.specs.Prelude.{slice_get, nat_eq, option_map, unwrap_or}
use Rattle.std.proofs.lemmas.Bool.{lt-ltb}
use Rattle.std.proofs.lemmas.Option.{same_Some, slice_get-map}
use Rattle.fcp_model.specs.declared.goal.TheConstants.{TRUE_PROCEDURE, UNIFY_PROCEDURE, ASSIGN_PROCEDURE}
use Rattle.fcp_model.specs.Cells.{clause_used, commit_cells}
use Rattle.fcp_model.specs.Places.{Variable}
use Rattle.fcp_model.specs.Terms.{Term, Bindings}
use Rattle.fcp_model.specs.Programs.{Goal, user, true', unifies, assigns, Clause, Procedure, Program}
use Rattle.heap_words.specs.Trails.{WordList}
use Rattle.heap_words.specs.declared.cell.Cell.TheVariants.{Raw}
use Rattle.word_states.specs.Words.{Words, At}
use Rattle.word_states.specs.Denoting.{Addresses, GoalSays}
use Rattle.word_states.specs.Trials.{IsTried}
use Rattle.word_states.proofs.Persisting.{one_cell}
use Rattle.machine_code.specs.declared.code.ClauseSize.{ClauseSize}
use Rattle.machine_code.specs.Machine.{Entrance}
use Rattle.machine_code.specs.Compiling.{Tables, name_kept, clause_at, compiled}
use Rattle.machine_code.specs.Correct.{clause_size, facts_in_code, facts_in_source, NamesSource}
use Rattle.trial_machine.specs.Goals.{NumberRead}
use Rattle.trial_machine.proofs.GoalWords.{goal_name, goal_count, kept_cell, same_number}
use Rattle.word_moves.specs.Planned.{CellsSay}
use Rattle.move_plans.specs.Sizes.{cells_where, cells_by, cells_found, CellsRead}

-- the cells of a procedure's clauses
clause_cells_at : (cs : List Clause) (k : ℕ)
    → unwrap_or (option_map (λ (c : ClauseSize). c.cells) (slice_get (map clause_size cs) k)) 1 ≡ commit_cells (slice_get cs k)
clause_cells_at [] k = refl
clause_cells_at (c ∷ cs) zero = refl
clause_cells_at (c ∷ cs) (suc k) = clause_cells_at cs k

called : (b : Bool) (cs : List Clause) (k : ℕ)
    → cond b (unwrap_or (option_map (λ (c : ClauseSize). c.cells) (slice_get (map clause_size cs) k)) 1) 1
    ≡ commit_cells (slice_get (cond b cs []) k)
called true cs k = clause_cells_at cs k
called false cs k = refl

none_there : (o : Option (ℕ × ℕ)) (n : ℕ) → cells_where o n None ≡ 1
none_there None n = refl
none_there (Some e) n = same (nat_eq e.1 n)
  where
    same : (b : Bool) → ◌≡◌ {A = ℕ} (cond b 1 1) 1
    same true = refl
    same false = refl

-- a procedure in code has the cells of the source
procedure_cells : (o : Option Entrance) (u : Option Procedure) (n k : ℕ) → option_map facts_in_code o ≡ option_map facts_in_source u
    → cells_where (option_map name_kept o) n
    (option_map (λ (c : ClauseSize). c.cells) (elim o [ None ↦ None | Some e ↦ slice_get e.clauses k ]))
    ≡ commit_cells (slice_get (elim u [ None ↦ [] | Some d ↦ cond (nat_eq d.arity n) d.clauses [] ]) k)
procedure_cells None None n k h = refl
procedure_cells None (Some d) n k h = cc
procedure_cells (Some e) None n k h = cc
procedure_cells (Some e) (Some d) n k h =
    let z : facts_in_code e ≡ facts_in_source d = same_Some (facts_in_code e) (facts_in_source d) h in
    let arity : e.arity ≡ d.arity = ap (λ (q : ℕ × ℕ × List ClauseSize). q.1) z in
    let clauses : e.clauses ≡ map clause_size d.clauses = ap (λ (q : ℕ × ℕ × List ClauseSize). q.2) z in
    ap (λ (a : ℕ). cond (nat_eq a n) (unwrap_or (option_map (λ (c : ClauseSize). c.cells) (slice_get e.clauses k)) 1) 1) arity
    ∙ ap (λ (l : List ClauseSize). cond (nat_eq d.arity n) (unwrap_or (option_map (λ (c : ClauseSize). c.cells) (slice_get l k)) 1) 1)
    clauses
    ∙ called (nat_eq d.arity n) d.clauses k

user_cells : (t : Tables) (m : Program) (f k : ℕ) (ts : List (Term Variable)) → NamesSource m (compiled t) → f < TRUE_PROCEDURE
    → commit_cells (clause_used m (user f ts) k) ≡ cells_by t.procedures f (length ts) k
user_cells t m f zero ts names below =
    sym (ap (λ (b : Bool). cond b (cells_where (option_map name_kept (slice_get t.procedures f)) (length ts) None) 1)
    (lt-ltb f TRUE_PROCEDURE below) ∙ none_there (option_map name_kept (slice_get t.procedures f)) (length ts))
user_cells t m f (suc k) ts names below =
    sym (ap (λ (b : Bool). cond b (cells_where (option_map name_kept (slice_get t.procedures f)) (length ts)
    (option_map (λ (c : ClauseSize). c.cells) (clause_at t.procedures f (suc k)))) 1) (lt-ltb f TRUE_PROCEDURE below)
    ∙ procedure_cells (slice_get t.procedures f) (slice_get m f) (length ts) k
    (sym (slice_get-map facts_in_code t.procedures f) ∙ ap (λ (l : List (ℕ × ℕ × List ClauseSize)). slice_get l f) names
    ∙ slice_get-map facts_in_source m f))

number_one : (w : Words) (a f g : ℕ) → At w a (Raw f) → At w a (Raw g) → f ≡ g
number_one w a f g h k = let e : Raw f ≡ Raw g = one_cell w a (Raw f) (Raw g) h k in cc

-- a goal's commit has the cells that its numbers say
goal_cells_by : (t : Tables) (m : Program) (w : Words) (vs : Addresses) (p k : ℕ) (g : Goal Variable) (f n : ℕ) → NamesSource m (compiled t)
    → GoalSays w vs p g → At w (p + 2) (Raw f) → At w (p + 3) (Raw n)
    → commit_cells (clause_used m g k) ≡ cells_by t.procedures f n k
goal_cells_by t m w vs p k (user h ts) f n names says at count =
    user_cells t m h k ts names says.3
    ∙ ap (λ (i : ℕ). cells_by t.procedures i (length ts) k) (number_one w (p + 2) h f says.0 at)
    ∙ ap (λ (i : ℕ). cells_by t.procedures f i k) (number_one w (p + 3) (length ts) n says.1 count)
goal_cells_by t m w vs p k true' f n names says at count =
    ap (λ (i : ℕ). cells_by t.procedures i n k) (number_one w (p + 2) TRUE_PROCEDURE f says.0 at)
goal_cells_by t m w vs p k (unifies u v) f n names says at count =
    ap (λ (i : ℕ). cells_by t.procedures i n k) (number_one w (p + 2) UNIFY_PROCEDURE f says.0 at)
goal_cells_by t m w vs p k (assigns u v) f n names says at count =
    ap (λ (i : ℕ). cells_by t.procedures i n k) (number_one w (p + 2) ASSIGN_PROCEDURE f says.0 at)

-- the number that stands there was read
number_is : (kept : WordList) (p : ℕ) (w : Words) (vs : Addresses) (bound : Bindings) (g : Goal Variable) → IsTried kept p w vs bound g
    → (a : ℕ) (o : Option ℕ) (n : ℕ) → NumberRead kept a o → At w a (Raw n) → o ≡ Some n
number_is kept p w vs bound g t a None n r at = absurd (r.2 n (kept_cell kept p w vs bound g t a r.0 (Raw n) r.1 at))
number_is kept p w vs bound g t a (Some m) n r at = ap Some (sym (same_number kept p w vs bound g t a m n r at))

pub cells_say : (t : Tables) (kept : WordList) (p k cells : ℕ) → CellsRead t kept p k cells → (m : Program) → NamesSource m (compiled t)
    → CellsSay m kept p k cells
cells_say t kept p k cells r m names w vs bound g tried =
    let f = goal_name w vs p g tried.goal in
    let n = goal_count w vs p g tried.goal in
    goal_cells_by t m w vs p k g f.0 n.0 names tried.goal f.1 n.1
    ∙ sym (r.4 ∙ ap (λ (o : Option ℕ). cells_found t.procedures o r.1 k) (number_is kept p w vs bound g tried (p + 2) r.0 f.0 r.2 f.1)
    ∙ ap (λ (o : Option ℕ). cells_found t.procedures (Some f.0) o k) (number_is kept p w vs bound g tried (p + 3) r.1 n.0 r.3 n.1))
