-- The trial of a process that calls a procedure of the code.
use Rattle.std.proofs.Common.{◌≡◌, ◌⊎◌, ℕ, zero, suc, ◌+◌, ◌<◌, ◌≤◌, Bool, true, false, cond, List, []}
use Rattle.std.proofs.Common.{◌∷◌, length, refl, sym, ap, ◌∙◌, subst}
use Rattle.std.proofs.Common.{⊎_elim, inl, inr, arith, Option, Some, None}
use Rattle.std.specs.Prelude.{slice_get, unwrap_or, option_map, nat_eq, map}
use Rattle.std.proofs.lemmas.Bool.{eq-eqb, ne_eqb, cases_lt}
use Rattle.std.proofs.lemmas.Option.{same_Some, slice_get-map}
use Rattle.fcp_model.specs.Places.{Variable}
use Rattle.fcp_model.specs.Terms.{Term, nil, Bindings}
use Rattle.fcp_model.specs.Programs.{Goal, user, true', unifies, assigns, Program, Procedure, Clause, clauses_of}
use Rattle.fcp_model.specs.Decisions.{Decision, decides_fail}
use Rattle.fcp_model.specs.Decisions as source
use Rattle.fcp_model.specs.Cells.{clause_used}
use Rattle.fcp_model.specs.Events.{vars_of}
use Rattle.fcp_model.specs.declared.goal.TheConstants.{TRUE_PROCEDURE, UNIFY_PROCEDURE, ASSIGN_PROCEDURE}
use Rattle.heap_words.specs.Trails.{WordList, word_at}
use Rattle.heap_words.specs.declared.cell.Cell.TheVariants.{Raw}
use Rattle.word_states.specs.Words.{Words, At}
use Rattle.word_states.specs.Denoting.{Addresses, Arguments}
use Rattle.word_states.specs.Trials.{IsTried, TriedFail, FailSays}
use Rattle.machine_code.specs.declared.code.ClauseSize.{ClauseSize}
use Rattle.machine_code.specs.Instructions.{Op}
use Rattle.machine_code.specs.Machine.{Meaning, Entrance, enter, follow, untried, plain_fail}
use Rattle.machine_code.specs.Compiling.{Tables, compiled, clause_at, name_kept}
use Rattle.machine_code.specs.Correct.{NamesSource, MeansSource, facts_in_code, facts_in_source, clause_size}
use Rattle.trial_laws.specs.Endings.{IsOfSource}
use Rattle.steady_tries.specs.Steady.{arguments_of}
use Rattle.steady_tries.specs.Ends.{IsOfProgram}
use Rattle.trial_machine.specs.declared.machine.Machine.{Machine}
use Rattle.trial_machine.specs.declared.decide.Trial.{Trial}
use Rattle.trial_machine.specs.declared.decide.Trial.TheVariants.{Fails}
use Rattle.trial_machine.specs.Machines.{Frame, course}
use Rattle.trial_machine.specs.Goals.{Calls, NoGoal}
use Rattle.trial_machine.specs.Deciding.{IsCodeOf, IsDecided, Concludes, at_end}
use Rattle.trial_machine.proofs.GoalWords.{same_number}

-- the goal of such a process
pub record UserGoal (w : Words) (vs : Addresses) (p f n : ℕ) (g : Goal Variable) : Type 0 where
  pub args : List (Term Variable)
  pub is : g ≡ user f args
  pub count : length args ≡ n
  pub says : Arguments w vs (p + 4) args

pub user_goal : (kept : WordList) (p f n : ℕ) → Calls kept p f n → f < TRUE_PROCEDURE → (w : Words) (vs : Addresses) (bound : Bindings)
    (g : Goal Variable) → IsTried kept p w vs bound g → UserGoal w vs p f n g
user_goal kept p f n c l w vs bound (user h ts) t =
    let s : h ≡ f = same_number kept p w vs bound (user h ts) t (p + 2) f h c.name t.goal.0 in
    record {
      args = ts;
      is = ap (λ k. user k ts) s;
      count = same_number kept p w vs bound (user h ts) t (p + 3) n (length ts) c.count t.goal.1;
      says = t.goal.2;
    }
user_goal kept p f n c l w vs bound true' t =
    let s : TRUE_PROCEDURE ≡ f = same_number kept p w vs bound true' t (p + 2) f TRUE_PROCEDURE c.name t.goal.0 in absurd (omega
    (arith, s, l))
user_goal kept p f n c l w vs bound (unifies u v) t =
    let s : UNIFY_PROCEDURE ≡ f = same_number kept p w vs bound (unifies u v) t (p + 2) f UNIFY_PROCEDURE c.name t.goal.0 in
    absurd (omega (arith, s, l))
user_goal kept p f n c l w vs bound (assigns u e) t =
    let s : ASSIGN_PROCEDURE ≡ f = same_number kept p w vs bound (assigns u e) t (p + 2) f ASSIGN_PROCEDURE c.name t.goal.0 in
    absurd (omega (arith, s, l))

-- a procedure with so many arguments is entered, and one with others is not
entered : (n : ℕ) (s : Bindings) (ops : List Op) (args : List (Term Variable)) (e : Entrance) → length args ≡ e.arity
    → enter n s ops args (Some e) ≡ follow n s ops args e.first untried
entered n s ops args e h =
    ap (λ (b : Bool). elim b [ true ↦ follow n s ops args e.first untried | false ↦ Some plain_fail ]) (eq-eqb (length args) e.arity h)

not_entered : (n : ℕ) (s : Bindings) (ops : List Op) (args : List (Term Variable)) (e : Entrance) → (length args ≡ e.arity → ⊥)
    → enter n s ops args (Some e) ≡ Some plain_fail
not_entered n s ops args e h =
    ap (λ (b : Bool). elim b [ true ↦ follow n s ops args e.first untried | false ↦ Some plain_fail ]) (ne_eqb (length args) e.arity h)

-- a call that is not entered fails
plain_fails : (t : Tables) (m : Program) (bound : Bindings) (f : ℕ) (args : List (Term Variable)) → IsCodeOf t m
    → enter 0 bound (compiled t).ops args (slice_get t.procedures f) ≡ Some plain_fail → FailSays m bound (user f args)
plain_fails t m bound f args is e =
    let r = is.means.only bound (user f args) plain_fail (0, e) in
    record {
      reads = [];
      decides = subst (source.Decides m bound (user f args)) (sym (ap (λ (d : Meaning). d.decision) r.2)) r.1;
    }

call_fails : (t : Tables) (kept : WordList) (p f n : ℕ) → Calls kept p f n → f < TRUE_PROCEDURE
    → ((s : Bindings) (args : List (Term Variable)) → length args ≡ n
    → enter 0 s (compiled t).ops args (slice_get t.procedures f) ≡ Some plain_fail) → (m : Machine) → m.trail.kept ≡ kept
    → IsDecided t (at_end m) p Fails
call_fails t kept p f n c l h m same = record {
  says = λ prog is w vs bound g tried.
      let u = user_goal kept p f n c l w vs bound g (subst (λ k. IsTried k p w vs bound g) same tried) in
      subst (FailSays prog bound) (sym u.is) (plain_fails t prog bound f u.args is (h bound u.args u.count));
  handed = tt;
}

-- there is no such procedure
pub no_procedure : (t : Tables) (kept : WordList) (p f n : ℕ) → Calls kept p f n → f < TRUE_PROCEDURE → slice_get t.procedures f ≡ None
    → (m : Machine) → m.trail.kept ≡ kept → IsDecided t (at_end m) p Fails
no_procedure t kept p f n c l none m same =
    call_fails t kept p f n c l (λ s args k. ap (enter 0 s (compiled t).ops args) none) m same

-- or it has another number of arguments
pub other_count : (t : Tables) (kept : WordList) (p f n : ℕ) (e : Entrance) → Calls kept p f n → f < TRUE_PROCEDURE
    → slice_get t.procedures f ≡ Some e → (n ≡ e.arity → ⊥) → (m : Machine) → m.trail.kept ≡ kept → IsDecided t (at_end m) p Fails
other_count t kept p f n e c l there other m same =
    call_fails t kept p f n c l (λ s args k. ap (enter 0 s (compiled t).ops args) there
    ∙ not_entered 0 s (compiled t).ops args e (λ j. other (sym k ∙ j))) m same

-- there is no goal at all
pub nothing_to_say : (t : Tables) (p : ℕ) (m : Machine) → NoGoal m.trail.kept p → IsDecided t (at_end m) p Fails
nothing_to_say t p m no_goal = record { says = λ prog is w vs bound g tried. absurd (no_goal w vs bound g tried); handed = tt }

-- what a trial of the call follows
abbrev pub frame : Tables → ℕ → ℕ → ℕ → Frame
frame t f first p = record {
  ops = (compiled t).ops;
  start = first;
  process = p;
  vars = λ k. unwrap_or (option_map (λ c. c.vars) (clause_at t.procedures f k)) 0;
}

-- the number of variables of a clause of sizes that are those of clauses
same_vars : (sizes : List ClauseSize) (cs : List Clause) (k : ℕ) → sizes ≡ map clause_size cs
    → unwrap_or (option_map (λ (c : ClauseSize). c.vars) (slice_get sizes k)) 0 ≡ vars_of (slice_get cs k)
same_vars sizes cs k e = ap (λ (l : List ClauseSize). unwrap_or (option_map (λ (c : ClauseSize). c.vars) (slice_get l k)) 0) e ∙ at cs k
  where
    at : (cs : List Clause) (k : ℕ) → unwrap_or (option_map (λ (c : ClauseSize). c.vars) (slice_get (map clause_size cs) k)) 0
        ≡ vars_of (slice_get cs k)
    at [] k = refl
    at (c ∷ cs) zero = refl
    at (c ∷ cs) (suc k) = at cs k

-- the procedure of the source
record Named (m : Program) (f : ℕ) (e : Entrance) : Type 0 where
  procedure : Procedure
  there : slice_get m f ≡ Some procedure
  arity : e.arity ≡ procedure.arity
  clauses : e.clauses ≡ map clause_size procedure.clauses

named_at : (es : List Entrance) (m : Program) (f : ℕ) (e : Entrance) → map facts_in_code es ≡ map facts_in_source m
    → slice_get es f ≡ Some e → Named m f e
named_at [] m f e h k = let z : None ≡ Some e = k in cc
named_at (x ∷ es) [] f e h k = absurd (let l : suc (length (map facts_in_code es)) ≡ 0 = ap length h in omega arith)
named_at (x ∷ es) (d ∷ m) zero e h k =
    let s : x ≡ e = same_Some x e k in
    let z : facts_in_code x ≡ facts_in_source d = first (facts_in_code x) (facts_in_source d) _ _ h in
    record {
      procedure = d;
      there = refl;
      arity = ap (λ (y : Entrance). y.arity) (sym s) ∙ ap (λ (q : ℕ × ℕ × List ClauseSize). q.1) z;
      clauses = ap (λ (y : Entrance). y.clauses) (sym s) ∙ ap (λ (q : ℕ × ℕ × List ClauseSize). q.2) z;
    }
  where
    first : (a b : ℕ × ℕ × List ClauseSize) (as' bs : List (ℕ × ℕ × List ClauseSize)) → a ∷ as' ≡ b ∷ bs → a ≡ b
    first a b as' bs i = cc
named_at (x ∷ es) (d ∷ m) (suc f) e h k =
    let r = named_at es m f e (rest _ _ _ _ h) k in
    record { procedure = r.procedure; there = r.there; arity = r.arity; clauses = r.clauses }
  where
    rest : (a b : ℕ × ℕ × List ClauseSize) (as' bs : List (ℕ × ℕ × List ClauseSize)) → a ∷ as' ≡ b ∷ bs → as' ≡ bs
    rest a b as' bs i = cc

vars_named : (t : Tables) (m : Program) (f : ℕ) (e : Entrance) (args : List (Term Variable)) → NamesSource m (compiled t)
    → slice_get t.procedures f ≡ Some e → length args ≡ e.arity → (k : ℕ)
    → unwrap_or (option_map (λ c. c.vars) (clause_at t.procedures f k)) 0 ≡ vars_of (clause_used m (user f args) k)
vars_named t m f e args names there count zero = refl
vars_named t m f e args names there count (suc k) =
    let d = named_at t.procedures m f e names there in
    let left : clause_at t.procedures f (suc k) ≡ slice_get e.clauses k =
    ap (λ (o : Option Entrance). elim o [ None ↦ None | Some z ↦ slice_get z.clauses k ]) there in
    let right : clauses_of m f (length args) ≡ d.procedure.clauses =
    ap (λ (o : Option Procedure). elim o [ None ↦ [] | Some z ↦ cond (nat_eq z.arity (length args)) z.clauses [] ]) d.there
    ∙ ap (λ (b : Bool). cond b d.procedure.clauses []) (eq-eqb d.procedure.arity (length args) (sym d.arity ∙ sym count)) in
    ap (λ (o : Option ClauseSize). unwrap_or (option_map (λ c. c.vars) o) 0) left
    ∙ (same_vars e.clauses d.procedure.clauses k d.clauses ∙ ap (λ (l : List Clause). vars_of (slice_get l k)) (sym right))

-- the code of the procedure is that of the program
pub of_program : (t : Tables) (kept : WordList) (p f n first : ℕ) (e : Entrance) → Calls kept p f n → f < TRUE_PROCEDURE
    → slice_get t.procedures f ≡ Some e → n ≡ e.arity → e.first ≡ first → (m : Machine) (prog : Program) → IsCodeOf t prog
    → IsOfProgram (course (frame t f first p) m) kept prog
of_program t kept p f n first e c l there arity begins m prog is = record {
  source = λ w vs bound g tried.
      let u = user_goal kept p f n c l w vs bound g tried in
      subst (λ h. IsOfSource prog bound h (compiled t).ops (arguments_of h) first untried) (sym u.is)
      (λ d k. is.means.only bound (user f u.args) d (
        k.0,
        ap (enter k.0 bound (compiled t).ops u.args) there
            ∙ (entered k.0 bound (compiled t).ops u.args e (u.count ∙ arity)
            ∙ (ap (λ b. follow k.0 bound (compiled t).ops u.args b untried) begins ∙ k.1)),
      ));
  vars = λ w vs bound g tried k.
      let u = user_goal kept p f n c l w vs bound g tried in
      subst (λ h. unwrap_or (option_map (λ z. z.vars) (clause_at t.procedures f k)) 0 ≡ vars_of (clause_used prog h k)) (sym u.is)
      (vars_named t prog f e u.args is.names there (u.count ∙ arity) k);
}

-- the entrance of a procedure, by what is answered of it
pub entrance : (es : List Entrance) (f arity name first : ℕ) → Some (name, arity) ≡ option_map name_kept (slice_get es f)
    → Some first ≡ option_map (λ e. e.first) (slice_get es f)
    → (e : Entrance) × (slice_get es f ≡ Some e) × (e.arity ≡ arity) × (e.first ≡ first)
entrance es f arity name first h k = go (slice_get es f) refl h k
  where
    go : (o : Option Entrance) → slice_get es f ≡ o → Some (name, arity) ≡ option_map name_kept o → Some first ≡ option_map (λ e. e.first) o
        → (e : Entrance) × (o ≡ Some e) × (e.arity ≡ arity) × (e.first ≡ first)
    go None i a b = let z : Some first ≡ None = b in cc
    go (Some e) i a b =
        let q : (name, arity) ≡ (e.name, e.arity) = same_Some (name, arity) (e.name, e.arity) a in
        (e, refl, ap (λ (z : ℕ × ℕ). z.1) (sym q), sym (same_Some first e.first b))

-- more was kept
pub calls_on : (kept kept' : WordList) (p f n : ℕ) → ((a x : ℕ) → word_at kept a ≡ Some x → word_at kept' a ≡ Some x)
    → Calls kept p f n → Calls kept' p f n
calls_on kept kept' p f n grows c = record {
  name = (c.name.0, grows (p + 2) c.name.0 c.name.1, c.name.2);
  count = (c.count.0, grows (p + 3) c.count.0 c.count.1, c.count.2);
}

-- what is concluded along the procedure's code is decided for the process
pub decided : (t : Tables) (p f n first : ℕ) (e : Entrance) (old new : Machine) (d : Trial) → Calls old.trail.kept p f n
    → f < TRUE_PROCEDURE → slice_get t.procedures f ≡ Some e → n ≡ e.arity → e.first ≡ first
    → Concludes (frame t f first p) old new d → IsDecided t (at_end new) p d
decided t p f n first e old new d calls below there arity begins h = record {
  says = λ prog is. h.says prog (of_program t old.trail.kept p f n first e calls below there arity begins old prog is);
  handed = h.handed;
}
