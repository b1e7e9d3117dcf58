-- The program of a module is one of source terms.
use Rattle.std.proofs.Common.{◌≡◌, ℕ, zero, suc, ◌+◌, ◌<◌, ◌≤◌, Bool, true, false, cond, List, [], ◌∷◌, length, map, filter, Option, Some, None, refl, sym, ◌∙◌, subst, arith}
use Rattle.std.specs.Prelude.{option_map, slice_get, nat_eq, not}
use Rattle.std.specs.List.{position_or_len, filter_map, cons_option}
use Rattle.std.proofs.lemmas.Bool.{and_parts, eqb-true}
use Rattle.std.proofs.lemmas.List.{length-map}
use Rattle.fcp_model.specs.declared.names.Sym.{Sym}
use Rattle.fcp_model.specs.declared.term.Term as source
use Rattle.fcp_model.specs.declared.term.Term.{Int, Str, Nil, Cons, Tuple, Var, Ro}
use Rattle.fcp_model.specs.declared.term.Expr as source_expr
use Rattle.fcp_model.specs.declared.term.Expr.{Leaf, Op}
use Rattle.fcp_model.specs.declared.source.Call.{Call}
use Rattle.fcp_model.specs.declared.source.Call.TheVariants.{User, Unify, Assign, Same, NotSame, Compare}
use Rattle.fcp_model.specs.declared.source.Item.{Item}
use Rattle.fcp_model.specs.declared.source.Clause as read
use Rattle.fcp_model.specs.declared.source.Module.{Module}
use Rattle.fcp_model.specs.declared.loaded.ProcedureName.{ProcedureName}
use Rattle.fcp_model.specs.declared.goal.TheConstants.{TRUE_PROCEDURE}
use Rattle.fcp_model.specs.ProcedureNames.{procedure_names, procedure_name, same_procedure}
use Rattle.fcp_model.specs.Terms.{Term}
use Rattle.fcp_model.specs.Expressions.{Expr}
use Rattle.fcp_model.specs.Tests.{Kind, Test, kind}
use Rattle.fcp_model.specs.Programs.{user, true'}
use Rattle.fcp_model.specs.Translation.{term_step, term_of, terms_of, expr_step, expr_of, user_goal, goal_of, kinds, reserved_test, test_of, goals_of, clause_of, clauses_called, procedure_of, program_of}
use Rattle.fcp_model.proofs.Folds as folds
use Rattle.fcp_model.proofs.Folds.{fold-Int, fold-Str, fold-Nil, fold-Cons, fold-Tuple, fold-Var, fold-Ro, term_induction, fold-Leaf, fold-Op, expr_induction}
use Rattle.clause_compiler.specs.ClauseCode.{nowhere, procedures_code, code_of}
use Rattle.clause_compiler.specs.Sources.{IsSourceExpr, IsSourceTest, IsSourceGoal, IsSourceClause, IsSourceProgram}
use Rattle.head_code.specs.SourceTerms.{IsSourceTerm, AreSourceTerms}
use Rattle.machine_code.specs.Each.{Each}
use Rattle.machine_code.specs.Correct.{MeansSource}
use Rattle.clause_compiler.proofs.Whole.{means_source}

parts_source : (ts : List source.Term) → folds.Each (λ t. IsSourceTerm (term_of t)) ts → AreSourceTerms (terms_of (map term_of ts))
parts_source [] h = tt
parts_source (t ∷ ts) h = (h.0, parts_source ts h.1)

term_source : (t : source.Term) → IsSourceTerm (term_of t)
term_source = term_induction (λ t. IsSourceTerm (term_of t))
    (λ n. subst IsSourceTerm (sym (fold-Int (Term ℕ) term_step n)) tt)
    (λ s. subst IsSourceTerm (sym (fold-Str (Term ℕ) term_step s)) tt)
    (subst IsSourceTerm (sym (fold-Nil (Term ℕ) term_step)) tt)
    (λ h t p q. subst IsSourceTerm (sym (fold-Cons (Term ℕ) term_step h t)) (p, q))
    (λ ts e. subst IsSourceTerm (sym (fold-Tuple (Term ℕ) term_step ts)) (parts_source ts e))
    (λ k. subst IsSourceTerm (sym (fold-Var (Term ℕ) term_step k)) tt)
    (λ k. subst IsSourceTerm (sym (fold-Ro (Term ℕ) term_step k)) tt)

expr_source : (e : source_expr.Expr) → IsSourceExpr (expr_of e)
expr_source = expr_induction (λ e. IsSourceExpr (expr_of e))
    (λ t at. subst IsSourceExpr (sym (fold-Leaf (Expr ℕ) expr_step t at)) (term_source t))
    (λ o x y p q. subst IsSourceExpr (sym (fold-Op (Expr ℕ) expr_step o x y)) (p, q))

terms_source : (ts : List source.Term) → Each IsSourceTerm (map term_of ts)
terms_source [] = tt
terms_source (t ∷ ts) = (term_source t, terms_source ts)

-- a test, where there is one
abbrev OnTest : Option (Test ℕ) → Type 0
OnTest None = Unit {0}
OnTest (Some t) = IsSourceTest t

reserved_source : (n : ℕ) (ts : List (Term ℕ)) → Each IsSourceTerm ts → OnTest (reserved_test n ts)
reserved_source zero [] h = tt
reserved_source zero (t ∷ ts) h = tt
reserved_source (suc zero) [] h = tt
reserved_source (suc zero) (t ∷ ts) h = tt
reserved_source (suc (suc k)) [] h = tt
reserved_source (suc (suc k)) (t ∷ []) h = by (slice_get kinds k)
  where
    by : (o : Option Kind) → OnTest (option_map (λ x. kind x t) o)
    by None = tt
    by (Some x) = h.0
reserved_source (suc (suc k)) (t ∷ u ∷ ts) h = tt

test_source : (c : Call) → OnTest (test_of c)
test_source (User name args) = reserved_source name.0 (map term_of args) (terms_source args)
test_source (Unify a b) = tt
test_source (Assign a e) = tt
test_source (Same a b) = (term_source a, term_source b)
test_source (NotSame a b) = (term_source a, term_source b)
test_source (Compare o a b) = (expr_source a, expr_source b)

guard_source : (is : List Item) → Each IsSourceTest (filter_map (λ i. test_of i.call) is)
guard_source [] = tt
guard_source (i ∷ is) = by (test_of i.call) (test_source i.call) (guard_source is)
  where
    by : (o : Option (Test ℕ)) → OnTest o → Each IsSourceTest (filter_map (λ i. test_of i.call) is)
        → Each IsSourceTest (cons_option o (filter_map (λ i. test_of i.call) is))
    by None h k = k
    by (Some t) h k = (h, k)

pub position_below : {A : Type 0} (p : A → Bool) (xs : List A) → position_or_len p xs ≤ length xs
position_below p [] = omega arith
position_below p (x ∷ xs) = by (p x) (position_below p xs)
  where
    by : (b : Bool) → position_or_len p xs ≤ length xs → cond (not b) (1 + position_or_len p xs) 0 ≤ length (x ∷ xs)
    by true h = omega arith
    by false h = omega (arith, h)

module _ (hs : List ProcedureName) (few : length hs < TRUE_PROCEDURE) where
  user_source : (name : Sym) (n : ℕ) (ts : List (Term ℕ)) → Each IsSourceTerm ts → IsSourceGoal (user_goal hs name n ts)
  user_source name zero ts h = by name.0
    where
      by : (k : ℕ) → IsSourceGoal (elim k [
        | zero ↦ true'
        | suc j ↦ user
            (position_or_len (same_procedure (record { name = name; arity = 0 })) hs) ts
      ])
      by zero = tt
      by (suc j) = (omega (arith, few, position_below (same_procedure (record { name = name; arity = 0 })) hs), h)
  user_source name (suc n) ts h = (omega (arith, few, position_below (same_procedure (record { name = name; arity = suc n })) hs), h)

  goal_source : (c : Call) → IsSourceGoal (goal_of hs c)
  goal_source (User name args) = user_source name (length args) (map term_of args) (terms_source args)
  goal_source (Unify a b) = (term_source a, term_source b)
  goal_source (Assign a e) = (term_source a, expr_source e)
  goal_source (Same a b) = (few, tt)
  goal_source (NotSame a b) = (few, tt)
  goal_source (Compare o a b) = (few, tt)

  body_source : (is : List Item) → Each IsSourceGoal (goals_of hs is)
  body_source [] = tt
  body_source (i ∷ is) = (goal_source i.call, body_source is)

  clause_source : (h : ProcedureName) (c : read.Clause) → same_procedure h (procedure_name c) ≡ true
      → IsSourceClause h.arity (clause_of hs c)
  clause_source h c e = record {
    head = terms_source c.args;
    guard = guard_source c.guard;
    body = body_source c.body;
    arguments =
        length-map c.args term_of ∙ sym
        (eqb-true h.arity (length c.args) (and_parts (nat_eq h.name.0 c.head.0) (nat_eq h.arity (length c.args)) e).1);
  }

  clauses_source : (h : ProcedureName) (cs : List read.Clause) → Each (IsSourceClause h.arity) (clauses_called hs h cs)
  clauses_source h [] = tt
  clauses_source h (c ∷ cs) = by (same_procedure h (procedure_name c)) refl (clauses_source h cs)
    where
      by : (b : Bool) → same_procedure h (procedure_name c) ≡ b → Each (IsSourceClause h.arity) (clauses_called hs h cs)
          → Each (IsSourceClause h.arity)
          (map (clause_of hs) (cond b (c ∷ filter (λ x. same_procedure h (procedure_name x)) cs)
          (filter (λ x. same_procedure h (procedure_name x)) cs)))
      by true e k = (clause_source h c e, k)
      by false e k = k

  procedures_source : (cs : List read.Clause) (gs : List ProcedureName) → IsSourceProgram (map (procedure_of hs cs) gs)
  procedures_source cs [] = tt
  procedures_source cs (g ∷ gs) = (clauses_source g cs, procedures_source cs gs)

-- the program of a module
pub module_source : (m : Module) → length (procedure_names m.clauses) < TRUE_PROCEDURE → IsSourceProgram (program_of m)
module_source m few = procedures_source (procedure_names m.clauses) few m.clauses (procedure_names m.clauses)

-- the code of a module means what its clauses decide
pub module_means : (m : Module) → length (procedure_names m.clauses) < TRUE_PROCEDURE → length (procedures_code 0 (program_of m)) ≤ nowhere
    → MeansSource (program_of m) (code_of (program_of m))
module_means m few long =
    means_source (program_of m) (module_source m few) long
