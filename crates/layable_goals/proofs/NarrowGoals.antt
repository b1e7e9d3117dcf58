-- Goals within the limits of texts have few arguments, and their tuples few parts.
use Rattle.std.proofs.Common.{◌≡◌, ℕ, zero, suc, ◌≤◌, List, [], ◌∷◌, Bool, true, length, map, sym, ◌∙◌, subst, arith, nat_le}
use Rattle.std.specs.List.{list_all}
use Rattle.std.proofs.lemmas.Bool.{and_parts, leb-true}
use Rattle.std.proofs.lemmas.List.{length-map}
use Rattle.fcp_model.specs.declared.names.Sym.{Sym}
use Rattle.fcp_model.specs.declared.loaded.ProcedureName.{ProcedureName}
use Rattle.fcp_model.specs.declared.source.Call.{Call}
use Rattle.fcp_model.specs.declared.source.Call.TheVariants.{User, Unify, Assign, Same, NotSame, Compare}
use Rattle.fcp_model.specs.declared.source.Item.{Item}
use Rattle.fcp_model.specs.declared.term.Term as source
use Rattle.fcp_model.specs.declared.term.Term.TheVariants as T
use Rattle.fcp_model.specs.declared.term.Expr as source_expr
use Rattle.fcp_model.specs.Terms.{Term}
use Rattle.fcp_model.specs.Expressions.{Expr}
use Rattle.fcp_model.specs.Translation.{terms_of, term_step, term_of, expr_step, expr_of, user_goal, goal_of, goals_of}
use Rattle.fcp_model.proofs.Folds.{Each, fold-Int, fold-Str, fold-Nil, fold-Cons, fold-Tuple, fold-Var, fold-Ro, term_induction}
use Rattle.fcp_model.proofs.Folds.{fold-Leaf, fold-Op, expr_induction}
use Rattle.fcp_reader.specs.Limits.{term_step as within_step, is_term_within, expr_step as expr_within_step, is_expr_within}
use Rattle.fcp_reader.specs.Limits.{is_call_within}
use Rattle.goal_layout.specs.Laying.{IsNarrow, AreNarrow, IsNarrowExpr}
use Rattle.goal_layout.specs.Items.{AllNarrow, IsNarrowGoal}
use Rattle.goal_layout.specs.Goals.{AreNarrowGoals}
use Rattle.goal_layout.proofs.Arguments.{count_of}

module _ (n : ℕ) where
  -- what is shown of a term
  abbrev TermNarrows : source.Term → Type 0
  TermNarrows t = is_term_within n t ≡ true → IsNarrow (term_of t)

  by_translation : (t : source.Term) {u : Term ℕ} → term_of t ≡ u → IsNarrow u → IsNarrow (term_of t)
  by_translation t e h = subst IsNarrow (sym e) h

  at_cons : (h t : source.Term) → TermNarrows h → TermNarrows t → TermNarrows (T.Cons h t)
  at_cons h t f g e =
      let both = and_parts (is_term_within n h) (is_term_within n t) (sym (fold-Cons Bool (within_step n) h t) ∙ e) in
      by_translation (T.Cons h t) (fold-Cons (Term ℕ) term_step h t) (f both.0, g both.1)

  parts_narrow : (ts : List source.Term) → Each TermNarrows ts → list_all (λ (b : Bool). b) (map (is_term_within n) ts) ≡ true
      → AreNarrow (terms_of (map term_of ts))
  parts_narrow [] f e = tt
  parts_narrow (t ∷ ts) f e =
      let both = and_parts (is_term_within n t) (list_all (λ (b : Bool). b) (map (is_term_within n) ts)) e in
      (f.0 both.0, parts_narrow ts f.1 both.1)

  at_tuple : (ts : List source.Term) → Each TermNarrows ts → TermNarrows (T.Tuple ts)
  at_tuple ts f e =
      let both = and_parts (nat_le (length (map (is_term_within n) ts)) 65) (list_all (λ (b : Bool). b) (map (is_term_within n) ts))
      (sym (fold-Tuple Bool (within_step n) ts) ∙ e) in
      let few = leb-true (length (map (is_term_within n) ts)) 65 both.0 in
      by_translation (T.Tuple ts) (fold-Tuple (Term ℕ) term_step ts) (
        omega (arith, few, count_of (map term_of ts), length-map ts term_of, length-map ts (is_term_within n)),
        parts_narrow ts f both.1,
      )

  pub term_narrows : (t : source.Term) → TermNarrows t
  term_narrows =
      term_induction TermNarrows
      (λ z e. by_translation (T.Int z) (fold-Int (Term ℕ) term_step z) tt)
      (λ s e. by_translation (T.Str s) (fold-Str (Term ℕ) term_step s) tt)
      (λ e. by_translation T.Nil (fold-Nil (Term ℕ) term_step) tt)
      at_cons
      at_tuple
      (λ k e. by_translation (T.Var k) (fold-Var (Term ℕ) term_step k) tt)
      (λ k e. by_translation (T.Ro k) (fold-Ro (Term ℕ) term_step k) tt)

  abbrev ExprNarrows : source_expr.Expr → Type 0
  ExprNarrows x = is_expr_within n x ≡ true → IsNarrowExpr (expr_of x)

  expr_narrows : (x : source_expr.Expr) → ExprNarrows x
  expr_narrows =
      expr_induction ExprNarrows
      (λ t at e. subst IsNarrowExpr (sym (fold-Leaf (Expr ℕ) expr_step t at))
      (term_narrows t (sym (fold-Leaf Bool (expr_within_step n) t at) ∙ e)))
      (λ o x y f g e.
      let both = and_parts (is_expr_within n x) (is_expr_within n y) (sym (fold-Op Bool (expr_within_step n) o x y) ∙ e) in
      subst IsNarrowExpr (sym (fold-Op (Expr ℕ) expr_step o x y)) (f both.0, g both.1))

  all_narrow : (ts : List source.Term) → list_all (is_term_within n) ts ≡ true → AllNarrow (map term_of ts)
  all_narrow [] e = tt
  all_narrow (t ∷ ts) e =
      let both = and_parts (is_term_within n t) (list_all (is_term_within n) ts) e in (term_narrows t both.0, all_narrow ts both.1)

  user_narrows : (hs : List ProcedureName) (name : Sym) (k : ℕ) (ts : List (Term ℕ)) → length ts ≤ 64 → AllNarrow ts
      → IsNarrowGoal (user_goal hs name k ts)
  user_narrows hs name zero ts few h = go name.0
    where
      go : (i : ℕ) → IsNarrowGoal (user_goal hs (record { 0 = i }) zero ts)
      go zero = tt
      go (suc i) = (few, h)
  user_narrows hs name (suc k) ts few h = (few, h)

  goal_narrows : (hs : List ProcedureName) (c : Call) → is_call_within n c ≡ true → IsNarrowGoal (goal_of hs c)
  goal_narrows hs (User name args) e =
      let both = and_parts (nat_le (length args) 64) (list_all (is_term_within n) args) e in
      let few = leb-true (length args) 64 both.0 in
      user_narrows hs name (length args) (map term_of args) (omega (arith, few, length-map args term_of)) (all_narrow args both.1)
  goal_narrows hs (Unify a b) e =
      let both = and_parts (is_term_within n a) (is_term_within n b) e in (term_narrows a both.0, term_narrows b both.1)
  goal_narrows hs (Assign a x) e =
      let both = and_parts (is_term_within n a) (is_expr_within n x) e in (term_narrows a both.0, expr_narrows x both.1)
  goal_narrows hs (Same a b) e = (omega arith, tt)
  goal_narrows hs (NotSame a b) e = (omega arith, tt)
  goal_narrows hs (Compare o a b) e = (omega arith, tt)

  pub goals_narrow : (hs : List ProcedureName) (is : List Item) → list_all (λ i. is_call_within n i.call) is ≡ true
      → AreNarrowGoals (goals_of hs is)
  goals_narrow hs [] e = tt
  goals_narrow hs (i ∷ is) e =
      let both = and_parts (is_call_within n i.call) (list_all (λ i. is_call_within n i.call) is) e in
      (goal_narrows hs i.call both.0, goals_narrow hs is both.1)
