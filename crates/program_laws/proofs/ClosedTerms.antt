-- A term and an expression that are within some variables are over these variables once they are translated.
use Rattle.std.proofs.Common.{◌≡◌, ℕ, List, [], ◌∷◌, Bool, true, map, sym, ◌∙◌, subst, nat_le}
use Rattle.std.specs.List.{list_all}
use Rattle.std.proofs.lemmas.Bool.{and_parts, leb-true}
use Rattle.fcp_model.specs.declared.term.Term as source
use Rattle.fcp_model.specs.declared.term.Term.TheVariants as T
use Rattle.fcp_model.specs.declared.term.Expr as source_expr
use Rattle.fcp_model.specs.declared.term.Expr.TheVariants as E
use Rattle.fcp_model.specs.declared.term.ArithOp.{ArithOp}
use Rattle.fcp_model.specs.Terms.{Term}
use Rattle.fcp_model.specs.Expressions.{Expr}
use Rattle.fcp_model.specs.ClosedPrograms.{Over, PartsOver, AllOver, ExprOver, IsNumbered}
use Rattle.fcp_model.specs.Translation.{terms_of, term_step, term_of, expr_step, expr_of}
use Rattle.fcp_model.proofs.Folds.{Each, fold-Int, fold-Str, fold-Nil, fold-Cons, fold-Tuple, fold-Var, fold-Ro, term_induction, fold-Leaf, fold-Op, expr_induction}
use Rattle.fcp_reader.specs.Limits.{is_variable_within, term_step as within_step, is_term_within, expr_step as expr_within_step, is_expr_within, are_args_within}

module _ (n : ℕ) where
  numbered : (k : ℕ) → is_variable_within n k ≡ true → IsNumbered n k
  numbered k e = let h = and_parts (nat_le 1 k) (nat_le k n) e in (leb-true 1 k h.0, leb-true k n h.1)

  -- what is shown of a term
  abbrev TermCloses : source.Term → Type 0
  TermCloses t = is_term_within n t ≡ true → Over (IsNumbered n) (term_of t)

  by_translation : (t : source.Term) {u : Term ℕ} → term_of t ≡ u → Over (IsNumbered n) u → Over (IsNumbered n) (term_of t)
  by_translation t e h = subst (Over (IsNumbered n)) (sym e) h

  at_cons : (h t : source.Term) → TermCloses h → TermCloses t → TermCloses (T.Cons h t)
  at_cons h t f g e =
      let both = and_parts (is_term_within n h) (is_term_within n t) (sym (fold-Cons Bool (within_step n) h t) ∙ e) in
      by_translation (T.Cons h t) (fold-Cons (Term ℕ) term_step h t) (f both.0, g both.1)

  parts_over : (ts : List source.Term) → Each TermCloses ts → list_all (λ (b : Bool). b) (map (is_term_within n) ts) ≡ true
      → PartsOver (IsNumbered n) (terms_of (map term_of ts))
  parts_over [] f e = tt
  parts_over (t ∷ ts) f e =
      let both = and_parts (is_term_within n t) (list_all (λ (b : Bool). b) (map (is_term_within n) ts)) e in
      (f.0 both.0, parts_over ts f.1 both.1)

  at_tuple : (ts : List source.Term) → Each TermCloses ts → TermCloses (T.Tuple ts)
  at_tuple ts f e =
      let both = and_parts _ _ (sym (fold-Tuple Bool (within_step n) ts) ∙ e) in
      by_translation (T.Tuple ts) (fold-Tuple (Term ℕ) term_step ts) (parts_over ts f both.1)

  pub term_closes : (t : source.Term) → TermCloses t
  term_closes =
      term_induction TermCloses
      (λ z e. by_translation (T.Int z) (fold-Int (Term ℕ) term_step z) tt)
      (λ s e. by_translation (T.Str s) (fold-Str (Term ℕ) term_step s) tt)
      (λ e. by_translation T.Nil (fold-Nil (Term ℕ) term_step) tt)
      at_cons
      at_tuple
      (λ k e. by_translation (T.Var k) (fold-Var (Term ℕ) term_step k) (numbered k (sym (fold-Var Bool (within_step n) k) ∙ e)))
      (λ k e. by_translation (T.Ro k) (fold-Ro (Term ℕ) term_step k) (numbered k (sym (fold-Ro Bool (within_step n) k) ∙ e)))

  terms_close : (ts : List source.Term) → list_all (is_term_within n) ts ≡ true → AllOver (IsNumbered n) (map term_of ts)
  terms_close [] e = tt
  terms_close (t ∷ ts) e =
      let both = and_parts (is_term_within n t) (list_all (is_term_within n) ts) e in
      (term_closes t both.0, terms_close ts both.1)

  pub args_close : (ts : List source.Term) → are_args_within n ts ≡ true → AllOver (IsNumbered n) (map term_of ts)
  args_close ts e = terms_close ts (and_parts _ (list_all (is_term_within n) ts) e).1

  -- what is shown of an expression
  abbrev ExprCloses : source_expr.Expr → Type 0
  ExprCloses x = is_expr_within n x ≡ true → ExprOver (IsNumbered n) (expr_of x)

  at_leaf : (t : source.Term) (at : ℕ) → ExprCloses (E.Leaf t at)
  at_leaf t at e =
      subst (ExprOver (IsNumbered n)) (sym (fold-Leaf (Expr ℕ) expr_step t at))
      (term_closes t (sym (fold-Leaf Bool (expr_within_step n) t at) ∙ e))

  at_op : (o : ArithOp) (x y : source_expr.Expr) → ExprCloses x → ExprCloses y → ExprCloses (E.Op o x y)
  at_op o x y f g e =
      let both = and_parts (is_expr_within n x) (is_expr_within n y) (sym (fold-Op Bool (expr_within_step n) o x y) ∙ e) in
      subst (ExprOver (IsNumbered n)) (sym (fold-Op (Expr ℕ) expr_step o x y)) (f both.0, g both.1)

  pub expr_closes : (x : source_expr.Expr) → ExprCloses x
  expr_closes = expr_induction ExprCloses at_leaf at_op
