-- What a fold over terms or over expressions gives at each variant, and induction over them.
use Rattle.std.proofs.Common.{◌≡◌, ℕ, List, [], ◌∷◌, map, ap, sym, ◌∙◌, subst}
use Rattle.std.specs.Prelude.{ℤ}
use Rattle.fcp_model.specs.declared.names.Sym.{Sym}
use Rattle.fcp_model.specs.declared.term.Term.{Term, Int, Str, Nil, Cons, Tuple, Var, Ro, fold-Term, fold-roll-Term, ind-Term, map-Term, roll-Term}
use Rattle.fcp_model.specs.declared.term.Term.TheOpen.{Term-F}
use Rattle.fcp_model.specs.declared.term.Term.TheVariants.{rolls-Int, rolls-Str, rolls-Nil, rolls-Cons, rolls-Tuple, rolls-Var, rolls-Ro}
use Rattle.fcp_model.specs.declared.term.ArithOp.{ArithOp}
use Rattle.fcp_model.specs.declared.term.Expr.{Expr, Leaf, Op, fold-Expr, fold-roll-Expr, ind-Expr, map-Expr, roll-Expr}
use Rattle.fcp_model.specs.declared.term.Expr.TheOpen.{Expr-F}
use Rattle.fcp_model.specs.declared.term.Expr.TheVariants.{rolls-Leaf, rolls-Op}

-- a fold over terms at each variant
module _ (A : Type 0) (step : Term-F A → A) where
  pub fold-Int : (n : ℤ) → fold-Term A step (Int n) ≡ step (Term-F.Int n)
  fold-Int n = ap (fold-Term A step) (sym (rolls-Int n)) ∙ fold-roll-Term A step (Term-F.Int n)

  pub fold-Str : (s : Sym) → fold-Term A step (Str s) ≡ step (Term-F.Str s)
  fold-Str s = ap (fold-Term A step) (sym (rolls-Str s)) ∙ fold-roll-Term A step (Term-F.Str s)

  pub fold-Nil : fold-Term A step Nil ≡ step Term-F.Nil
  fold-Nil = ap (fold-Term A step) (sym rolls-Nil) ∙ fold-roll-Term A step Term-F.Nil

  pub fold-Var : (k : ℕ) → fold-Term A step (Var k) ≡ step (Term-F.Var k)
  fold-Var k = ap (fold-Term A step) (sym (rolls-Var k)) ∙ fold-roll-Term A step (Term-F.Var k)

  pub fold-Ro : (k : ℕ) → fold-Term A step (Ro k) ≡ step (Term-F.Ro k)
  fold-Ro k = ap (fold-Term A step) (sym (rolls-Ro k)) ∙ fold-roll-Term A step (Term-F.Ro k)

  pub fold-Cons : (h t : Term) → fold-Term A step (Cons h t) ≡ step (Term-F.Cons (fold-Term A step h) (fold-Term A step t))
  fold-Cons h t = ap (fold-Term A step) (sym (rolls-Cons h t)) ∙ fold-roll-Term A step (Term-F.Cons h t)

  pub fold-Tuple : (ts : List Term) → fold-Term A step (Tuple ts) ≡ step (Term-F.Tuple (map (fold-Term A step) ts))
  fold-Tuple ts = ap (fold-Term A step) (sym (rolls-Tuple ts)) ∙ fold-roll-Term A step (Term-F.Tuple ts)

-- every fact of `P` at the elements of a list
abbrev pub Each : (Term → Type 0) → List Term → Type 0
Each P [] = Unit {0}
Each P (t ∷ ts) = P t × Each P ts

-- induction over terms
module _ (P : Term → Type 0) (int : (n : ℤ) → P (Int n)) (str : (s : Sym) → P (Str s)) (nil : P Nil)
    (cons : (h t : Term) → P h → P t → P (Cons h t)) (tuple : (ts : List Term) → Each P ts → P (Tuple ts))
    (var : (k : ℕ) → P (Var k)) (ro : (k : ℕ) → P (Ro k)) where
  each_of : (es : List ((t : Term) × P t)) → Each P (map (λ e. e.0) es)
  each_of [] = tt
  each_of (e ∷ es) = (e.1, each_of es)

  at_level : (y : Term-F ((t : Term) × P t)) → P (roll-Term (map-Term ((t : Term) × P t) Term (λ e. e.0) y))
  at_level (Term-F.Int n) = subst P (sym (rolls-Int n)) (int n)
  at_level (Term-F.Str s) = subst P (sym (rolls-Str s)) (str s)
  at_level Term-F.Nil = subst P (sym rolls-Nil) nil
  at_level (Term-F.Cons a b) = subst P (sym (rolls-Cons a.0 b.0)) (cons a.0 b.0 a.1 b.1)
  at_level (Term-F.Tuple es) = subst P (sym (rolls-Tuple (map (λ e. e.0) es))) (tuple (map (λ e. e.0) es) (each_of es))
  at_level (Term-F.Var k) = subst P (sym (rolls-Var k)) (var k)
  at_level (Term-F.Ro k) = subst P (sym (rolls-Ro k)) (ro k)

  pub term_induction : (t : Term) → P t
  term_induction = ind-Term P (λ x y is. subst (λ z. P (roll-Term z)) is (at_level y))

-- a fold over expressions at each variant
module _ (A : Type 0) (step : Expr-F A → A) where
  pub fold-Leaf : (t : Term) (at : ℕ) → fold-Expr A step (Leaf t at) ≡ step (Expr-F.Leaf t at)
  fold-Leaf t at = ap (fold-Expr A step) (sym (rolls-Leaf t at)) ∙ fold-roll-Expr A step (Expr-F.Leaf t at)

  pub fold-Op : (op : ArithOp) (x y : Expr) → fold-Expr A step (Op op x y) ≡ step (Expr-F.Op op (fold-Expr A step x) (fold-Expr A step y))
  fold-Op op x y = ap (fold-Expr A step) (sym (rolls-Op op x y)) ∙ fold-roll-Expr A step (Expr-F.Op op x y)

-- induction over expressions
module _ (P : Expr → Type 0) (leaf : (t : Term) (at : ℕ) → P (Leaf t at)) (op : (o : ArithOp) (x y : Expr) → P x → P y → P (Op o x y)) where
  at_expr_level : (y : Expr-F ((x : Expr) × P x)) → P (roll-Expr (map-Expr ((x : Expr) × P x) Expr (λ e. e.0) y))
  at_expr_level (Expr-F.Leaf t at) = subst P (sym (rolls-Leaf t at)) (leaf t at)
  at_expr_level (Expr-F.Op o a b) = subst P (sym (rolls-Op o a.0 b.0)) (op o a.0 b.0 a.1 b.1)

  pub expr_induction : (x : Expr) → P x
  expr_induction = ind-Expr P (λ x y is. subst (λ z. P (roll-Expr z)) is (at_expr_level y))
