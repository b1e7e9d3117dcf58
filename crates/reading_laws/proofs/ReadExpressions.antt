-- The expression of a tree that spells unmarked terminals, and its operators.
use Rattle.std.proofs.Common.{◌≡◌, ℕ, ◌+◌, ◌≤◌, Bool, true, false, List, ◌∷◌, ◌++◌, refl, sym, subst, arith}
use Rattle.std.specs.Prelude.{◌&&◌, nat_lt, if◌then◌else◌}
use Rattle.std.proofs.lemmas.Bool.Decides.{nat_tests}
use Rattle.fcp_model.specs.declared.term.Term.{Term}
use Rattle.fcp_model.specs.declared.term.ArithOp.{ArithOp}
use Rattle.fcp_model.specs.declared.term.Expr.{Expr, Leaf, Op}
use Rattle.fcp_model.proofs.Folds.{fold-Leaf, fold-Op}
use Rattle.fcp_grammar.specs.declared.terminals.Terminal.TheVariants as terminal
use Rattle.fcp_grammar.specs.Grammar.{Marked, first_of, value, plain}
use Rattle.fcp_grammar.specs.ExpressionGrammar.{SumSign, add, sub, ProductSign, mul, div, rem, Factor, Product, Sum, leaf, group, one, times, only, plus, sum_terminal, sum_op, product_terminal, product_op, factor_value, product_value, sum_value, more, over_operators, factor_ops, product_ops, sum_ops, spell_factor, spell_product, spell_sum}
use Rattle.text_laws.specs.Writable.{is_writable_term, writable_expr_step, is_writable_expr}
use Rattle.reading_laws.specs.Variables.{term_variables, expr_variables_step, expr_variables, count_behind}
use Rattle.reading_laws.specs.TerminalOrder.{count_after}
use Rattle.reading_laws.specs.Readable.{is_small_term, small_expr_step, is_small_expr, operators_step, operators_of}
use Rattle.reading_laws.proofs.ReadParts.{Sound, Reads, two-read, reads-same, past}
use Rattle.reading_laws.proofs.ReadTerms.{ReadsTerm}
use Rattle.reading_laws.proofs.ReadTrees.{read-tree}

-- ---- what the folds give at each variant

small-leaf : (t : Term) (at : ℕ) → is_small_expr (Leaf t at) ≡ is_small_term t
unfolding is_small_expr
small-leaf t at = fold-Leaf Bool small_expr_step t at

small-op : (op : ArithOp) (x y : Expr) → is_small_expr (Op op x y) ≡ (is_small_expr x && is_small_expr y)
unfolding is_small_expr
small-op op x y = fold-Op Bool small_expr_step op x y

writable-leaf : (t : Term) (at : ℕ) → is_writable_expr (Leaf t at) ≡ is_writable_term t
unfolding is_writable_expr
writable-leaf t at = fold-Leaf Bool writable_expr_step t at

writable-op : (op : ArithOp) (x y : Expr) → is_writable_expr (Op op x y) ≡ (is_writable_expr x && is_writable_expr y)
unfolding is_writable_expr
writable-op op x y = fold-Op Bool writable_expr_step op x y

variables-leaf : (t : Term) (at : ℕ) → expr_variables (Leaf t at) ≡ term_variables t
unfolding expr_variables
variables-leaf t at = fold-Leaf (List ℕ) expr_variables_step t at

variables-op : (op : ArithOp) (x y : Expr) → expr_variables (Op op x y) ≡ expr_variables x ++ expr_variables y
unfolding expr_variables
variables-op op x y = fold-Op (List ℕ) expr_variables_step op x y

operators-leaf : (t : Term) (at : ℕ) → operators_of (Leaf t at) ≡ 0
unfolding operators_of
operators-leaf t at = fold-Leaf ℕ operators_step t at

operators-op : (op : ArithOp) (x y : Expr) → operators_of (Op op x y) ≡ operators_of x + operators_of y + 1
unfolding operators_of
operators-op op x y = fold-Op ℕ operators_step op x y

-- ---- expressions

abbrev pub ReadsExpr : ℕ → Expr → List Marked → Type 0
ReadsExpr n e rest = Reads n (is_small_expr e) (is_writable_expr e) (expr_variables e) rest

-- an expression behind k operators, where there are `ops` behind it
pub record ReadsOperators (m : Bool) (k ops n : ℕ) (e : Expr) (rest : List Marked) : Type 0 where
  pub unmarked : m ≡ false
  pub counted : ops ≡ k + operators_of e
  pub few : ops ≤ 256
  pub reads : ReadsExpr n e rest

leaf-read : (m : Bool) (k n : ℕ) (t : Term) (at : ℕ) (rest : List Marked) → k ≤ 256 → (m ≡ false) × ReadsTerm n t rest
    → ReadsOperators m k k n (Leaf t at) rest
leaf-read m k n t at rest few h = record {
  unmarked = h.0;
  counted = let e : operators_of (Leaf t at) ≡ 0 = operators-leaf t at in omega arith;
  few = few;
  reads = reads-same (small-leaf t at) (writable-leaf t at) (variables-leaf t at) h.1;
}

op-read : {m c : Bool} {k i j n : ℕ} {w : Marked} {x y : Expr} {rest : List Marked} (op : ArithOp) → ReadsOperators m k i n x (w ∷ rest)
    → {more_rest : List Marked} → ReadsOperators c (i + 1) j (count_behind n (expr_variables x)) y more_rest
    → ReadsOperators m k j n (Op op x y) more_rest
op-read {x = x} {y = y} op a b = record {
  unmarked = a.unmarked;
  counted =
      let e : operators_of (Op op x y) ≡ operators_of x + operators_of y + 1 = operators-op op x y in omega (arith, a.counted, b.counted);
  few = b.few;
  reads = reads-same (small-op op x y) (writable-op op x y) (variables-op op x y) (two-read a.reads b.reads);
}

product-passes : (sign : ProductSign) (k : ℕ) → count_after k (product_terminal sign) ≡ k
product-passes (mul at) k = refl
product-passes (div at) k = refl
product-passes (rem s at) k = refl

sum-passes : (sign : SumSign) (k : ℕ) → count_after k (sum_terminal sign) ≡ k
sum-passes (add at) k = refl
sum-passes (sub at) k = refl

-- one operator more, where it is not one too many
below-over : (i : ℕ) → over_operators i ≡ false → i + 1 ≤ 256
below-over i h = grind (arith, nat_tests)

one-more : (i : ℕ) → over_operators i ≡ false → more i ≡ i + 1
one-more i h = by-test (nat_lt i 257) (grind (arith, nat_tests)) where
  by-test : (b : Bool) → b ≡ true → (if b then i + 1 else i) ≡ i + 1
  by-test true e = refl
  by-test false e = absurd (cc)

mutual
  read-factor : (f : Factor) (m : Bool) (k n : ℕ) (rest : List Marked) → k ≤ 256 → Sound n (spell_factor m k f rest)
      → ReadsOperators m k (factor_ops k f) n (factor_value f) rest
  read-factor (leaf t) m k n rest few h = leaf-read m k n (value t) (first_of t) rest few (read-tree t m n rest h)
  read-factor (group o e) m k n rest few h =
      let a : ReadsOperators false k (sum_ops k e) n (sum_value e) (plain terminal.RoundClose ∷ rest) = read-sum e false k n _ few h.2 in
      record { unmarked = h.0; counted = a.counted; few = a.few; reads = past (λ k. refl) a.reads }

  read-product : (p : Product) (m : Bool) (k n : ℕ) (rest : List Marked) → k ≤ 256 → Sound n (spell_product m k p rest)
      → ReadsOperators m k (product_ops k p) n (product_value p) rest
  read-product (one f) m k n rest few h = read-factor f m k n rest few h
  read-product (times p sign f) m k n rest few h =
      let i : ℕ = product_ops k p in
      let j : ℕ = count_behind n (expr_variables (product_value p)) in
      let a : ReadsOperators m k i n (product_value p) ((product_terminal sign, over_operators i) ∷ spell_factor false (more i) f rest) =
      read-product p m k n _ few h in
      let g : Sound j (spell_factor false (more i) f rest) = (past (product-passes sign) a.reads).behind in
      let e : more i ≡ i + 1 = one-more i a.reads.behind.0 in
      let b : ReadsOperators false (more i) (factor_ops (more i) f) j (factor_value f) rest =
      read-factor f false (more i) j rest (subst (λ z. z ≤ 256) (sym e) (below-over i a.reads.behind.0)) g in
      op-read (product_op sign) a (subst (λ z. ReadsOperators false z (factor_ops (more i) f) j (factor_value f) rest) e b)

  pub read-sum : (s : Sum) (m : Bool) (k n : ℕ) (rest : List Marked) → k ≤ 256 → Sound n (spell_sum m k s rest)
      → ReadsOperators m k (sum_ops k s) n (sum_value s) rest
  read-sum (only p) m k n rest few h = read-product p m k n rest few h
  read-sum (plus s sign p) m k n rest few h =
      let i : ℕ = sum_ops k s in
      let j : ℕ = count_behind n (expr_variables (sum_value s)) in
      let a : ReadsOperators m k i n (sum_value s) ((sum_terminal sign, over_operators i) ∷ spell_product false (more i) p rest) =
      read-sum s m k n _ few h in
      let g : Sound j (spell_product false (more i) p rest) = (past (sum-passes sign) a.reads).behind in
      let e : more i ≡ i + 1 = one-more i a.reads.behind.0 in
      let b : ReadsOperators false (more i) (product_ops (more i) p) j (product_value p) rest =
      read-product p false (more i) j rest (subst (λ z. z ≤ 256) (sym e) (below-over i a.reads.behind.0)) g in
      op-read (sum_op sign) a (subst (λ z. ReadsOperators false z (product_ops (more i) p) j (product_value p) rest) e b)
