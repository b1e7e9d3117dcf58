-- An expression with small leaves and few operators has a tree that spells its pieces.
use Rattle.std.proofs.Common.{◌≡◌, ℕ, ◌+◌, ◌<◌, ◌≤◌, Bool, true, false, List, [], ◌∷◌, ◌++◌, refl, ap, ap₂, ◌∙◌, sym, subst, arith}
use Rattle.fcp_model.specs.declared.term.Term.{Term}
use Rattle.fcp_model.specs.declared.term.ArithOp.{ArithOp}
use Rattle.fcp_model.specs.declared.term.ArithOp.TheVariants.{Add, Sub, Mul, Div, Mod}
use Rattle.fcp_model.specs.declared.term.Expr.{Expr, Leaf, Op}
use Rattle.fcp_model.proofs.Folds.{fold-Leaf, fold-Op, expr_induction}
use Rattle.fcp_text.specs.Bytes.{Text}
use Rattle.fcp_grammar.specs.declared.terminals.Terminal.{Terminal}
use Rattle.fcp_grammar.specs.Grammar.{plain, value, first_of}
use Rattle.fcp_grammar.specs.ExpressionGrammar.{Factor, leaf, group, one, times, Sum, only, plus, sum_terminal, product_terminal, factor_value, sum_value, more, over_operators, factor_ops, sum_ops, spell_factor, spell_sum}
use Rattle.fcp_terminals.specs.Numbering.{Grows}
use Rattle.text_laws.specs.Spellings.{mark}
use Rattle.text_laws.specs.TermSpellings.{Writing, term_spellings}
use Rattle.text_laws.specs.SourceSpellings.{ExprSpelling, spelled_operator, spelled_expr_step, expr_spelling, expr_spellings}
use Rattle.reading_laws.specs.PieceTerminals.{Position, behind_piece}
use Rattle.reading_laws.specs.Variables.{are_next, term_variables, expr_variables_step, expr_variables}
use Rattle.reading_laws.specs.Readable.{is_small_term, small_expr_step, is_small_expr, operators_step, operators_of}
use Rattle.reading_laws.specs.Alike.{term_with, expr_with_step, expr_with, by_text}
use Rattle.reading_laws.proofs.Following.{Follows, grows-on, next-first, TermReads}
use Rattle.reading_laws.proofs.TreePieces.{rewritten, next-behind, and-true, chain, respelled, counted-last, mark-round_open, mark-round_close}
use Rattle.reading_laws.proofs.TreeTerms.{term-reads}
use Rattle.reading_laws.proofs.TreeOperators.{SumReads, ProductReads, add-reads, sub-reads, mul-reads, div-reads, mod-reads, one-more, not-over-operators}
use Rattle.fcp_text.specs.Signs as signs

-- ---- what is said of each kind of expression

variables-leaf : (t : Term) (at : ℕ) → expr_variables (Leaf t at) ≡ term_variables t
unfolding expr_variables
variables-leaf t at = fold-Leaf (List ℕ) expr_variables_step t at

variables-op : (op : ArithOp) (x y : Expr) → expr_variables (Op op x y) ≡ expr_variables x ++ expr_variables y
unfolding expr_variables
variables-op op x y = fold-Op (List ℕ) expr_variables_step op x y

operators-leaf : (t : Term) (at : ℕ) → operators_of (Leaf t at) ≡ 0
unfolding operators_of
operators-leaf t at = fold-Leaf ℕ operators_step t at

operators-op : (op : ArithOp) (x y : Expr) → operators_of (Op op x y) ≡ operators_of x + operators_of y + 1
unfolding operators_of
operators-op op x y = fold-Op ℕ operators_step op x y

small-leaf : (t : Term) (at : ℕ) → is_small_expr (Leaf t at) ≡ true → is_small_term t ≡ true
unfolding is_small_expr
small-leaf t at h = sym (fold-Leaf Bool small_expr_step t at) ∙ h

small-op : (op : ArithOp) (x y : Expr) → is_small_expr (Op op x y) ≡ true → (is_small_expr x ≡ true) × (is_small_expr y ≡ true)
unfolding is_small_expr
small-op op x y h = and-true (is_small_expr x) (is_small_expr y) (sym (fold-Op Bool small_expr_step op x y) ∙ h)

module _ (f : ℕ → ℕ) where
  with-leaf : (t : Term) (at : ℕ) → expr_with f (Leaf t at) ≡ Leaf (term_with f t) 0
  unfolding expr_with
  with-leaf t at = fold-Leaf Expr (expr_with_step f) t at

  with-op : (op : ArithOp) (x y : Expr) → expr_with f (Op op x y) ≡ Op op (expr_with f x) (expr_with f y)
  unfolding expr_with
  with-op op x y = fold-Op Expr (expr_with_step f) op x y

-- ---- numbers of operators: those before it are n, those of the left and of the right operand a and b, and all c

few-left : (n a b c : ℕ) → c ≡ a + b + 1 → n + c ≤ 256 → n + a < 256
few-left n a b c e h = omega arith

few-right : (n a b c k : ℕ) → c ≡ a + b + 1 → n + c ≤ 256 → k ≡ n + a + 1 → k + b ≤ 256
few-right n a b c k e h i = omega arith

in-all : (n a b c k m : ℕ) → c ≡ a + b + 1 → k ≡ n + a + 1 → m ≡ k + b → m ≡ n + c
in-all n a b c k m e h i = omega arith

up-to : (n m : ℕ) → n < m → n ≤ m
up-to n m h = omega arith

behind-none : (n c : ℕ) → c ≡ 0 → n ≡ n + c
behind-none n c e = omega arith

next-number : (n a m : ℕ) → m ≡ n + a → n + a < 256 → more m ≡ n + a + 1
next-number n a m e h = ap more e ∙ one-more (n + a) h

none-over : (n a m : ℕ) → m ≡ n + a → n + a < 256 → over_operators m ≡ false
none-over n a m e h = ap over_operators e ∙ not-over-operators (n + a) h

module _ (names : List Text) where
  -- an expression as an operand
  abbrev operand_spellings : Expr → Writing
  operand_spellings e = (expr_spelling names e).as_operand

  -- a tree of an expression, behind n operators of its item
  pub record ExprReads (e : Expr) (n : ℕ) (p : Position) : Type 0 where
    pub tree : Sum
    pub after : Position
    pub follows : Follows (expr_spellings names e) (expr_variables e) (spell_sum false n tree) p after
    pub ops : sum_ops n tree ≡ n + operators_of e
    pub same : (final : List Text) (g : Text → ℕ) → Grows after.names final
        → expr_with (by_text g final) (sum_value tree) ≡ expr_with (by_text g names) e

  -- one as an operand
  record OperandReads (e : Expr) (n : ℕ) (p : Position) : Type 0 where
    tree : Factor
    after : Position
    follows : Follows (operand_spellings e) (expr_variables e) (spell_factor false n tree) p after
    ops : factor_ops n tree ≡ n + operators_of e
    same : (final : List Text) (g : Text → ℕ) → Grows after.names final
        → expr_with (by_text g final) (factor_value tree) ≡ expr_with (by_text g names) e

  -- how an expression is written, alone and as an operand
  record Written (e : Expr) (w v : Writing) : Type 0 where
    alone : expr_spellings names e ≡ w
    as_operand : operand_spellings e ≡ v

  written-by : (e : Expr) (a : ExprSpelling) → expr_spelling names e ≡ a → Written e a.alone a.as_operand
  unfolding expr_spellings
  written-by e a h = record { alone = ap (λ (x : ExprSpelling). x.alone) h; as_operand = ap (λ (x : ExprSpelling). x.as_operand) h }

  written-leaf : (t : Term) (at : ℕ) → Written (Leaf t at) (term_spellings names t) (term_spellings names t)
  written-leaf t at = written-by (Leaf t at) _ (fold-Leaf ExprSpelling (spelled_expr_step names) t at)

  -- an operator between its operands
  abbrev operation : ArithOp → Expr → Expr → Writing
  operation op x y ps = operand_spellings x (spelled_operator op (operand_spellings y ps))

  -- pieces in parentheses
  abbrev parenthesized : Writing → Writing
  parenthesized w ps = mark signs.round_open ∷ w (mark signs.round_close ∷ ps)

  written-op : (op : ArithOp) (x y : Expr) → Written (Op op x y) (operation op x y) (parenthesized (operation op x y))
  written-op op x y = written-by (Op op x y) _ (fold-Op ExprSpelling (spelled_expr_step names) op x y)

  abbrev Alone : Expr → Type 0
  Alone e = (n : ℕ) (p : Position) → n + operators_of e ≤ 256 → are_next p.count (expr_variables e) ≡ true → ExprReads e n p

  abbrev AsOperand : Expr → Type 0
  AsOperand e = (n : ℕ) (p : Position) → n + operators_of e ≤ 256 → are_next p.count (expr_variables e) ≡ true → OperandReads e n p

  -- ---- leaves

  leaf-term : (t : Term) (at : ℕ) → is_small_expr (Leaf t at) ≡ true → (p : Position) → are_next p.count (expr_variables (Leaf t at)) ≡ true
      → TermReads names t p
  leaf-term t at s p h = term-reads names t p (small-leaf t at s) (subst (λ ks. are_next p.count ks ≡ true) (variables-leaf t at) h)

  same-leaf : (t u : Term) (at place : ℕ) (f g : ℕ → ℕ) → term_with f u ≡ term_with g t
      → expr_with f (Leaf u place) ≡ expr_with g (Leaf t at)
  same-leaf t u at place f g e = with-leaf f u place ∙ ap (λ x. Leaf x 0) e ∙ sym (with-leaf g t at)

  leaf-alone : (t : Term) (at : ℕ) → is_small_expr (Leaf t at) ≡ true → Alone (Leaf t at)
  leaf-alone t at s n p b h =
      let r : TermReads names t p = leaf-term t at s p h in
      record {
        tree = only (one (leaf r.tree));
        after = r.after;
        follows =
            rewritten (expr_spellings names (Leaf t at)) (expr_variables (Leaf t at)) (written-leaf t at).alone
            (variables-leaf t at) r.follows;
        ops = behind-none n (operators_of (Leaf t at)) (operators-leaf t at);
        same = λ final g grows. same-leaf t (value r.tree) at (first_of r.tree) (by_text g final) (by_text g names) (r.same final g grows);
      }

  leaf-operand : (t : Term) (at : ℕ) → is_small_expr (Leaf t at) ≡ true → AsOperand (Leaf t at)
  leaf-operand t at s n p b h =
      let r : TermReads names t p = leaf-term t at s p h in
      record {
        tree = leaf r.tree;
        after = r.after;
        follows =
            rewritten (operand_spellings (Leaf t at)) (expr_variables (Leaf t at)) (written-leaf t at).as_operand
            (variables-leaf t at) r.follows;
        ops = behind-none n (operators_of (Leaf t at)) (operators-leaf t at);
        same = λ final g grows. same-leaf t (value r.tree) at (first_of r.tree) (by_text g final) (by_text g names) (r.same final g grows);
      }

  -- ---- operations

  -- an operation is read as its left operand, its operator and its right operand
  record OperationReads (op : ArithOp) (x y : Expr) (n : ℕ) (p : Position) (w : Terminal) : Type 0 where
    left : Factor
    right : Factor
    after : Position
    follows : Follows (operation op x y) (expr_variables x ++ expr_variables y)
        (λ rest. spell_factor false n left
        ((w, over_operators (factor_ops n left)) ∷ spell_factor false (more (factor_ops n left)) right rest)) p after
    ops : factor_ops (more (factor_ops n left)) right ≡ n + operators_of (Op op x y)
    same : (final : List Text) (g : Text → ℕ) → Grows after.names final
        → expr_with (by_text g final) (Op op (factor_value left) (factor_value right)) ≡ expr_with (by_text g names) (Op op x y)

  same-op : (op : ArithOp) (x y u v : Expr) (f g : ℕ → ℕ) → expr_with f u ≡ expr_with g x → expr_with f v ≡ expr_with g y
      → expr_with f (Op op u v) ≡ expr_with g (Op op x y)
  same-op op x y u v f g d e = with-op f op u v ∙ ap₂ (Op op) d e ∙ sym (with-op g op x y)

  left-reads : (op : ArithOp) (x y : Expr) → AsOperand x → (n : ℕ) (p : Position) → n + operators_of (Op op x y) ≤ 256
      → are_next p.count (expr_variables (Op op x y)) ≡ true → OperandReads x n p
  left-reads op x y first n p b h =
      first n p (up-to (n + operators_of x) 256
      (few-left n (operators_of x) (operators_of y) (operators_of (Op op x y)) (operators-op op x y) b))
      (next-first p.count (expr_variables x) (expr_variables y) (subst (λ ks. are_next p.count ks ≡ true) (variables-op op x y) h))

  both-read : (op : ArithOp) (x y : Expr) → AsOperand y → (n : ℕ) (p q : Position) (w : Terminal) → n + operators_of (Op op x y) ≤ 256
      → are_next p.count (expr_variables (Op op x y)) ≡ true
      → (l : OperandReads x n p) → Follows (spelled_operator op) [] (λ rest. plain w ∷ rest) l.after q → OperationReads op x y n p w
  both-read op x y second n p q w b h l sign =
      let i : are_next p.count (expr_variables x ++ expr_variables y) ≡ true =
      subst (λ ks. are_next p.count ks ≡ true) (variables-op op x y) h in
      let under : n + operators_of x < 256 =
      few-left n (operators_of x) (operators_of y) (operators_of (Op op x y)) (operators-op op x y) b in
      let k : more (factor_ops n l.tree) ≡ n + operators_of x + 1 = next-number n (operators_of x) (factor_ops n l.tree) l.ops under in
      let c : over_operators (factor_ops n l.tree) ≡ false = none-over n (operators_of x) (factor_ops n l.tree) l.ops under in
      let r : OperandReads y (more (factor_ops n l.tree)) q =
      second (more (factor_ops n l.tree)) q
      (few-right n (operators_of x) (operators_of y) (operators_of (Op op x y)) (more (factor_ops n l.tree)) (operators-op op x y) b k)
      (next-behind (expr_variables y) sign (next-behind (expr_variables y) l.follows i)) in
      record {
        left = l.tree;
        right = r.tree;
        after = r.after;
        follows =
            respelled (λ rest. spell_factor false n l.tree
            ((w, over_operators (factor_ops n l.tree)) ∷ spell_factor false (more (factor_ops n l.tree)) r.tree rest))
            (chain l.follows (chain sign r.follows))
            (λ rest. ap (λ d. spell_factor false n l.tree ((w, d) ∷ spell_factor false (more (factor_ops n l.tree)) r.tree rest)) c);
        ops =
            in-all n (operators_of x) (operators_of y) (operators_of (Op op x y)) (more (factor_ops n l.tree))
            (factor_ops (more (factor_ops n l.tree)) r.tree) (operators-op op x y) k r.ops;
        same = λ final g grows.
            let behind : Grows q.names final = grows-on q.names r.after.names final r.follows.grows grows in
            same-op op x y (factor_value l.tree) (factor_value r.tree) (by_text g final) (by_text g names)
            (l.same final g (grows-on l.after.names q.names final sign.grows behind)) (r.same final g grows);
      }

  sum-alone : (op : ArithOp) (x y : Expr) → ((q : Position) → SumReads op q) → AsOperand x → AsOperand y → Alone (Op op x y)
  sum-alone op x y signs first second n p b h =
      let l : OperandReads x n p = left-reads op x y first n p b h in
      let s : SumReads op l.after = signs l.after in
      let o : OperationReads op x y n p (sum_terminal s.tree) = both-read op x y second n p s.after (sum_terminal s.tree) b h l s.follows in
      record {
        tree = plus (only (one o.left)) s.tree (one o.right);
        after = o.after;
        follows =
            rewritten (expr_spellings names (Op op x y)) (expr_variables (Op op x y)) (written-op op x y).alone
            (variables-op op x y) o.follows;
        ops = o.ops;
        same =
            λ final g grows. ap (λ a. expr_with (by_text g final) (Op a (factor_value o.left) (factor_value o.right))) s.same
            ∙ o.same final g grows;
      }

  product-alone : (op : ArithOp) (x y : Expr) → ((q : Position) → ProductReads op q) → AsOperand x → AsOperand y → Alone (Op op x y)
  product-alone op x y signs first second n p b h =
      let l : OperandReads x n p = left-reads op x y first n p b h in
      let s : ProductReads op l.after = signs l.after in
      let o : OperationReads op x y n p (product_terminal s.tree) =
      both-read op x y second n p s.after (product_terminal s.tree) b h l s.follows in
      record {
        tree = only (times (one o.left) s.tree o.right);
        after = o.after;
        follows =
            rewritten (expr_spellings names (Op op x y)) (expr_variables (Op op x y)) (written-op op x y).alone
            (variables-op op x y) o.follows;
        ops = o.ops;
        same =
            λ final g grows. ap (λ a. expr_with (by_text g final) (Op a (factor_value o.left) (factor_value o.right))) s.same
            ∙ o.same final g grows;
      }

  op-alone : (op : ArithOp) (x y : Expr) → AsOperand x → AsOperand y → Alone (Op op x y)
  op-alone Add x y = sum-alone Add x y add-reads
  op-alone Sub x y = sum-alone Sub x y sub-reads
  op-alone Mul x y = product-alone Mul x y mul-reads
  op-alone Div x y = product-alone Div x y div-reads
  op-alone Mod x y = product-alone Mod x y mod-reads

  -- as an operand it stands in parentheses
  op-operand : (op : ArithOp) (x y : Expr) → Alone (Op op x y) → AsOperand (Op op x y)
  op-operand op x y reads n p b h =
      let r : ExprReads (Op op x y) n (behind_piece p (mark signs.round_open)) = reads n (behind_piece p (mark signs.round_open)) b h in
      record {
        tree = group p.at r.tree;
        after = behind_piece r.after (mark signs.round_close);
        follows =
            rewritten (operand_spellings (Op op x y)) (expr_variables (Op op x y))
            ((written-op op x y).as_operand ∙ ap parenthesized (sym (written-op op x y).alone)) refl
            (counted-last (chain (mark-round_open p) (chain r.follows (mark-round_close r.after))));
        ops = r.ops;
        same = r.same;
      }

  -- ---- all expressions

  abbrev At : Expr → Type 0
  At e = is_small_expr e ≡ true → Alone e × AsOperand e

  at-leaf : (t : Term) (at : ℕ) → At (Leaf t at)
  at-leaf t at s = (leaf-alone t at s, leaf-operand t at s)

  at-op : (op : ArithOp) (x y : Expr) → At x → At y → At (Op op x y)
  at-op op x y e f s =
      let small = small-op op x y s in
      let alone : Alone (Op op x y) = op-alone op x y (e small.0).1 (f small.1).1 in
      (alone, op-operand op x y alone)

  at-expr : (e : Expr) → At e
  at-expr = expr_induction At at-leaf at-op

-- a small expression has a tree behind n operators, where all are at most 256
pub expr-reads : (names : List Text) (e : Expr) (n : ℕ) (p : Position) → is_small_expr e ≡ true → n + operators_of e ≤ 256
    → are_next p.count (expr_variables e) ≡ true → ExprReads names e n p
expr-reads names e n p s b h = (at-expr names e s).0 n p b h
