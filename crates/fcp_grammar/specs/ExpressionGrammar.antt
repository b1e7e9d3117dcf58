-- Believed: the grammar of expressions. A number `n` beside an expression is that of the item's operators before it, counted up
-- to the first that is too many.
use Rattle.std.specs.Prelude.{ℕ, List, ◌∷◌, Bool, false, nat_le, nat_lt, ◌+◌, if◌then◌else◌}
use Rattle.fcp_model.specs.declared.term.Expr.{Expr}
use Rattle.fcp_model.specs.declared.term.Expr.TheVariants as E
use Rattle.fcp_model.specs.declared.term.ArithOp.{ArithOp}
use Rattle.fcp_model.specs.declared.term.ArithOp.TheVariants.{Add, Sub, Mul, Div, Mod}
use Rattle.fcp_model.specs.declared.names.Sym.{Sym}
use Rattle.fcp_grammar.specs.declared.terminals.StringForm.TheVariants as F
use Rattle.fcp_grammar.specs.declared.terminals.Terminal.{Terminal}
use Rattle.fcp_grammar.specs.declared.terminals.Terminal.TheVariants as terminal
use Rattle.fcp_grammar.specs.Grammar.{Marked, Tree, first_of, value, plain, spell}
use Rattle.fcp_grammar.specs.Limits.{most_operators}

-- `+` or `-`
pub data SumSign : Type 0 where
  add : (at : ℕ) → SumSign
  sub : (at : ℕ) → SumSign

-- `*`, `/` or the name `mod`, which is the string s
pub data ProductSign : Type 0 where
  mul : (at : ℕ) → ProductSign
  div : (at : ℕ) → ProductSign
  rem : (s : Sym) (at : ℕ) → ProductSign

-- A factor is a term, or an expression in parentheses. Products are factors, and sums are products, with signs between them.
mutual
  pub data Factor : Type 0 where
    leaf : (t : Tree) → Factor
    group : (open_at : ℕ) (e : Sum) → Factor

  pub data Product : Type 0 where
    one : (f : Factor) → Product
    times : (p : Product) (sign : ProductSign) (f : Factor) → Product

  pub data Sum : Type 0 where
    only : (p : Product) → Sum
    plus : (e : Sum) (sign : SumSign) (p : Product) → Sum

-- ---- signs

-- the terminal of a sign between products
abbrev pub sum_terminal : SumSign → Terminal
sum_terminal (add at) = terminal.Operator Add at
sum_terminal (sub at) = terminal.Operator Sub at

-- what it stands for
abbrev pub sum_op : SumSign → ArithOp
sum_op (add at) = Add
sum_op (sub at) = Sub

-- the terminal of a sign between factors
abbrev pub product_terminal : ProductSign → Terminal
product_terminal (mul at) = terminal.Operator Mul at
product_terminal (div at) = terminal.Operator Div at
product_terminal (rem s at) = terminal.Str s F.Mod at

-- what it stands for
abbrev pub product_op : ProductSign → ArithOp
product_op (mul at) = Mul
product_op (div at) = Div
product_op (rem s at) = Mod

-- ---- values

-- A leaf has the place of its first terminal. Both kinds of signs group to the left.
abbrev mutual
  pub factor_value : Factor → Expr
  factor_value (leaf t) = E.Leaf (value t) (first_of t)
  factor_value (group o e) = sum_value e

  pub product_value : Product → Expr
  product_value (one f) = factor_value f
  product_value (times p sign f) = E.Op (product_op sign) (product_value p) (factor_value f)

  pub sum_value : Sum → Expr
  sum_value (only p) = product_value p
  sum_value (plus e sign p) = E.Op (sum_op sign) (sum_value e) (product_value p)

-- ---- operators

-- one operator more
abbrev pub more : ℕ → ℕ
more n = if nat_lt n (most_operators + 1) then n + 1 else n

-- behind so many operators each further one is too many
abbrev pub over_operators : ℕ → Bool
over_operators n = nat_le most_operators n

-- the number of operators up to the end
abbrev mutual
  pub factor_ops : ℕ → Factor → ℕ
  factor_ops n (leaf t) = n
  factor_ops n (group o e) = sum_ops n e

  pub product_ops : ℕ → Product → ℕ
  product_ops n (one f) = factor_ops n f
  product_ops n (times p sign f) = factor_ops (more (product_ops n p)) f

  pub sum_ops : ℕ → Sum → ℕ
  sum_ops n (only p) = product_ops n p
  sum_ops n (plus e sign p) = product_ops (more (sum_ops n e)) p

-- ---- terminals

-- The terminals of the expression, and then the rest. `m` says that what begins here is one too many.
abbrev mutual
  pub spell_factor : Bool → ℕ → Factor → List Marked → List Marked
  spell_factor m n (leaf t) rest = spell m t rest
  spell_factor m n (group o e) rest = (terminal.RoundOpen o, m) ∷ spell_sum false n e (plain terminal.RoundClose ∷ rest)

  pub spell_product : Bool → ℕ → Product → List Marked → List Marked
  spell_product m n (one f) rest = spell_factor m n f rest
  spell_product m n (times p sign f) rest =
      spell_product m n p ((product_terminal sign, over_operators (product_ops n p)) ∷ spell_factor false (more (product_ops n p)) f rest)

  pub spell_sum : Bool → ℕ → Sum → List Marked → List Marked
  spell_sum m n (only p) rest = spell_product m n p rest
  spell_sum m n (plus e sign p) rest =
      spell_sum m n e ((sum_terminal sign, over_operators (sum_ops n e)) ∷ spell_product false (more (sum_ops n e)) p rest)
