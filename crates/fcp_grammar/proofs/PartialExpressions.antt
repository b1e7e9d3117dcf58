-- What was read so far of an item's expressions, as trees in place of values.
use Rattle.std.proofs.Common.{◌≡◌, List, [], ◌∷◌, refl, ap, sym, Bool, false, ℕ}
use Rattle.std.specs.Prelude.{◌&&◌}
use Rattle.fcp_model.specs.declared.term.CompareOp.{CompareOp}
use Rattle.fcp_grammar.specs.declared.terminals.Terminal.TheVariants as terminal
use Rattle.fcp_grammar.specs.declared.expressions.LeftOperand.{LeftOperand}
use Rattle.fcp_grammar.specs.declared.expressions.LeftOperand.TheVariants.{Nothing, Operator}
use Rattle.fcp_grammar.specs.declared.expressions.Level.{Level}
use Rattle.fcp_grammar.specs.declared.sides.LeftSide.{LeftSide}
use Rattle.fcp_grammar.specs.declared.sides.LeftSide.TheVariants as L
use Rattle.fcp_grammar.specs.declared.sides.Sums.{Sums}
use Rattle.fcp_grammar.specs.Expressions.{both_nothing, whole}
use Rattle.fcp_grammar.specs.Operands.{sums_of}
use Rattle.fcp_grammar.specs.Items.{is_fresh}
use Rattle.fcp_grammar.specs.Grammar.{Marked, Tree, value, plain, spell}
use Rattle.fcp_grammar.specs.ExpressionGrammar.{SumSign, ProductSign, Factor, Product, Sum, one, times, only, plus, sum_terminal, sum_op, product_terminal, product_op, factor_value, product_value, sum_value, more, over_operators, factor_ops, product_ops, sum_ops, spell_factor, spell_product, spell_sum}
use Rattle.fcp_grammar.proofs.FollowExpressions.{level, not_fresh}

pub data SumPart : Type 0 where
  no_sum : SumPart
  sum_plus : (e : Sum) (sign : SumSign) → SumPart

pub data ProductPart : Type 0 where
  no_product : ProductPart
  product_times : (p : Product) (sign : ProductSign) → ProductPart

-- what stands in a parenthesis before an operand
pub data Pending : Type 0 where
  pending : (sum : SumPart) (product : ProductPart) → Pending

-- an open parenthesis, and what stands before it
pub data Group : Type 0 where
  inside : (outer : Pending) (open_at : ℕ) → Group

-- what stands before the sign of an item
pub data LeftPart : Type 0 where
  no_left : LeftPart
  left_compared : (e : Sum) (op : CompareOp) → LeftPart
  left_assigned : (t : Tree) → LeftPart

abbrev pub sum_left : SumPart → LeftOperand
sum_left no_sum = Nothing
sum_left (sum_plus e sign) = Operator (sum_value e) (sum_op sign)

abbrev pub product_left : ProductPart → LeftOperand
product_left no_product = Nothing
product_left (product_times p sign) = Operator (product_value p) (product_op sign)

abbrev pub level_of : Pending → Level
level_of (pending s p) = level (sum_left s) (product_left p)

abbrev pub levels_of : List Group → List Level
levels_of [] = []
levels_of (inside l o ∷ gs) = level_of l ∷ levels_of gs

abbrev pub left_of : LeftPart → LeftSide
left_of no_left = L.Nothing
left_of (left_compared e op) = L.Compared (sum_value e) op
left_of (left_assigned t) = L.Assigned (value t)

abbrev pub bare : Pending
bare = pending no_sum no_product

-- ---- operators so far

abbrev pub ops_left : LeftPart → ℕ
ops_left no_left = 0
ops_left (left_compared e op) = sum_ops 0 e
ops_left (left_assigned t) = 0

abbrev pub ops_product : ℕ → ProductPart → ℕ
ops_product n no_product = n
ops_product n (product_times p sign) = more (product_ops n p)

abbrev pub ops_level : ℕ → Pending → ℕ
ops_level n (pending no_sum p) = ops_product n p
ops_level n (pending (sum_plus e sign) p) = ops_product (more (sum_ops n e)) p

abbrev pub ops_groups : LeftPart → List Group → ℕ
ops_groups left [] = ops_left left
ops_groups left (inside l o ∷ gs) = ops_level (ops_groups left gs) l

abbrev pub ops_before : LeftPart → List Group → Pending → ℕ
ops_before left gs l = ops_level (ops_groups left gs) l

abbrev pub sums : ℕ → LeftPart → List Group → Pending → ℕ → Sums
sums a left gs l n = sums_of a (left_of left) (levels_of gs) (level_of l) n

-- ---- terminals so far

-- whether the next operand is the first of an item that is one too many
abbrev pub mark_at : Bool → LeftPart → List Group → Pending → Bool
mark_at m left gs l = is_fresh (sums 0 left gs l 0) && m

abbrev pub terminals_left : Bool → LeftPart → List Marked → List Marked
terminals_left m no_left rest = rest
terminals_left m (left_compared e op) rest = spell_sum m 0 e (plain (terminal.Compare op) ∷ rest)
terminals_left m (left_assigned t) rest = spell m t (plain terminal.Assign ∷ rest)

abbrev pub terminals_product : Bool → ℕ → ProductPart → List Marked → List Marked
terminals_product m n no_product rest = rest
terminals_product m n (product_times p sign) rest = spell_product m n p ((product_terminal sign, over_operators (product_ops n p)) ∷ rest)

abbrev pub terminals_level : Bool → ℕ → Pending → List Marked → List Marked
terminals_level m n (pending no_sum p) rest = terminals_product m n p rest
terminals_level m n (pending (sum_plus e sign) p) rest =
    spell_sum m n e ((sum_terminal sign, over_operators (sum_ops n e)) ∷ terminals_product false (more (sum_ops n e)) p rest)

abbrev pub terminals_groups : Bool → LeftPart → List Group → List Marked → List Marked
terminals_groups m left [] rest = terminals_left m left rest
terminals_groups m left (inside l o ∷ gs) rest =
    terminals_groups m left gs (terminals_level (mark_at m left gs bare) (ops_groups left gs) l
    ((terminal.RoundOpen o, mark_at m left gs l) ∷ rest))

-- everything before an operand
abbrev pub terminals_before : Bool → LeftPart → List Group → Pending → List Marked → List Marked
terminals_before m left gs l rest = terminals_groups m left gs (terminals_level (mark_at m left gs bare) (ops_groups left gs) l rest)

-- ---- an operand goes into what waits for it

abbrev pub join_product : ProductPart → Factor → Product
join_product no_product f = one f
join_product (product_times p sign) f = times p sign f

abbrev pub join_sum : SumPart → Product → Sum
join_sum no_sum p = only p
join_sum (sum_plus e sign) p = plus e sign p

abbrev pub whole_tree : Pending → Factor → Sum
whole_tree (pending s p) f = join_sum s (join_product p f)

pub whole-value : (l : Pending) (f : Factor) → whole (level_of l) (factor_value f) ≡ sum_value (whole_tree l f)
whole-value (pending no_sum no_product) f = refl
whole-value (pending no_sum (product_times p sign)) f = refl
whole-value (pending (sum_plus e sign) no_product) f = refl
whole-value (pending (sum_plus e sign) (product_times p sign')) f = refl

pub whole-ops : (l : Pending) (n : ℕ) (f : Factor) → sum_ops n (whole_tree l f) ≡ factor_ops (ops_level n l) f
whole-ops (pending no_sum no_product) n f = refl
whole-ops (pending no_sum (product_times p sign)) n f = refl
whole-ops (pending (sum_plus e sign) no_product) n f = refl
whole-ops (pending (sum_plus e sign) (product_times p sign')) n f = refl

-- what waits makes the mark false
mark-false : (m : Bool) (left : LeftPart) (gs : List Group) (s : SumPart) (p : ProductPart) (n : ℕ) (f : Factor) (rest : List Marked)
    → both_nothing (sum_left s) (product_left p) ≡ false
    → terminals_level (mark_at m left gs bare) n (pending s p) (spell_factor false (ops_level n (pending s p)) f rest)
    ≡ terminals_level (mark_at m left gs bare) n (pending s p)
    (spell_factor (mark_at m left gs (pending s p)) (ops_level n (pending s p)) f rest)
mark-false m left gs s p n f rest h =
    ap (λ b. terminals_level (mark_at m left gs bare) n (pending s p) (spell_factor (b && m) (ops_level n (pending s p)) f rest))
    (sym (not_fresh 0 (left_of left) (levels_of gs) (level_of (pending s p)) 0 h))

pub whole-terminals : (m : Bool) (left : LeftPart) (gs : List Group) (l : Pending) (n : ℕ) (f : Factor) (rest : List Marked)
    → spell_sum (mark_at m left gs bare) n (whole_tree l f) rest
    ≡ terminals_level (mark_at m left gs bare) n l (spell_factor (mark_at m left gs l) (ops_level n l) f rest)
whole-terminals m left gs (pending no_sum no_product) n f rest = refl
whole-terminals m left gs (pending no_sum (product_times p sign)) n f rest =
    mark-false m left gs no_sum (product_times p sign) n f rest refl
whole-terminals m left gs (pending (sum_plus e sign) no_product) n f rest = mark-false m left gs (sum_plus e sign) no_product n f rest refl
whole-terminals m left gs (pending (sum_plus e sign) (product_times p sign')) n f rest =
    mark-false m left gs (sum_plus e sign) (product_times p sign') n f rest refl

-- a `*`, `/` or `mod` behind the operand
abbrev pub timed : Pending → Factor → ProductSign → Pending
timed (pending s p) f sign = pending s (product_times (join_product p f) sign)

pub timed-terminals : (m : Bool) (left : LeftPart) (gs : List Group) (l : Pending) (n : ℕ) (f : Factor) (sign : ProductSign)
    (rest : List Marked)
    → terminals_level (mark_at m left gs bare) n (timed l f sign) rest
    ≡ terminals_level (mark_at m left gs bare) n l
    (spell_factor (mark_at m left gs l) (ops_level n l) f
    ((product_terminal sign, over_operators (factor_ops (ops_level n l) f)) ∷ rest))
timed-terminals m left gs (pending no_sum no_product) n f sign rest = refl
timed-terminals m left gs (pending no_sum (product_times p o)) n f sign rest = mark-false m left gs no_sum (product_times p o) n f _ refl
timed-terminals m left gs (pending (sum_plus e o) no_product) n f sign rest = mark-false m left gs (sum_plus e o) no_product n f _ refl
timed-terminals m left gs (pending (sum_plus e o) (product_times p q)) n f sign rest =
    mark-false m left gs (sum_plus e o) (product_times p q) n f _ refl
