-- The machine follows what the tree of an expression spells.
use Rattle.std.proofs.Common.{◌≡◌, List, [], ◌∷◌, refl, ap, ◌∙◌, subst, Option, Some, Bool, true, false, ℕ}
use Rattle.std.specs.Prelude.{◌&&◌, if◌then◌else◌}
use Rattle.fcp_model.specs.declared.term.Expr.{Expr}
use Rattle.fcp_model.specs.declared.term.Expr.TheVariants as E
use Rattle.fcp_model.specs.declared.term.ArithOp.{ArithOp}
use Rattle.fcp_model.specs.declared.term.ArithOp.TheVariants.{Add, Sub}
use Rattle.fcp_grammar.specs.declared.terminals.StringForm.TheVariants as F
use Rattle.fcp_grammar.specs.declared.terminals.Terminal.{Terminal}
use Rattle.fcp_grammar.specs.declared.terminals.Terminal.TheVariants as terminal
use Rattle.fcp_grammar.specs.declared.terms.Phase.{Phase}
use Rattle.fcp_grammar.specs.declared.terms.Told.TheVariants as R
use Rattle.fcp_grammar.specs.declared.expressions.LeftOperand.{LeftOperand}
use Rattle.fcp_grammar.specs.declared.expressions.LeftOperand.TheVariants.{Nothing, Operator}
use Rattle.fcp_grammar.specs.declared.expressions.Level.{Level}
use Rattle.fcp_grammar.specs.declared.sides.LeftSide.{LeftSide}
use Rattle.fcp_grammar.specs.declared.sides.LeftSide.TheVariants as L
use Rattle.fcp_grammar.specs.declared.sides.Sums.{Sums}
use Rattle.fcp_grammar.specs.declared.sides.Side.{Side}
use Rattle.fcp_grammar.specs.declared.sides.Side.TheVariants as S
use Rattle.fcp_grammar.specs.declared.sides.ItemStep.{ItemStep}
use Rattle.fcp_grammar.specs.declared.sides.ItemStep.TheVariants.{Goes}
use Rattle.fcp_grammar.specs.Terms.{step, step_by, begin, behind, full, term_of, place_of, start, is_large}
use Rattle.fcp_grammar.specs.Expressions.{both_nothing, nothing}
use Rattle.fcp_grammar.specs.Operands.{sums_of, behind_operand}
use Rattle.fcp_grammar.specs.Items.{is_fresh, behind_first, behind_leaf, behind_whole, sum_told, step_sum, step_side}
use Rattle.fcp_grammar.specs.Grammar.{Marked, Tree, int, call, name_alone, with_arguments, variable, read_only, nil, list, list_rest, braces, value, first_of}
use Rattle.fcp_grammar.specs.ExpressionGrammar.{SumSign, ProductSign, Factor, Product, Sum, add, sub, mul, div, rem, leaf, group, one, times, only, plus, sum_terminal, sum_op, product_terminal, product_op, factor_value, product_value, sum_value, more, over_operators, factor_ops, product_ops, sum_ops, spell_factor, spell_product, spell_sum}
use Rattle.fcp_grammar.proofs.Follow.{at, phase_of, then, follow, Runs, ◌⟫◌, Holds, IsPlain, step-behind, term_of-phase, follow-tree}

pub place_of-phase : (t : Tree) → place_of (phase_of t) ≡ first_of t
place_of-phase (int n a) = refl
place_of-phase (call (name_alone s sp a)) = refl
place_of-phase (call (with_arguments s sp a o ts t)) = refl
place_of-phase (variable k a) = refl
place_of-phase (read_only k a) = refl
place_of-phase (nil a) = refl
place_of-phase (list a ts t) = refl
place_of-phase (list_rest a ts t u) = refl
place_of-phase (braces a ts t) = refl

pub leaf-value : (t : Tree) → E.Leaf (term_of (phase_of t)) (place_of (phase_of t)) ≡ factor_value (leaf t)
leaf-value t = ap (λ v. E.Leaf v (place_of (phase_of t))) (term_of-phase t) ∙ ap (E.Leaf (value t)) (place_of-phase t)

-- a term in no bracket ends before a plain terminal
pub step-whole : (t : Tree) (w : Terminal) → IsPlain w → step (at [] (phase_of t)) w ≡ R.Whole (phase_of t)
unfolding behind
step-whole t w h = step-behind t [] w h

-- ---- the state behind a tree

abbrev pub level : LeftOperand → LeftOperand → Level
level l p = record { sum = l; product = p }

abbrev pub after_factor : ℕ → LeftSide → List Level → Level → ℕ → Factor → Side
after_factor a left groups l n (leaf t) = S.Sum (sums_of a left groups l n) (at [] (phase_of t))
after_factor a left groups l n (group o e) = S.Closed (sums_of a left groups l (sum_ops n e)) (sum_value e)

abbrev pub after_product : ℕ → LeftSide → List Level → LeftOperand → ℕ → Product → Side
after_product a left groups l n (one f) = after_factor a left groups (level l Nothing) n f
after_product a left groups l n (times p sign f) =
    after_factor a left groups (level l (Operator (product_value p) (product_op sign))) (more (product_ops n p)) f

abbrev pub after_sum : ℕ → LeftSide → List Level → ℕ → Sum → Side
after_sum a left groups n (only p) = after_product a left groups Nothing n p
after_sum a left groups n (plus e sign p) = after_product a left groups (Operator (sum_value e) (sum_op sign)) (more (sum_ops n e)) p

-- ---- terminals behind an operand

-- the terminal goes on no term, and behind a term it takes the term as an operand
pub record Suits (a : ℕ) (left : LeftSide) (groups : List Level) (w : Terminal) : Type 0 where
  pub plain : IsPlain w
  pub operand : (l : Level) (n : ℕ) (phase : Phase)
      → behind_whole (sums_of a left groups l n) phase w ≡ behind_leaf (sums_of a left groups l n) phase w

-- terminals that go on an operand wherever it stands
abbrev pub IsOperator : Terminal → Type 0
IsOperator (terminal.Operator op b) = Unit {0}
IsOperator (terminal.Str s sp b) = Unit {0}
IsOperator terminal.RoundClose = Unit {0}
IsOperator (terminal.Compare op) = Unit {0}
IsOperator _ = ⊥

operator-plain : (w : Terminal) → IsOperator w → IsPlain w
operator-plain (terminal.Operator op b) h = tt
operator-plain (terminal.Str s sp b) h = tt
operator-plain terminal.RoundClose h = tt
operator-plain (terminal.Compare op) h = tt
operator-plain _ h = absurd h

first-operator : (s : Sums) (phase : Phase) (w : Terminal) → IsOperator w → behind_first s phase w ≡ behind_leaf s phase w
unfolding behind_first
first-operator s phase (terminal.Operator op b) h = refl
first-operator s phase (terminal.Str n sp b) h = refl
first-operator s phase terminal.RoundClose h = refl
first-operator s phase (terminal.Compare op) h = refl
first-operator s phase _ h = absurd h

either : (b : Bool) (x y : ItemStep) → x ≡ y → (if b then x else y) ≡ y
either true x y h = h
either false x y h = refl

pub operator-suits : (a : ℕ) (left : LeftSide) (groups : List Level) (w : Terminal) → IsOperator w → Suits a left groups w
unfolding behind_whole
operator-suits a left groups w h =
    record {
      plain = operator-plain w h;
      operand = λ l n phase. either (is_fresh (sums_of a left groups l n)) (behind_first (sums_of a left groups l n) phase w)
          (behind_leaf (sums_of a left groups l n) phase w) (first-operator (sums_of a left groups l n) phase w h);
    }

product-operator : (sign : ProductSign) → IsOperator (product_terminal sign)
product-operator (mul b) = tt
product-operator (div b) = tt
product-operator (rem s b) = tt

sum-operator : (sign : SumSign) → IsOperator (sum_terminal sign)
sum-operator (add b) = tt
sum-operator (sub b) = tt

pub step_sum-whole : (m : Bool) (s : Sums) (t : Tree) (w : Terminal) → IsPlain w
    → step_sum m s (at [] (phase_of t)) w ≡ behind_whole s (phase_of t) w
unfolding step_sum sum_told
step_sum-whole m s t w h = ap (sum_told (is_fresh s && m) s (at [] (phase_of t)) w) (step-whole t w h)

pub step-after_factor : (m : Bool) (a : ℕ) (left : LeftSide) (groups : List Level) (l : Level) (n : ℕ) (f : Factor) (w : Terminal)
    → Suits a left groups w
    → step_side m (after_factor a left groups l n f) w ≡ behind_operand (sums_of a left groups l (factor_ops n f)) (factor_value f) w
unfolding step_side
step-after_factor m a left groups l n (leaf t) w h =
    step_sum-whole m (sums_of a left groups l n) t w h.plain
    ∙ h.operand l n (phase_of t)
    ∙ ap (λ e. behind_operand (sums_of a left groups l n) e w) (leaf-value t)
step-after_factor m a left groups l n (group o e) w h = refl

-- a product of two is an operand as one is
same-product : (a : ℕ) (left : LeftSide) (groups : List Level) (l : LeftOperand) (n : ℕ) (p : Product) (sign : ProductSign) (f : Factor)
    (w : Terminal)
    → behind_operand (sums_of a left groups (level l (Operator (product_value p) (product_op sign))) n) (factor_value f) w
    ≡ behind_operand (sums_of a left groups (level l Nothing) n) (product_value (times p sign f)) w
unfolding behind_operand
same-product a left groups l n p sign f (terminal.Operator Add b) = refl
same-product a left groups l n p sign f (terminal.Operator Sub b) = refl
same-product a left groups l n p sign f (terminal.Operator op b) = refl
same-product a left groups l n p sign f (terminal.Str s F.Mod b) = refl
same-product a left groups l n p sign f _ = refl

pub step-after_product : (m : Bool) (a : ℕ) (left : LeftSide) (groups : List Level) (l : LeftOperand) (n : ℕ) (p : Product) (w : Terminal)
    → Suits a left groups w
    → step_side m (after_product a left groups l n p) w
    ≡ behind_operand (sums_of a left groups (level l Nothing) (product_ops n p)) (product_value p) w
step-after_product m a left groups l n (one f) w h = step-after_factor m a left groups (level l Nothing) n f w h
step-after_product m a left groups l n (times p sign f) w h =
    step-after_factor m a left groups (level l (Operator (product_value p) (product_op sign))) (more (product_ops n p)) f w h
    ∙ same-product a left groups l (product_ops n (times p sign f)) p sign f w

-- terminals that go on no product
abbrev pub IsSumTerminal : Terminal → Type 0
IsSumTerminal (terminal.Operator Add b) = Unit {0}
IsSumTerminal (terminal.Operator Sub b) = Unit {0}
IsSumTerminal terminal.RoundClose = Unit {0}
IsSumTerminal (terminal.Compare op) = Unit {0}
IsSumTerminal terminal.Comma = Unit {0}
IsSumTerminal terminal.Bar = Unit {0}
IsSumTerminal (terminal.Dot k) = Unit {0}
IsSumTerminal _ = ⊥

-- a sum of two is an operand as one is
same-sum : (a : ℕ) (left : LeftSide) (groups : List Level) (n : ℕ) (e : Sum) (sign : SumSign) (p : Product) (w : Terminal) → IsSumTerminal w
    → behind_operand (sums_of a left groups (level (Operator (sum_value e) (sum_op sign)) Nothing) n) (product_value p) w
    ≡ behind_operand (sums_of a left groups nothing n) (sum_value (plus e sign p)) w
unfolding behind_operand
same-sum a left groups n e sign p (terminal.Operator Add b) h = refl
same-sum a left groups n e sign p (terminal.Operator Sub b) h = refl
same-sum a left groups n e sign p terminal.RoundClose h = refl
same-sum a left groups n e sign p (terminal.Compare op) h = refl
same-sum a left groups n e sign p terminal.Comma h = refl
same-sum a left groups n e sign p terminal.Bar h = refl
same-sum a left groups n e sign p (terminal.Dot k) h = refl
same-sum a left groups n e sign p _ h = absurd h

sum-is-sum_terminal : (sign : SumSign) → IsSumTerminal (sum_terminal sign)
sum-is-sum_terminal (add b) = tt
sum-is-sum_terminal (sub b) = tt

pub step-after_sum : (m : Bool) (a : ℕ) (left : LeftSide) (groups : List Level) (n : ℕ) (e : Sum) (w : Terminal) → Suits a left groups w
    → IsSumTerminal w
    → step_side m (after_sum a left groups n e) w ≡ behind_operand (sums_of a left groups nothing (sum_ops n e)) (sum_value e) w
step-after_sum m a left groups n (only p) w s h = step-after_product m a left groups Nothing n p w s
step-after_sum m a left groups n (plus e sign p) w s h =
    step-after_product m a left groups (Operator (sum_value e) (sum_op sign)) (more (sum_ops n e)) p w s
    ∙ same-sum a left groups (sum_ops n (plus e sign p)) e sign p w h

-- ---- signs

behind-times : (a : ℕ) (left : LeftSide) (groups : List Level) (l : LeftOperand) (n : ℕ) (e : Expr) (sign : ProductSign)
    → behind_operand (sums_of a left groups (level l Nothing) n) e (product_terminal sign)
    ≡ Goes (S.Sum (sums_of a left groups (level l (Operator e (product_op sign))) (more n)) start) (over_operators n)
unfolding behind_operand
behind-times a left groups l n e (mul b) = refl
behind-times a left groups l n e (div b) = refl
behind-times a left groups l n e (rem s b) = refl

behind-plus : (a : ℕ) (left : LeftSide) (groups : List Level) (n : ℕ) (e : Expr) (sign : SumSign)
    → behind_operand (sums_of a left groups nothing n) e (sum_terminal sign)
    ≡ Goes (S.Sum (sums_of a left groups (level (Operator e (sum_op sign)) Nothing) (more n)) start) (over_operators n)
unfolding behind_operand
behind-plus a left groups n e (add b) = refl
behind-plus a left groups n e (sub b) = refl

-- ---- nothing waits

pub not_fresh : (a : ℕ) (left : LeftSide) (groups : List Level) (l : Level) (n : ℕ) → both_nothing l.sum l.product ≡ false
    → is_fresh (sums_of a left groups l n) ≡ false
not_fresh a L.Nothing [] l n h = h
not_fresh a (L.Compared e op) [] l n h = refl
not_fresh a (L.Assigned t) [] l n h = refl
not_fresh a left (g ∷ gs) l n h = refl

not_fresh_product : (l : LeftOperand) (e : Expr) (op : ArithOp) → both_nothing l (Operator e op) ≡ false
not_fresh_product Nothing e op = refl
not_fresh_product (Operator f o) e op = refl

-- ---- expressions

module _ {X : Type 0} (go : X → Marked → Option X) (m : Bool) (D : Side → X)
    (moves : (x y : Side) (w : Terminal) (b : Bool) → step_side m x w ≡ Goes y b → go (D x) (w, b) ≡ Some (D y)) where
  pub go_on : (x y : Side) (w : Terminal) (b : Bool) (rest : List Marked) → step_side m x w ≡ Goes y b
      → Runs go (D x) ((w, b) ∷ rest) (D y) rest
  go_on x y w b rest e = record { same = ap (λ o. (then) o (λ s. follow go s rest)) (moves x y w b e) }

  pub in-sum : (s : Sums) → Holds go (is_fresh s && m) (λ x. D (S.Sum s x))
  unfolding step_side step_sum sum_told
  in-sum s =
      record {
        moves = λ x y w e. moves (S.Sum s x) (S.Sum s y) w (is_large (is_fresh s && m) x w)
            (ap (sum_told (is_fresh s && m) s x w) e);
      }

  mutual
    unfolding step_side step_sum sum_told begin step_by full behind_operand

    pub follow-factor : (a : ℕ) (left : LeftSide) (groups : List Level) (l : Level) (n : ℕ) (f : Factor) (rest : List Marked)
        → Runs go (D (S.Sum (sums_of a left groups l n) start)) (spell_factor (is_fresh (sums_of a left groups l n) && m) n f rest)
        (D (after_factor a left groups l n f)) rest
    follow-factor a left groups l n (leaf t) rest =
        follow-tree go (is_fresh (sums_of a left groups l n) && m) (λ x. D (S.Sum (sums_of a left groups l n) x))
        (in-sum (sums_of a left groups l n)) t [] rest
    follow-factor a left groups l n (group o e) rest =
        go_on (S.Sum (sums_of a left groups l n) start) (S.Sum (sums_of a left (l ∷ groups) nothing n) start)
        (terminal.RoundOpen o) _ _ refl
        ⟫ follow-sum a left (l ∷ groups) n e _
        ⟫ go_on (after_sum a left (l ∷ groups) n e) (after_factor a left groups l n (group o e)) terminal.RoundClose false rest
        (step-after_sum m a left (l ∷ groups) n e terminal.RoundClose (operator-suits a left (l ∷ groups) terminal.RoundClose tt) tt)

    pub follow-product : (a : ℕ) (left : LeftSide) (groups : List Level) (l : LeftOperand) (n : ℕ) (p : Product) (rest : List Marked)
        → Runs go (D (S.Sum (sums_of a left groups (level l Nothing) n) start))
        (spell_product (is_fresh (sums_of a left groups (level l Nothing) n) && m) n p rest)
        (D (after_product a left groups l n p)) rest
    follow-product a left groups l n (one f) rest = follow-factor a left groups (level l Nothing) n f rest
    follow-product a left groups l n (times p sign f) rest =
        let l' : Level = level l (Operator (product_value p) (product_op sign)) in
        let n' : ℕ = more (product_ops n p) in
        let fr : is_fresh (sums_of a left groups l' n') ≡ false =
        not_fresh a left groups l' n' (not_fresh_product l (product_value p) (product_op sign)) in
        let Q : Bool → Type 0 =
        λ b. Runs go (D (S.Sum (sums_of a left groups l' n') start)) (spell_factor (b && m) n' f rest)
        (D (after_factor a left groups l' n' f)) rest in
        follow-product a left groups l n p _
        ⟫ go_on (after_product a left groups l n p) (S.Sum (sums_of a left groups l' n') start) (product_terminal sign)
        (over_operators (product_ops n p)) _
        (step-after_product m a left groups l n p (product_terminal sign)
        (operator-suits a left groups (product_terminal sign) (product-operator sign))
        ∙ behind-times a left groups l (product_ops n p) (product_value p) sign)
        ⟫ subst Q fr (follow-factor a left groups l' n' f rest)

    pub follow-sum : (a : ℕ) (left : LeftSide) (groups : List Level) (n : ℕ) (e : Sum) (rest : List Marked)
        → Runs go (D (S.Sum (sums_of a left groups nothing n) start)) (spell_sum (is_fresh (sums_of a left groups nothing n) && m) n e rest)
        (D (after_sum a left groups n e)) rest
    follow-sum a left groups n (only p) rest = follow-product a left groups Nothing n p rest
    follow-sum a left groups n (plus e sign p) rest =
        let l' : LeftOperand = Operator (sum_value e) (sum_op sign) in
        let n' : ℕ = more (sum_ops n e) in
        let fr : is_fresh (sums_of a left groups (level l' Nothing) n') ≡ false = not_fresh a left groups (level l' Nothing) n' refl in
        let Q : Bool → Type 0 =
        λ b. Runs go (D (S.Sum (sums_of a left groups (level l' Nothing) n') start)) (spell_product (b && m) n' p rest)
        (D (after_product a left groups l' n' p)) rest in
        follow-sum a left groups n e _
        ⟫ go_on (after_sum a left groups n e) (S.Sum (sums_of a left groups (level l' Nothing) n') start) (sum_terminal sign)
        (over_operators (sum_ops n e)) _
        (step-after_sum m a left groups n e (sum_terminal sign) (operator-suits a left groups (sum_terminal sign) (sum-operator sign))
        (sum-is-sum_terminal sign)
        ∙ behind-plus a left groups (sum_ops n e) (sum_value e) sign)
        ⟫ subst Q fr (follow-product a left groups l' n' p rest)
