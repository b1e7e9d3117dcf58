-- An item that was read so far, and that one more terminal goes on it.
use Rattle.std.proofs.Common.{◌≡◌, List, [], ◌∷◌, ◌++◌, refl, ap, ◌∙◌, sym, subst, Bool, false, ℕ}
use Rattle.std.specs.Prelude.{◌&&◌, if◌then◌else◌}
use Rattle.fcp_model.specs.declared.term.ArithOp.TheVariants.{Add, Sub, Mul, Div}
use Rattle.fcp_model.specs.declared.term.CompareOp.{CompareOp}
use Rattle.fcp_model.specs.declared.source.Item.{Item}
use Rattle.fcp_model.specs.declared.source.Call.TheVariants as C
use Rattle.fcp_grammar.specs.declared.terminals.StringForm.TheVariants as F
use Rattle.fcp_grammar.specs.declared.terminals.Terminal.{Terminal}
use Rattle.fcp_grammar.specs.declared.terminals.Terminal.TheVariants as terminal
use Rattle.fcp_grammar.specs.declared.expressions.LeftOperand.TheVariants.{Nothing, Operator}
use Rattle.fcp_grammar.specs.declared.sides.TermSign.{TermSign}
use Rattle.fcp_grammar.specs.declared.sides.TermSign.TheVariants.{Equals, Same, NotSame}
use Rattle.fcp_grammar.specs.declared.sides.LeftSide.TheVariants as L
use Rattle.fcp_grammar.specs.declared.sides.Sums.{Sums}
use Rattle.fcp_grammar.specs.declared.sides.Side.{Side}
use Rattle.fcp_grammar.specs.declared.sides.Side.TheVariants as S
use Rattle.fcp_grammar.specs.declared.sides.ItemStep.{ItemStep}
use Rattle.fcp_grammar.specs.declared.sides.ItemStep.TheVariants.{Goes, Ends, Refused}
use Rattle.fcp_grammar.specs.Terms.{term_of, start}
use Rattle.fcp_grammar.specs.Expressions.{join, whole, nothing}
use Rattle.fcp_grammar.specs.Operands.{sums_of, closes, compares, ends, behind_operand}
use Rattle.fcp_grammar.specs.Items.{is_fresh, fresh_at, call_item, equation, equate, behind_first, behind_leaf, behind_whole, place}
use Rattle.fcp_grammar.specs.Grammar.{Marked, Tree, int, call, name_alone, with_arguments, variable, read_only, nil, list, list_rest, braces, value, values, plain, spell, first_of}
use Rattle.fcp_grammar.specs.ExpressionGrammar.{SumSign, ProductSign, Factor, Product, Sum, add, sub, mul, div, rem, leaf, group, one, times, only, plus, sum_terminal, sum_op, product_terminal, product_op, factor_value, sum_value, more, over_operators, factor_ops, sum_ops, spell_factor, spell_product, spell_sum}
use Rattle.fcp_grammar.specs.ItemGrammar as G
use Rattle.fcp_grammar.specs.ItemGrammar.{ItemTree, sign_terminal, item_value, spell_item, first_factor, first_product, first_sum}
use Rattle.fcp_grammar.proofs.Follow.{phase_of, term_of-phase}
use Rattle.fcp_grammar.proofs.FollowExpressions.{leaf-value, level}
use Rattle.fcp_grammar.proofs.Partial.{Part, Last, wanted, at_of, so_far}
use Rattle.fcp_grammar.proofs.PartialExpressions.{SumPart, ProductPart, Pending, Group, LeftPart, no_sum, sum_plus, no_product, product_times, pending, inside, no_left, left_compared, left_assigned, level_of, levels_of, left_of, bare, ops_level, ops_groups, ops_before, sums, mark_at, terminals_level, terminals_groups, terminals_before, whole_tree, whole-value, whole-ops, whole-terminals, timed, timed-terminals}

-- An item that was begun: behind a sign between two terms, in a term that may be an operand, or behind the `)` of an expression.
pub data PartItem : Type 0 where
  equal_to : (t : Tree) (sign : TermSign) (ps : List Part) (last : Last) → PartItem
  summing : (left : LeftPart) (gs : List Group) (l : Pending) (ps : List Part) (last : Last) → PartItem
  closed : (left : LeftPart) (gs : List Group) (l : Pending) (open_at : ℕ) (e : Sum) → PartItem

abbrev pub side_of : ℕ → PartItem → Side
side_of a (equal_to t sign ps last) = S.Equal (equation a (value t) sign) (at_of ps last)
side_of a (summing left gs l ps last) = S.Sum (sums a left gs l (ops_before left gs l)) (at_of ps last)
side_of a (closed left gs l o e) = S.Closed (sums a left gs l (factor_ops (ops_before left gs l) (group o e))) (sum_value e)

abbrev pub item_so_far : Bool → PartItem → List Marked → List Marked
item_so_far m (equal_to t sign ps last) rest = spell m t (plain (sign_terminal sign) ∷ so_far false ps last rest)
item_so_far m (summing left gs l ps last) rest = terminals_before m left gs l (so_far (mark_at m left gs l) ps last rest)
item_so_far m (closed left gs l o e) rest =
    terminals_before m left gs l (spell_factor (mark_at m left gs l) (ops_before left gs l) (group o e) rest)

-- ---- where an item begins

abbrev pub head_place : List Marked → ℕ
head_place [] = 0
head_place (w ∷ ws) = place w.0

pub place-tree : (m : Bool) (t : Tree) (rest : List Marked) → head_place (spell m t rest) ≡ first_of t
place-tree m (int n a) rest = refl
place-tree m (call (name_alone s sp a)) rest = refl
place-tree m (call (with_arguments s sp a o ts t)) rest = refl
place-tree m (variable k a) rest = refl
place-tree m (read_only k a) rest = refl
place-tree m (nil a) rest = refl
place-tree m (list a ts t) rest = refl
place-tree m (list_rest a ts t u) rest = refl
place-tree m (braces a ts t) rest = refl

place-factor : (m : Bool) (n : ℕ) (f : Factor) (rest : List Marked) → head_place (spell_factor m n f rest) ≡ first_factor f
place-factor m n (leaf t) rest = place-tree m t rest
place-factor m n (group o e) rest = refl

place-product : (m : Bool) (n : ℕ) (p : Product) (rest : List Marked) → head_place (spell_product m n p rest) ≡ first_product p
place-product m n (one f) rest = place-factor m n f rest
place-product m n (times p sign f) rest = place-product m n p _

pub place-sum : (m : Bool) (n : ℕ) (e : Sum) (rest : List Marked) → head_place (spell_sum m n e rest) ≡ first_sum e
place-sum m n (only p) rest = place-product m n p rest
place-sum m n (plus e sign p) rest = place-sum m n e _

-- ---- what a terminal does

pub record MovedItem (m : Bool) (a : ℕ) (before : List Marked → List Marked) (w : Terminal) (side : Side) (mark : Bool) : Type 0 where
  pub part : PartItem
  pub is : side_of a part ≡ side
  pub terminals : (rest : List Marked) → item_so_far m part rest ≡ before ((w, mark) ∷ rest)

pub record EndedItem (m : Bool) (before : List Marked → List Marked) (item : Item) : Type 0 where
  pub tree : ItemTree
  pub is : item_value tree ≡ item
  pub terminals : (rest : List Marked) → spell_item m tree rest ≡ before rest

abbrev pub GoesFrom : Bool → ℕ → (List Marked → List Marked) → Terminal → ItemStep → Type 0
GoesFrom m a before w (Goes side mark) = MovedItem m a before w side mark
GoesFrom m a before w (Ends item) = EndedItem m before item
GoesFrom m a before w Refused = Unit {0}

abbrev pub Begins : ℕ → (List Marked → List Marked) → Type 0
Begins a before = (rest : List Marked) → head_place (before rest) ≡ a

-- ---- behind an operand

abbrev with_operand : Bool → LeftPart → List Group → Pending → Factor → List Marked → List Marked
with_operand m left gs l f rest = terminals_before m left gs l (spell_factor (mark_at m left gs l) (ops_before left gs l) f rest)

goes-ends : (m : Bool) (a : ℕ) (left : LeftPart) (gs : List Group) (l : Pending) (f : Factor) (w : Terminal)
    → Begins a (with_operand m left gs l f)
    → GoesFrom m a (with_operand m left gs l f) w (ends a (left_of left) (levels_of gs) (whole (level_of l) (factor_value f)))
goes-ends m a (left_compared c op) [] l f w h =
    let begins : first_sum c ≡ a = sym (place-sum m 0 c _) ∙ h [] in
    record {
      tree = G.compared c op (whole_tree l f);
      is = ap (λ x. record { at = x; call = C.Compare op (sum_value c) (sum_value (whole_tree l f)) }) begins
          ∙ ap (λ v. record { at = a; call = C.Compare op (sum_value c) v }) (sym (whole-value l f));
      terminals =
          λ rest. ap (λ ws. spell_sum m 0 c (plain (terminal.Compare op) ∷ ws))
          (whole-terminals m (left_compared c op) [] l (sum_ops 0 c) f rest);
    }
goes-ends m a (left_assigned t) [] l f w h =
    let begins : first_of t ≡ a = sym (place-tree m t _) ∙ h [] in
    record {
      tree = G.assigned t (whole_tree l f);
      is = ap (λ x. record { at = x; call = C.Assign (value t) (sum_value (whole_tree l f)) }) begins
          ∙ ap (λ v. record { at = a; call = C.Assign (value t) v }) (sym (whole-value l f));
      terminals = λ rest. ap (λ ws. spell m t (plain terminal.Assign ∷ ws)) (whole-terminals m (left_assigned t) [] l 0 f rest);
    }
goes-ends m a no_left [] l f w h = tt
goes-ends m a no_left (inside k o ∷ gs) l f w h = tt
goes-ends m a (left_compared c op) (inside k o ∷ gs) l f w h = tt
goes-ends m a (left_assigned t) (inside k o ∷ gs) l f w h = tt

goes-compares : (m : Bool) (a : ℕ) (left : LeftPart) (gs : List Group) (l : Pending) (f : Factor) (op : CompareOp)
    → GoesFrom m a (with_operand m left gs l f) (terminal.Compare op)
    (compares a (left_of left) (levels_of gs) op (whole (level_of l) (factor_value f)) (factor_ops (ops_before left gs l) f))
goes-compares m a no_left [] l f op =
    record {
      part = summing (left_compared (whole_tree l f) op) [] bare [] wanted;
      is = ap (λ n. S.Sum (sums_of a (L.Compared (sum_value (whole_tree l f)) op) [] nothing n) start) (whole-ops l 0 f)
          ∙ ap (λ v. S.Sum (sums_of a (L.Compared v op) [] nothing (factor_ops (ops_before no_left [] l) f)) start) (sym (whole-value l f));
      terminals = λ rest. whole-terminals m no_left [] l 0 f (plain (terminal.Compare op) ∷ rest);
    }
goes-compares m a (left_compared c o) [] l f op = tt
goes-compares m a (left_assigned t) [] l f op = tt
goes-compares m a no_left (inside k o ∷ gs) l f op = tt
goes-compares m a (left_compared c q) (inside k o ∷ gs) l f op = tt
goes-compares m a (left_assigned t) (inside k o ∷ gs) l f op = tt

goes-closes : (m : Bool) (a : ℕ) (left : LeftPart) (gs : List Group) (l : Pending) (f : Factor)
    → GoesFrom m a (with_operand m left gs l f) terminal.RoundClose
    (closes a (left_of left) (levels_of gs) (whole (level_of l) (factor_value f)) (factor_ops (ops_before left gs l) f))
goes-closes m a left [] l f = tt
goes-closes m a left (inside k o ∷ gs) l f =
    record {
      part = closed left gs k o (whole_tree l f);
      is =
          ap (λ n. S.Closed (sums_of a (left_of left) (levels_of gs) (level_of k) n) (sum_value (whole_tree l f)))
          (whole-ops l (ops_before left gs k) f)
          ∙ ap (λ v. S.Closed (sums_of a (left_of left) (levels_of gs) (level_of k) (factor_ops (ops_level (ops_before left gs k) l) f)) v)
          (sym (whole-value l f));
      terminals =
          λ rest. ap (λ ws. terminals_groups m left gs
          (terminals_level (mark_at m left gs bare) (ops_groups left gs) k ((terminal.RoundOpen o, mark_at m left gs k) ∷ ws)))
          (whole-terminals m left (inside k o ∷ gs) l (ops_before left gs k) f (plain terminal.RoundClose ∷ rest));
    }

timed-side : (a : ℕ) (left : LeftPart) (gs : List Group) (l : Pending) (f : Factor) (sign : ProductSign)
    → side_of a (summing left gs (timed l f sign) [] wanted)
    ≡ S.Sum (sums_of a (left_of left) (levels_of gs)
    (level ((level_of l).sum) (Operator (join ((level_of l).product) (factor_value f)) (product_op sign)))
    (more (factor_ops (ops_before left gs l) f))) start
timed-side a left gs (pending no_sum no_product) f sign = refl
timed-side a left gs (pending no_sum (product_times p o)) f sign = refl
timed-side a left gs (pending (sum_plus e o) no_product) f sign = refl
timed-side a left gs (pending (sum_plus e o) (product_times p q)) f sign = refl

goes-times : (m : Bool) (a : ℕ) (left : LeftPart) (gs : List Group) (l : Pending) (f : Factor) (sign : ProductSign)
    → MovedItem m a (with_operand m left gs l f) (product_terminal sign)
    (S.Sum (sums_of a (left_of left) (levels_of gs)
    (level ((level_of l).sum) (Operator (join ((level_of l).product) (factor_value f)) (product_op sign)))
    (more (factor_ops (ops_before left gs l) f))) start)
    (over_operators (factor_ops (ops_before left gs l) f))
goes-times m a left gs l f sign =
    record {
      part = summing left gs (timed l f sign) [] wanted;
      is = timed-side a left gs l f sign;
      terminals = λ rest. ap (terminals_groups m left gs) (timed-terminals m left gs l (ops_groups left gs) f sign rest);
    }

goes-plus : (m : Bool) (a : ℕ) (left : LeftPart) (gs : List Group) (l : Pending) (f : Factor) (sign : SumSign)
    → MovedItem m a (with_operand m left gs l f) (sum_terminal sign)
    (S.Sum (sums_of a (left_of left) (levels_of gs) (level (Operator (whole (level_of l) (factor_value f)) (sum_op sign)) Nothing)
    (more (factor_ops (ops_before left gs l) f))) start)
    (over_operators (factor_ops (ops_before left gs l) f))
goes-plus m a left gs l f sign =
    record {
      part = summing left gs (pending (sum_plus (whole_tree l f) sign) no_product) [] wanted;
      is =
          ap (λ n. S.Sum (sums_of a (left_of left) (levels_of gs) (level (Operator (sum_value (whole_tree l f)) (sum_op sign)) Nothing)
          (more n)) start) (whole-ops l (ops_groups left gs) f)
          ∙ ap (λ v. S.Sum (sums_of a (left_of left) (levels_of gs) (level (Operator v (sum_op sign)) Nothing)
          (more (factor_ops (ops_before left gs l) f))) start) (sym (whole-value l f));
      terminals =
          λ rest. ap (λ n. terminals_groups m left gs
          (spell_sum (mark_at m left gs bare) (ops_groups left gs) (whole_tree l f) ((sum_terminal sign, over_operators n) ∷ rest)))
          (whole-ops l (ops_groups left gs) f)
          ∙ ap (terminals_groups m left gs)
          (whole-terminals m left gs l (ops_groups left gs) f
          ((sum_terminal sign, over_operators (factor_ops (ops_before left gs l) f)) ∷ rest));
    }

pub goes-operand : (m : Bool) (a : ℕ) (left : LeftPart) (gs : List Group) (l : Pending) (f : Factor) (w : Terminal)
    → Begins a (with_operand m left gs l f)
    → GoesFrom m a (with_operand m left gs l f) w
    (behind_operand (sums a left gs l (factor_ops (ops_before left gs l) f)) (factor_value f) w)
unfolding behind_operand
goes-operand m a left gs l f (terminal.Operator Add b) h = goes-plus m a left gs l f (add b)
goes-operand m a left gs l f (terminal.Operator Sub b) h = goes-plus m a left gs l f (sub b)
goes-operand m a left gs l f (terminal.Operator Mul b) h = goes-times m a left gs l f (mul b)
goes-operand m a left gs l f (terminal.Operator Div b) h = goes-times m a left gs l f (div b)
goes-operand m a left gs l f (terminal.Str s F.Mod b) h = goes-times m a left gs l f (rem s b)
goes-operand m a left gs l f terminal.RoundClose h = goes-closes m a left gs l f
goes-operand m a left gs l f (terminal.Compare op) h = goes-compares m a left gs l f op
goes-operand m a left gs l f terminal.Comma h = goes-ends m a left gs l f terminal.Comma h
goes-operand m a left gs l f terminal.Bar h = goes-ends m a left gs l f terminal.Bar h
goes-operand m a left gs l f (terminal.Dot n) h = goes-ends m a left gs l f (terminal.Dot n) h
goes-operand m a left gs l f _ h = tt

-- ---- behind a term

abbrev term_before : Bool → LeftPart → List Group → Pending → Tree → List Marked → List Marked
term_before m left gs l t rest = terminals_before m left gs l (spell (mark_at m left gs l) t rest)

leaf-operand : (m : Bool) (a : ℕ) (left : LeftPart) (gs : List Group) (l : Pending) (t : Tree) (w : Terminal)
    → Begins a (term_before m left gs l t)
    → GoesFrom m a (term_before m left gs l t) w (behind_leaf (sums a left gs l (ops_before left gs l)) (phase_of t) w)
leaf-operand m a left gs l t w h =
    subst (λ e. GoesFrom m a (term_before m left gs l t) w (behind_operand (sums a left gs l (ops_before left gs l)) e w))
    (sym (leaf-value t)) (goes-operand m a left gs l (leaf t) w h)

goes-call : (m : Bool) (a : ℕ) (t : Tree) (w : Terminal) → Begins a (spell m t) → GoesFrom m a (spell m t) w (call_item a (phase_of t))
unfolding call_item
goes-call m a (call (name_alone s sp b)) w h =
    record { tree = G.call_item (name_alone s sp b); is = ap (λ x. record { at = x; call = C.User s [] }) (h []); terminals = λ rest. refl }
goes-call m a (call (with_arguments s sp b o ts t)) w h =
    record {
      tree = G.call_item (with_arguments s sp b o ts t);
      is = ap (λ x. record { at = x; call = C.User s (values ts ++ value t ∷ []) }) (h []);
      terminals = λ rest. refl;
    }
goes-call m a (int n b) w h = tt
goes-call m a (variable k b) w h = tt
goes-call m a (read_only k b) w h = tt
goes-call m a (nil b) w h = tt
goes-call m a (list b ts t) w h = tt
goes-call m a (list_rest b ts t u) w h = tt
goes-call m a (braces b ts t) w h = tt

goes-equate : (m : Bool) (a : ℕ) (t : Tree) (sign : TermSign) → GoesFrom m a (spell m t) (sign_terminal sign) (equate a (phase_of t) sign)
goes-equate m a t sign =
    record {
      part = equal_to t sign [] wanted;
      is = ap (λ v. S.Equal (equation a v sign) start) (sym (term_of-phase t));
      terminals = λ rest. refl;
    }

goes-waiting : (m : Bool) (a : ℕ) (left : LeftPart) (gs : List Group) (l : Pending) (t : Tree) (w : Terminal)
    → Begins a (term_before m left gs l t)
    → is_fresh (sums a left gs l (ops_before left gs l)) ≡ false
    → GoesFrom m a (term_before m left gs l t) w (behind_whole (sums a left gs l (ops_before left gs l)) (phase_of t) w)
unfolding behind_whole
goes-waiting m a left gs l t w h f =
    let s : Sums = sums a left gs l (ops_before left gs l) in
    subst (λ b. GoesFrom m a (term_before m left gs l t) w (if b then behind_first s (phase_of t) w else behind_leaf s (phase_of t) w))
    (sym f) (leaf-operand m a left gs l t w h)

goes-fresh : (m : Bool) (a : ℕ) (t : Tree) (w : Terminal) → Begins a (spell m t)
    → GoesFrom m a (spell m t) w (behind_whole (fresh_at a) (phase_of t) w)
unfolding behind_whole behind_first
goes-fresh m a t terminal.Comma h = goes-call m a t terminal.Comma h
goes-fresh m a t terminal.Bar h = goes-call m a t terminal.Bar h
goes-fresh m a t (terminal.Dot n) h = goes-call m a t (terminal.Dot n) h
goes-fresh m a t terminal.Equals h = goes-equate m a t Equals
goes-fresh m a t terminal.Same h = goes-equate m a t Same
goes-fresh m a t terminal.NotSame h = goes-equate m a t NotSame
goes-fresh m a t terminal.Assign h =
    record {
      part = summing (left_assigned t) [] bare [] wanted;
      is = ap (λ v. S.Sum (sums_of a (L.Assigned v) [] nothing 0) start) (sym (term_of-phase t));
      terminals = λ rest. refl;
    }
goes-fresh m a t w h = leaf-operand m a no_left [] bare t w h

pub goes-whole : (m : Bool) (a : ℕ) (left : LeftPart) (gs : List Group) (s : SumPart) (p : ProductPart) (t : Tree) (w : Terminal)
    → Begins a (term_before m left gs (pending s p) t)
    → GoesFrom m a (term_before m left gs (pending s p) t) w
    (behind_whole (sums a left gs (pending s p) (ops_before left gs (pending s p))) (phase_of t) w)
goes-whole m a no_left [] no_sum no_product t w h = goes-fresh m a t w h
goes-whole m a left (inside k o ∷ gs) s p t w h = goes-waiting m a left (inside k o ∷ gs) (pending s p) t w h refl
goes-whole m a left gs s p t w h = goes-waiting m a left gs (pending s p) t w h refl
