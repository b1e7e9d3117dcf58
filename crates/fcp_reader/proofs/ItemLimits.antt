-- Items whose terminals are bounded are within the limits.
use Rattle.std.proofs.Common.{◌≡◌, ◌≤◌, ◌<◌, ◌+◌, ℕ, List, [], ◌∷◌, ◌++◌, length, Bool, true, false, refl, arith, length-append, nat_le}
use Rattle.std.specs.List.{list_all}
use Rattle.std.proofs.lemmas.Bool.{and_from, le-leb, leb-false}
use Rattle.fcp_model.specs.declared.term.Term.{Term}
use Rattle.fcp_model.specs.declared.source.Item.{Item}
use Rattle.fcp_grammar.specs.declared.terminals.Terminal.TheVariants as terminal
use Rattle.fcp_grammar.specs.declared.sides.TermSign.{TermSign}
use Rattle.fcp_grammar.specs.declared.sides.TermSign.TheVariants.{Equals, Same, NotSame}
use Rattle.fcp_grammar.specs.Grammar.{Marked, value, plain, spell, name_alone, with_arguments}
use Rattle.fcp_grammar.specs.ExpressionGrammar.{sum_value, sum_ops, spell_sum}
use Rattle.fcp_grammar.specs.ItemGrammar.{ItemTree, call_item, equal, assigned, compared, sign_terminal, sign_call, item_value, over_items, ItemTrees, no_items, and_item, item_values, spell_item, spell_items, spell_list}
use Rattle.fcp_terminals.specs.declared.variables.Form.{Form}
use Rattle.fcp_reader.specs.Limits.{is_term_within, is_expr_within, is_call_within, are_items_within}
use Rattle.fcp_reader.proofs.Bounded.{Bounded, Shown}
use Rattle.fcp_reader.proofs.TermLimits.{all-more, show-tree, show-call, show-sum}

abbrev is_item_within : ℕ → Item → Bool
is_item_within v i = is_call_within v i.call

few-more : (is : List Item) (i : Item) → over_items is ≡ false → length (is ++ i ∷ []) ≤ 256
few-more is i o =
    let below : length is < 256 = leb-false 256 (length is) o in
    let long : length (is ++ i ∷ []) ≡ length is + 1 = length-append is (i ∷ []) in
    omega arith

within-sign : (v : ℕ) (sign : TermSign) (t u : Term) → is_term_within v t ≡ true → is_term_within v u ≡ true
    → is_call_within v (sign_call sign t u) ≡ true
within-sign v Equals t u a b = and_from (is_term_within v t) (is_term_within v u) a b
within-sign v Same t u a b = and_from (is_term_within v t) (is_term_within v u) a b
within-sign v NotSame t u a b = and_from (is_term_within v t) (is_term_within v u) a b

module _ (f : Form) (n v b : ℕ) where
  behind-sign_terminal : (sign : TermSign) (rest : List Marked) → Bounded f n v b (plain (sign_terminal sign) ∷ rest) → Bounded f n v b rest
  behind-sign_terminal Equals rest h = h.1
  behind-sign_terminal Same rest h = h.1
  behind-sign_terminal NotSame rest h = h.1

  show-item : (m : Bool) (i : ItemTree) (rest : List Marked) → Bounded f n v b (spell_item m i rest)
      → Shown f n v b m (is_item_within v (item_value i)) rest
  show-item m (call_item (name_alone s form at)) rest h = record { small = h.0; within = refl; behind = h.1 }
  show-item m (call_item (with_arguments s form at o ts t)) rest h = show-call f n v b m s form at o ts t rest h
  show-item m (equal t sign u) rest h =
      let behind : List Marked = plain (sign_terminal sign) ∷ spell false u rest in
      let left : Shown f n v b m (is_term_within v (value t)) behind = show-tree f n v b m t behind h in
      let right : Shown f n v b false (is_term_within v (value u)) rest =
      show-tree f n v b false u rest (behind-sign_terminal sign (spell false u rest) left.behind) in
      record { small = left.small; within = within-sign v sign (value t) (value u) left.within right.within; behind = right.behind }
  show-item m (assigned t e) rest h =
      let behind : List Marked = plain terminal.Assign ∷ spell_sum false 0 e rest in
      let left : Shown f n v b m (is_term_within v (value t)) behind = show-tree f n v b m t behind h in
      let right : Shown f n v b false (is_expr_within v (sum_value e)) rest = show-sum f n v b false 0 e rest left.behind.1 in
      record {
        small = left.small;
        within = and_from (is_term_within v (value t)) (is_expr_within v (sum_value e)) left.within right.within;
        behind = right.behind;
      }
  show-item m (compared a op c) rest h =
      let behind : List Marked = plain (terminal.Compare op) ∷ spell_sum false (sum_ops 0 a) c rest in
      let left : Shown f n v b m (is_expr_within v (sum_value a)) behind = show-sum f n v b m 0 a behind h in
      let right : Shown f n v b false (is_expr_within v (sum_value c)) rest = show-sum f n v b false (sum_ops 0 a) c rest left.behind.1 in
      record {
        small = left.small;
        within = and_from (is_expr_within v (sum_value a))
            (is_expr_within v (sum_value c)) left.within right.within;
        behind = right.behind;
      }

  show-items : (is : ItemTrees) (rest : List Marked) → Bounded f n v b (spell_items is rest)
      → (list_all (is_item_within v) (item_values is) ≡ true) × Bounded f n v b rest
  show-items no_items rest h = (refl, h)
  show-items (and_item is i) rest h =
      let behind : List Marked = spell_item (over_items (item_values is)) i (plain terminal.Comma ∷ rest) in
      let front : (list_all (is_item_within v) (item_values is) ≡ true) × Bounded f n v b behind = show-items is behind h in
      let last : Shown f n v b (over_items (item_values is)) (is_item_within v (item_value i)) (plain terminal.Comma ∷ rest) =
      show-item (over_items (item_values is)) i (plain terminal.Comma ∷ rest) front.1 in
      (all-more (is_item_within v) (item_values is) (item_value i) front.0 last.within, last.behind.1)

  -- items, of which the last is not one too many
  pub show-list : (is : ItemTrees) (i : ItemTree) (rest : List Marked) → Bounded f n v b (spell_list is i rest)
      → (are_items_within v (item_values is ++ item_value i ∷ []) ≡ true) × Bounded f n v b rest
  show-list is i rest h =
      let behind : List Marked = spell_item (over_items (item_values is)) i rest in
      let front : (list_all (is_item_within v) (item_values is) ≡ true) × Bounded f n v b behind = show-items is behind h in
      let last : Shown f n v b (over_items (item_values is)) (is_item_within v (item_value i)) rest =
      show-item (over_items (item_values is)) i rest front.1 in
      let all : List Item = item_values is ++ item_value i ∷ [] in (
        and_from (nat_le (length all) 256) (list_all (is_item_within v) all)
            (le-leb (length all) 256 (few-more (item_values is) (item_value i) last.small))
            (all-more (is_item_within v) (item_values is) (item_value i) front.0 last.within),
        last.behind,
      )
