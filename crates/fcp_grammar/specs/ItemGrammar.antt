-- Believed: the grammar of items and of lists of items.
use Rattle.std.specs.Prelude.{ℕ, List, [], ◌∷◌, ◌++◌, Bool, false, nat_le, length}
use Rattle.fcp_model.specs.declared.term.Term.{Term}
use Rattle.fcp_model.specs.declared.term.CompareOp.{CompareOp}
use Rattle.fcp_model.specs.declared.source.Call.{Call}
use Rattle.fcp_model.specs.declared.source.Call.TheVariants as C
use Rattle.fcp_model.specs.declared.source.Item.{Item}
use Rattle.fcp_grammar.specs.declared.terminals.Terminal.{Terminal}
use Rattle.fcp_grammar.specs.declared.terminals.Terminal.TheVariants as terminal
use Rattle.fcp_grammar.specs.declared.sides.TermSign.{TermSign}
use Rattle.fcp_grammar.specs.declared.sides.TermSign.TheVariants.{Equals, Same, NotSame}
use Rattle.fcp_grammar.specs.Grammar.{Marked, Tree, CallTree, first_of, value, call_place, call_name, call_arguments, plain, spell, spell_call}
use Rattle.fcp_grammar.specs.ExpressionGrammar.{Factor, Product, Sum, leaf, group, one, times, only, plus, sum_value, sum_ops, spell_sum}
use Rattle.fcp_grammar.specs.Limits.{most_items}

-- A call, two terms with a sign, a term and an expression with `:=`, or two expressions compared.
pub data ItemTree : Type 0 where
  call_item : (c : CallTree) → ItemTree
  equal : (left : Tree) (sign : TermSign) (right : Tree) → ItemTree
  assigned : (left : Tree) (right : Sum) → ItemTree
  compared : (left : Sum) (op : CompareOp) (right : Sum) → ItemTree

-- `=`, `==` and `\==`
abbrev pub sign_terminal : TermSign → Terminal
sign_terminal Equals = terminal.Equals
sign_terminal Same = terminal.Same
sign_terminal NotSame = terminal.NotSame

-- what each of them says of two terms
abbrev pub sign_call : TermSign → Term → Term → Call
sign_call Equals t u = C.Unify t u
sign_call Same t u = C.Same t u
sign_call NotSame t u = C.NotSame t u

-- the place of a factor's first terminal
abbrev pub first_factor : Factor → ℕ
first_factor (leaf t) = first_of t
first_factor (group o e) = o

-- the place of a product's first terminal
abbrev pub first_product : Product → ℕ
first_product (one f) = first_factor f
first_product (times p sign f) = first_product p

-- the place of a sum's first terminal
abbrev pub first_sum : Sum → ℕ
first_sum (only p) = first_product p
first_sum (plus e sign p) = first_sum e

-- An item has the place of its first terminal.
abbrev pub item_value : ItemTree → Item
item_value (call_item c) = record { at = call_place c; call = C.User (call_name c) (call_arguments c) }
item_value (equal t sign u) = record { at = first_of t; call = sign_call sign (value t) (value u) }
item_value (assigned t e) = record { at = first_of t; call = C.Assign (value t) (sum_value e) }
item_value (compared a op b) = record { at = first_sum a; call = C.Compare op (sum_value a) (sum_value b) }

-- The terminals of the item, and then the rest. `m` says that the item is one too many.
abbrev pub spell_item : Bool → ItemTree → List Marked → List Marked
spell_item m (call_item c) rest = spell_call m c rest
spell_item m (equal t sign u) rest = spell m t (plain (sign_terminal sign) ∷ spell false u rest)
spell_item m (assigned t e) rest = spell m t (plain terminal.Assign ∷ spell_sum false 0 e rest)
spell_item m (compared a op b) rest = spell_sum m 0 a (plain (terminal.Compare op) ∷ spell_sum false (sum_ops 0 a) b rest)

-- behind so many items each further one is too many
abbrev pub over_items : List Item → Bool
over_items items = nat_le most_items (length items)

-- items with a comma behind each
pub data ItemTrees : Type 0 where
  no_items : ItemTrees
  and_item : (front : ItemTrees) (i : ItemTree) → ItemTrees

-- their values, in order
abbrev pub item_values : ItemTrees → List Item
item_values no_items = []
item_values (and_item is i) = item_values is ++ item_value i ∷ []

-- their terminals, and then the rest
abbrev pub spell_items : ItemTrees → List Marked → List Marked
spell_items no_items rest = rest
spell_items (and_item is i) rest = spell_items is (spell_item (over_items (item_values is)) i (plain terminal.Comma ∷ rest))

-- the terminals of one item or more, the last with no comma behind it
abbrev pub spell_list : ItemTrees → ItemTree → List Marked → List Marked
spell_list is i rest = spell_items is (spell_item (over_items (item_values is)) i rest)
