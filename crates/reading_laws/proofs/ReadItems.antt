-- The items of trees that spell unmarked terminals.
use Rattle.std.proofs.Common.{◌≡◌, ℕ, ◌+◌, ◌≤◌, Bool, true, false, List, [], ◌∷◌, ◌++◌, length, refl, arith, length-append}
use Rattle.std.specs.Prelude.{◌&&◌, nat_le}
use Rattle.std.specs.List.{list_all}
use Rattle.std.proofs.lemmas.Bool.Decides.{nat_tests}
use Rattle.fcp_model.specs.declared.term.Term.{Term}
use Rattle.fcp_model.specs.declared.source.Call.{Call}
use Rattle.fcp_model.specs.declared.source.Item.{Item}
use Rattle.fcp_grammar.specs.declared.terminals.Terminal.TheVariants as terminal
use Rattle.fcp_grammar.specs.declared.sides.TermSign.{TermSign}
use Rattle.fcp_grammar.specs.declared.sides.TermSign.TheVariants.{Equals, Same, NotSame}
use Rattle.fcp_grammar.specs.Values.{over}
use Rattle.fcp_grammar.specs.Grammar.{Marked, Tree, Trees, value, values, plain, spell, spells, name_alone, with_arguments}
use Rattle.fcp_grammar.specs.ExpressionGrammar.{sum_value, sum_ops, spell_sum}
use Rattle.fcp_grammar.specs.ItemGrammar.{ItemTree, call_item, equal, assigned, compared, sign_terminal, sign_call, item_value, spell_item, over_items, ItemTrees, no_items, and_item, item_values, spell_items, spell_list}
use Rattle.text_laws.specs.Writable.{is_writable_term, is_writable_call, are_writable_items}
use Rattle.reading_laws.specs.Variables.{term_variables, terms_variables, expr_variables, call_variables, items_variables, count_behind}
use Rattle.reading_laws.specs.TerminalOrder.{count_after}
use Rattle.reading_laws.specs.Readable.{is_small_term, are_small_terms, is_small_expr, operators_of, is_small_call, are_small_items}
use Rattle.reading_laws.proofs.ReadParts.{and-both, all-last, each-last, Sound, Reads, two-read, reads-as, reads-same, past}
use Rattle.reading_laws.proofs.ReadTerms.{ReadsTerm, ReadsTerms}
use Rattle.reading_laws.proofs.ReadTrees.{arguments-fit, last-read, read-tree, read-trees}
use Rattle.reading_laws.proofs.ReadExpressions.{ReadsExpr, read-sum}

abbrev pub ReadsCall : ℕ → Call → List Marked → Type 0
ReadsCall n c rest = Reads n (is_small_call c) (is_writable_call c) (call_variables c) rest

-- ---- arguments

-- the terminals of arguments and of the parenthesis behind them
abbrev pub spell_arguments : Trees → Tree → List Marked → List Marked
spell_arguments ts t rest = spells true ts (spell (over (values ts)) t (plain terminal.RoundClose ∷ rest))

-- at most 64
pub read-arguments : (ts : Trees) (t : Tree) (n : ℕ) (rest : List Marked) → Sound n (spell_arguments ts t rest)
    → (nat_le (length (values ts ++ value t ∷ [])) 64 ≡ true) × ReadsTerms n (values ts ++ value t ∷ []) rest
read-arguments ts t n rest h =
    let a : ReadsTerms n (values ts) (spell (over (values ts)) t (plain terminal.RoundClose ∷ rest)) = read-trees ts true n _ h in
    let b = read-tree t (over (values ts)) (count_behind n (terms_variables (values ts))) (plain terminal.RoundClose ∷ rest) a.behind in
    (arguments-fit (values ts) (value t) b.0, past (λ k. refl) (last-read (values ts) (value t) a b.1))

-- ---- items

sign-passes : (sign : TermSign) (k : ℕ) → count_after k (sign_terminal sign) ≡ k
sign-passes Equals k = refl
sign-passes Same k = refl
sign-passes NotSame k = refl

-- a sign's two terms
sign-read : (sign : TermSign) (n : ℕ) (t u : Term) (rest : List Marked)
    → Reads n (is_small_term t && is_small_term u) (is_writable_term t && is_writable_term u) (term_variables t ++ term_variables u) rest
    → ReadsCall n (sign_call sign t u) rest
sign-read Equals n t u rest a = a
sign-read Same n t u rest a = a
sign-read NotSame n t u rest a = a

few-operators : (i j : ℕ) → i ≡ j → i ≤ 256 → nat_le j 256 ≡ true
few-operators i j e h = grind (arith, nat_tests)

pub read-item : (i : ItemTree) (m : Bool) (n : ℕ) (rest : List Marked) → Sound n (spell_item m i rest)
    → (m ≡ false) × ReadsCall n (item_value i).call rest
read-item (call_item (name_alone s form at)) m n rest h =
    (h.0, record { is_small = refl; is_writable = refl; in_order = refl; behind = h.2 })
read-item (call_item (with_arguments s form at o ts t)) m n rest h =
    let args : List Term = values ts ++ value t ∷ [] in
    let a = read-arguments ts t n rest h.2.2 in
    (h.0, reads-as (λ g. and-both (nat_le (length args) 64) (are_small_terms args) a.0 g) (λ g. g) refl a.1)
read-item (equal t sign u) m n rest h =
    let a = read-tree t m n (plain (sign_terminal sign) ∷ spell false u rest) h in
    let b : ReadsTerm n (value t) (spell false u rest) = past (sign-passes sign) a.1 in
    let c = read-tree u false (count_behind n (term_variables (value t))) rest b.behind in
    (a.0, sign-read sign n (value t) (value u) rest (two-read b c.1))
read-item (assigned t e) m n rest h =
    let a = read-tree t m n (plain terminal.Assign ∷ spell_sum false 0 e rest) h in
    let b : ReadsTerm n (value t) (spell_sum false 0 e rest) = past (λ k. refl) a.1 in
    let c = read-sum e false 0 (count_behind n (term_variables (value t))) rest (omega arith) b.behind in
    let few : nat_le (operators_of (sum_value e)) 256 ≡ true =
    few-operators (sum_ops 0 e) (operators_of (sum_value e)) (omega (arith, c.counted)) c.few in
    (a.0, reads-as (λ g. and-both (is_small_term (value t) && is_small_expr (sum_value e)) _ g few) (λ g. g) refl (two-read b c.reads))
read-item (compared d op e) m n rest h =
    let a = read-sum d m 0 n (plain (terminal.Compare op) ∷ spell_sum false (sum_ops 0 d) e rest) (omega arith) h in
    let b : ReadsExpr n (sum_value d) (spell_sum false (sum_ops 0 d) e rest) = past (λ k. refl) a.reads in
    let c = read-sum e false (sum_ops 0 d) (count_behind n (expr_variables (sum_value d))) rest a.few b.behind in
    let few : nat_le (operators_of (sum_value d) + operators_of (sum_value e)) 256 ≡ true =
    few-operators (sum_ops (sum_ops 0 d) e) (operators_of (sum_value d) + operators_of (sum_value e))
    (omega (arith, a.counted, c.counted)) c.few in (
      a.unmarked,
      reads-as (λ g. and-both (is_small_expr (sum_value d) && is_small_expr (sum_value e)) _ g few) (λ g. g) refl
          (two-read b c.reads),
    )

-- ---- lists of items

-- items, however many
abbrev pub ReadsItems : ℕ → List Item → List Marked → Type 0
ReadsItems n is rest = Reads n (list_all (λ (i : Item). is_small_call i.call) is) (are_writable_items is) (items_variables is) rest

one-item-read : {n : ℕ} (is : List Item) (i : Item) {more rest : List Marked} → ReadsItems n is more
    → ReadsCall (count_behind n (items_variables is)) i.call rest → ReadsItems n (is ++ i ∷ []) rest
one-item-read is i a b =
    reads-same (all-last (λ (j : Item). is_small_call j.call) is i) (all-last (λ (j : Item). is_writable_call j.call) is i)
    (each-last (λ (j : Item). call_variables j.call) is i) (two-read a b)

pub read-items : (is : ItemTrees) (n : ℕ) (rest : List Marked) → Sound n (spell_items is rest) → ReadsItems n (item_values is) rest
read-items no_items n rest h = record { is_small = refl; is_writable = refl; in_order = refl; behind = h }
read-items (and_item is i) n rest h =
    let a : ReadsItems n (item_values is) (spell_item (over_items (item_values is)) i (plain terminal.Comma ∷ rest)) =
    read-items is n _ h in
    let b =
    read-item i (over_items (item_values is)) (count_behind n (items_variables (item_values is)))
    (plain terminal.Comma ∷ rest) a.behind in
    past (λ k. refl) (one-item-read (item_values is) (item_value i) a b.1)

items-fit : (is : List Item) (i : Item) → over_items is ≡ false → nat_le (length (is ++ i ∷ [])) 256 ≡ true
items-fit is i h = grind (arith, nat_tests, length-append)

-- one item or more, and at most 256
pub read-list : (is : ItemTrees) (i : ItemTree) (n : ℕ) (rest : List Marked) → Sound n (spell_list is i rest)
    → Reads n (are_small_items (item_values is ++ item_value i ∷ [])) (are_writable_items (item_values is ++ item_value i ∷ []))
    (items_variables (item_values is ++ item_value i ∷ [])) rest
read-list is i n rest h =
    let all : List Item = item_values is ++ item_value i ∷ [] in
    let a : ReadsItems n (item_values is) (spell_item (over_items (item_values is)) i rest) = read-items is n _ h in
    let b = read-item i (over_items (item_values is)) (count_behind n (items_variables (item_values is))) rest a.behind in
    reads-as (λ g. and-both (nat_le (length all) 256) (list_all (λ (j : Item). is_small_call j.call) all)
    (items-fit (item_values is) (item_value i) b.0) g) (λ g. g) refl (one-item-read (item_values is) (item_value i) a b.1)
