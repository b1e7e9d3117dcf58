-- The variables that no mark says to be too many. The terminals of unknown attributes are never marked.
use Rattle.std.proofs.Common.{◌≡◌, ℕ, Bool, true, false, List, [], ◌∷◌, refl, subst, arith, Option, Some, None, is_none}
use Rattle.std.specs.Prelude.{nat_le, nat_lt}
use Rattle.std.proofs.lemmas.Bool.Decides.{nat_tests}
use Rattle.fcp_grammar.specs.declared.terminals.Terminal.{Terminal}
use Rattle.fcp_grammar.specs.declared.terminals.Terminal.TheVariants as terminal
use Rattle.fcp_grammar.specs.declared.sides.TermSign.{TermSign}
use Rattle.fcp_grammar.specs.declared.sides.TermSign.TheVariants.{Equals, Same, NotSame}
use Rattle.fcp_grammar.specs.Values.{over}
use Rattle.fcp_grammar.specs.Grammar.{Marked, Tree, Trees, int, call, name_alone, with_arguments, variable, read_only, nil, list, list_rest, braces, none, and, values, plain, over_if, spell, spells, CallTree, spell_call}
use Rattle.fcp_grammar.specs.ExpressionGrammar.{SumSign, add, sub, ProductSign, mul, div, rem, Factor, Product, Sum, leaf, group, one, times, only, plus, sum_terminal, product_terminal, more, product_ops, sum_ops, spell_factor, spell_product, spell_sum}
use Rattle.fcp_grammar.specs.ItemGrammar.{ItemTree, call_item, equal, assigned, compared, sign_terminal, spell_item, over_items, ItemTrees, no_items, and_item, item_values, spell_items, spell_list}
use Rattle.fcp_reader.specs.ModuleValues.{first}
use Rattle.fcp_reader.specs.ClauseGrammar.{ClauseTree, fact, rule, guarded, spell_clause}
use Rattle.fcp_reader.specs.AttributeGrammar.{SpecTree, spec, spell_spec, SpecTrees, no_specs, and_spec, spell_specs, Listing, nothing_listed, listing, spell_listing, module_name, export_list, unknown}
use Rattle.fcp_reader.specs.ModuleGrammar.{ModuleTree, empty, and_clause, and_attribute, module_value, spell_module, spell_module_text}
use Rattle.fcp_reader.specs.Texts.{clean}
use Rattle.reading_laws.specs.TerminalOrder.{is_few, are_few}
use Rattle.reading_laws.proofs.ReadParts.{and-both, or-second}

-- each terminal that is not marked is no variable of too many
abbrev Few : List Marked → Type 0
Few [] = Unit {0}
Few (w ∷ ws) = (w.1 ≡ false → is_few w.0 ≡ true) × Few ws

few-clean : (ws : List Terminal) → Few (clean ws []) → are_few ws ≡ true
few-clean [] h = refl
few-clean (w ∷ ws) h = and-both (is_few w) (are_few ws) (h.0 refl) (few-clean ws h.1)

not-above : (k : ℕ) → nat_lt 250 k ≡ false → nat_le k 250 ≡ true
not-above k h = grind (arith, nat_tests)

-- ---- terms

mutual
  few-tree : (t : Tree) (m : Bool) (rest : List Marked) → Few rest → Few (spell m t rest)
  few-tree (int i at) m rest h = (λ e. refl, h)
  few-tree (call (name_alone s form at)) m rest h = (λ e. refl, h)
  few-tree (call (with_arguments s form at o ts t)) m rest h =
      (λ e. refl, (λ e. refl, few-trees ts true _ (few-tree t (over (values ts)) (plain terminal.RoundClose ∷ rest) (λ e. refl, h))))
  few-tree (variable k at) m rest h = (λ e. not-above k (or-second m (nat_lt 250 k) e), h)
  few-tree (read_only k at) m rest h = (λ e. not-above k (or-second m (nat_lt 250 k) e), (λ e. refl, h))
  few-tree (nil at) m rest h = (λ e. refl, (λ e. refl, h))
  few-tree (list at ts t) m rest h = (λ e. refl, few-trees ts false _ (few-tree t false (plain terminal.SquareClose ∷ rest) (λ e. refl, h)))
  few-tree (list_rest at ts t u) m rest h = (
    λ e. refl,
    few-trees ts false _
        (few-tree t false (plain terminal.Bar ∷ spell false u (plain terminal.SquareClose ∷ rest))
        (λ e. refl, few-tree u false (plain terminal.SquareClose ∷ rest) (λ e. refl, h))),
  )
  few-tree (braces at ts t) m rest h =
      (λ e. refl, few-trees ts true _ (few-tree t (over (values ts)) (plain terminal.CurlyClose ∷ rest) (λ e. refl, h)))

  few-trees : (ts : Trees) (c : Bool) (rest : List Marked) → Few rest → Few (spells c ts rest)
  few-trees none c rest h = h
  few-trees (and ts t) c rest h = few-trees ts c _ (few-tree t (over_if c ts) (plain terminal.Comma ∷ rest) (λ e. refl, h))

-- ---- expressions

few-product_sign : (sign : ProductSign) → is_few (product_terminal sign) ≡ true
few-product_sign (mul at) = refl
few-product_sign (div at) = refl
few-product_sign (rem s at) = refl

few-sum_sign : (sign : SumSign) → is_few (sum_terminal sign) ≡ true
few-sum_sign (add at) = refl
few-sum_sign (sub at) = refl

mutual
  few-factor : (f : Factor) (m : Bool) (k : ℕ) (rest : List Marked) → Few rest → Few (spell_factor m k f rest)
  few-factor (leaf t) m k rest h = few-tree t m rest h
  few-factor (group o e) m k rest h = (λ e. refl, few-sum e false k (plain terminal.RoundClose ∷ rest) (λ e. refl, h))

  few-product : (p : Product) (m : Bool) (k : ℕ) (rest : List Marked) → Few rest → Few (spell_product m k p rest)
  few-product (one f) m k rest h = few-factor f m k rest h
  few-product (times p sign f) m k rest h =
      few-product p m k _ (λ e. few-product_sign sign, few-factor f false (more (product_ops k p)) rest h)

  few-sum : (s : Sum) (m : Bool) (k : ℕ) (rest : List Marked) → Few rest → Few (spell_sum m k s rest)
  few-sum (only p) m k rest h = few-product p m k rest h
  few-sum (plus s sign p) m k rest h = few-sum s m k _ (λ e. few-sum_sign sign, few-product p false (more (sum_ops k s)) rest h)

-- ---- items

few-sign : (sign : TermSign) → is_few (sign_terminal sign) ≡ true
few-sign Equals = refl
few-sign Same = refl
few-sign NotSame = refl

few-item : (i : ItemTree) (m : Bool) (rest : List Marked) → Few rest → Few (spell_item m i rest)
few-item (call_item (name_alone s form at)) m rest h = few-tree (call (name_alone s form at)) m rest h
few-item (call_item (with_arguments s form at o ts t)) m rest h = few-tree (call (with_arguments s form at o ts t)) m rest h
few-item (equal t sign u) m rest h =
    few-tree t m (plain (sign_terminal sign) ∷ spell false u rest) (λ e. few-sign sign, few-tree u false rest h)
few-item (assigned t s) m rest h = few-tree t m (plain terminal.Assign ∷ spell_sum false 0 s rest) (λ e. refl, few-sum s false 0 rest h)
few-item (compared s op u) m rest h =
    few-sum s m 0 (plain (terminal.Compare op) ∷ spell_sum false (sum_ops 0 s) u rest) (λ e. refl, few-sum u false (sum_ops 0 s) rest h)

few-items : (is : ItemTrees) (rest : List Marked) → Few rest → Few (spell_items is rest)
few-items no_items rest h = h
few-items (and_item is i) rest h = few-items is _ (few-item i (over_items (item_values is)) (plain terminal.Comma ∷ rest) (λ e. refl, h))

few-list : (is : ItemTrees) (i : ItemTree) (rest : List Marked) → Few rest → Few (spell_list is i rest)
few-list is i rest h = few-items is _ (few-item i (over_items (item_values is)) rest h)

-- ---- clauses and exports

few-head : (d : CallTree) (rest : List Marked) → Few rest → Few (spell_call false d rest)
few-head (name_alone s form at) rest h = few-tree (call (name_alone s form at)) false rest h
few-head (with_arguments s form at o ts t) rest h = few-tree (call (with_arguments s form at o ts t)) false rest h

few-clause : (c : ClauseTree) (rest : List Marked) → Few rest → Few (spell_clause c rest)
few-clause (fact d n) rest h = few-head d (plain (terminal.Dot n) ∷ rest) (λ e. refl, h)
few-clause (rule d is i n) rest h =
    few-head d (plain terminal.If ∷ spell_list is i (plain (terminal.Dot n) ∷ rest))
    (λ e. refl, few-list is i (plain (terminal.Dot n) ∷ rest) (λ e. refl, h))
few-clause (guarded d gs g is i n) rest h =
    few-head d (plain terminal.If ∷ spell_list gs g (plain terminal.Bar ∷ spell_list is i (plain (terminal.Dot n) ∷ rest))) (
      λ e. refl,
      few-list gs g (plain terminal.Bar ∷ spell_list is i (plain (terminal.Dot n) ∷ rest))
          (λ e. refl, few-list is i (plain (terminal.Dot n) ∷ rest) (λ e. refl, h)),
    )

few-spec : (s : SpecTree) (rest : List Marked) → Few rest → Few (spell_spec s rest)
few-spec (spec s form at d i i_at) rest h = (λ e. refl, (λ e. refl, (λ e. refl, h)))

few-specs : (es : SpecTrees) (rest : List Marked) → Few rest → Few (spell_specs es rest)
few-specs no_specs rest h = h
few-specs (and_spec es s) rest h = few-specs es _ (few-spec s (plain terminal.Comma ∷ rest) (λ e. refl, h))

few-listing : (es : Listing) (rest : List Marked) → Few rest → Few (spell_listing es rest)
few-listing nothing_listed rest h = h
few-listing (listing es s) rest h = few-specs es _ (few-spec s rest h)

-- ---- modules

-- an unknown attribute leaves its place
no-unknown : (P : Type 0) (o : Option ℕ) (dash : ℕ) → is_none (first o dash) ≡ true → P
no-unknown P None dash h = absurd (cc)
no-unknown P (Some k) dash h = absurd (cc)

few-module : (m : ModuleTree) (rest : List Marked) → is_none (module_value m).other ≡ true → Few rest → Few (spell_module m rest)
few-module empty rest g h = h
few-module (and_clause m c) rest g h = few-module m _ g (few-clause c rest h)
few-module (and_attribute m (module_name o b s form at n)) rest g h =
    few-module m _ g (λ e. refl, (λ e. refl, (λ e. refl, (λ e. refl, (λ e. refl, (λ e. refl, h))))))
few-module (and_attribute m (export_list o b q es n)) rest g h =
    few-module m _ g (
      λ e. refl,
      (
        λ e. refl,
        (
          λ e. refl,
          (
            λ e. refl,
            few-listing es (plain terminal.SquareClose ∷ plain terminal.RoundClose ∷ plain (terminal.Dot n) ∷ rest)
                (λ e. refl, (λ e. refl, (λ e. refl, h))),
          ),
        ),
      ),
    )
few-module (and_attribute m (unknown o form ws n)) rest g h = no-unknown _ (module_value m).other o.dash g

-- a text with no unknown attribute has at most 250 variables in each clause
pub read-few : (tree : ModuleTree) (ws : List Terminal) → spell_module_text tree ≡ clean ws [] → is_none (module_value tree).other ≡ true
    → are_few ws ≡ true
read-few tree ws e g = few-clean ws (subst Few e (few-module tree [] g tt))
