-- Clauses and modules whose terminals are bounded are within the limits.
use Rattle.std.proofs.Common.{◌≡◌, ◌≤◌, ◌<◌, ◌+◌, ℕ, List, [], ◌∷◌, ◌++◌, length, Option, Some, None, true, false, ◌&&◌, refl, sym, subst, arith, length-append, nat_le}
use Rattle.std.specs.List.{list_all}
use Rattle.std.proofs.lemmas.Bool.{and_from, le-leb}
use Rattle.fcp_model.specs.declared.source.Clause.{Clause}
use Rattle.fcp_model.specs.declared.source.Item.{Item}
use Rattle.fcp_model.specs.declared.source.Module.{Module}
use Rattle.fcp_grammar.specs.declared.terminals.Terminal.{Terminal}
use Rattle.fcp_grammar.specs.declared.terminals.Terminal.TheVariants as terminal
use Rattle.fcp_grammar.specs.Grammar.{Marked, plain, CallTree, name_alone, with_arguments, spell_call}
use Rattle.fcp_grammar.specs.ItemGrammar.{item_value, item_values, spell_list}
use Rattle.fcp_terminals.specs.declared.variables.Form.{Form}
use Rattle.fcp_terminals.specs.declared.variables.Form.TheVariants as text
use Rattle.fcp_reader.specs.declared.attributes.Said.{Said}
use Rattle.fcp_reader.specs.declared.attributes.Said.TheVariants as Says
use Rattle.fcp_reader.specs.declared.state.Head.{Head}
use Rattle.fcp_reader.specs.ModuleValues.{or_empty, clause_of, with_said}
use Rattle.fcp_reader.specs.AttributeGrammar.{SpecTrees, spec, no_specs, and_spec, spell_spec, spell_specs, Listing, nothing_listed, listing, spell_listing, is_dot, AnyTerminals, no_terminals, and_terminal, spell_any, AttributeTree, module_name, export_list, unknown, dash_of, said_of, spell_attribute}
use Rattle.fcp_reader.specs.ClauseGrammar.{head_value, ClauseTree, fact, rule, guarded, clause_value, spell_clause}
use Rattle.fcp_reader.specs.ModuleGrammar.{ModuleTree, empty, and_clause, and_attribute, module_value, spell_module}
use Rattle.fcp_reader.specs.Limits.{are_args_within, are_items_within, is_clause_within, is_module_within}
use Rattle.fcp_reader.proofs.Bounded.{TerminalBounded, Bounded}
use Rattle.fcp_reader.proofs.TermLimits.{all-more, show-call}
use Rattle.fcp_reader.proofs.ItemLimits.{show-list}

-- ---- clauses

clause-within : (h : Head) (guard : Option (List Item)) (body : List Item) (k v : ℕ) → k ≡ v → v ≤ 250
    → are_args_within v h.args ≡ true → are_items_within v (or_empty guard) ≡ true → are_items_within v body ≡ true
    → is_clause_within (clause_of h guard body k) ≡ true
clause-within h guard body k v same few args guards items =
    let fewer : k ≤ 250 = omega arith in
    let args' : are_args_within k h.args ≡ true = subst (λ x. are_args_within x h.args ≡ true) (sym same) args in
    let guards' : are_items_within k (or_empty guard) ≡ true = subst (λ x. are_items_within x (or_empty guard) ≡ true) (sym same) guards in
    let items' : are_items_within k body ≡ true = subst (λ x. are_items_within x body ≡ true) (sym same) items in
    and_from (nat_le k 250 && are_args_within k h.args && are_items_within k (or_empty guard)) (are_items_within k body)
    (and_from (nat_le k 250 && are_args_within k h.args) (are_items_within k (or_empty guard))
    (and_from (nat_le k 250) (are_args_within k h.args) (le-leb k 250 fewer) args')
    guards')
    items'

-- what the terminals behind a `.` of a module say, of which at most b were to come
abbrev pub Behind : ℕ → ℕ → List Marked → Type 0
Behind n b rest = (u : ℕ) × (c : ℕ) × (c < b) × Bounded text.Module n u c rest

show-head : (f : Form) (n v b : ℕ) (h : CallTree) (rest : List Marked) → Bounded f n v b (spell_call false h rest)
    → (are_args_within v (head_value h).args ≡ true) × Bounded f n v b rest
show-head f n v b (name_alone s form at) rest x = (refl, x.1)
show-head f n v b (with_arguments s form at o ts t) rest x = let r = show-call f n v b false s form at o ts t rest x in (r.within, r.behind)

module _ (n v b : ℕ) where
  pub show-clause : (c : ClauseTree) (rest : List Marked) → Bounded text.Module n v b (spell_clause c rest)
      → (is_clause_within (clause_value c) ≡ true) × Behind n b rest
  show-clause (fact h k) rest x =
      let behind : List Marked = plain (terminal.Dot k) ∷ rest in
      let head : (are_args_within v (head_value h).args ≡ true) × Bounded text.Module n v b behind =
      show-head text.Module n v b h behind x in
      (clause-within (head_value h) None [] k v head.1.0 head.1.1 head.0 refl refl, head.1.2)
  show-clause (rule h is i k) rest x =
      let behind : List Marked = plain (terminal.Dot k) ∷ rest in
      let body : List Item = item_values is ++ item_value i ∷ [] in
      let head : (are_args_within v (head_value h).args ≡ true) × Bounded text.Module n v b (plain terminal.If ∷ spell_list is i behind) =
      show-head text.Module n v b h (plain terminal.If ∷ spell_list is i behind) x in
      let items : (are_items_within v body ≡ true) × Bounded text.Module n v b behind = show-list text.Module n v b is i behind head.1.1 in
      (clause-within (head_value h) None body k v items.1.0 items.1.1 head.0 refl items.0, items.1.2)
  show-clause (guarded h gs g is i k) rest x =
      let behind : List Marked = plain (terminal.Dot k) ∷ rest in
      let body : List Item = item_values is ++ item_value i ∷ [] in
      let guard : List Item = item_values gs ++ item_value g ∷ [] in
      let after : List Marked = plain terminal.Bar ∷ spell_list is i behind in
      let head : (are_args_within v (head_value h).args ≡ true) × Bounded text.Module n v b (plain terminal.If ∷ spell_list gs g after) =
      show-head text.Module n v b h (plain terminal.If ∷ spell_list gs g after) x in
      let guards : (are_items_within v guard ≡ true) × Bounded text.Module n v b after = show-list text.Module n v b gs g after head.1.1 in
      let items : (are_items_within v body ≡ true) × Bounded text.Module n v b behind =
      show-list text.Module n v b is i behind guards.1.1 in
      (clause-within (head_value h) (Some guard) body k v items.1.0 items.1.1 head.0 guards.0 items.0, items.1.2)

  -- ---- attributes

  behind-specs : (es : SpecTrees) (rest : List Marked) → Bounded text.Module n v b (spell_specs es rest) → Bounded text.Module n v b rest
  behind-specs no_specs rest x = x
  behind-specs (and_spec es (spec s form at d k i)) rest x =
      let r : Bounded text.Module n v b (spell_spec (spec s form at d k i) (plain terminal.Comma ∷ rest)) =
      behind-specs es (spell_spec (spec s form at d k i) (plain terminal.Comma ∷ rest)) x in
      r.1.1.1.1

  behind-listing : (es : Listing) (rest : List Marked) → Bounded text.Module n v b (spell_listing es rest) → Bounded text.Module n v b rest
  behind-listing nothing_listed rest x = x
  behind-listing (listing es (spec s form at d k i)) rest x =
      let r : Bounded text.Module n v b (spell_spec (spec s form at d k i) rest) =
      behind-specs es (spell_spec (spec s form at d k i) rest) x in
      r.1.1.1

  behind-terminal : (next : ℕ → ℕ → Type 0) (w : Terminal) → is_dot w ≡ false → TerminalBounded text.Module next v b w false → next v b
  behind-terminal next (terminal.Var k at) d x = x.3
  behind-terminal next (terminal.Dot k) d x = absurd (cc)
  behind-terminal next _ d x = x.1

  behind-any : (ws : AnyTerminals) (rest : List Marked) → Bounded text.Module n v b (spell_any ws rest) → Bounded text.Module n v b rest
  behind-any no_terminals rest x = x
  behind-any (and_terminal ws w d) rest x = behind-terminal (λ u c. Bounded text.Module n u c rest) w d (behind-any ws (plain w ∷ rest) x)

  behind-attribute : (a : AttributeTree) (rest : List Marked) → Bounded text.Module n v b (spell_attribute a rest) → Behind n b rest
  behind-attribute (module_name o p s form at k) rest x = x.1.1.1.1.1.2
  behind-attribute (export_list o p q es k) rest x =
      let r : Bounded text.Module n v b (plain terminal.SquareClose ∷ plain terminal.RoundClose ∷ plain (terminal.Dot k) ∷ rest)
      = behind-listing es (plain terminal.SquareClose ∷ plain terminal.RoundClose ∷ plain (terminal.Dot k) ∷ rest) x.1.1.1.1 in
      r.1.1.2
  behind-attribute (unknown o form ws k) rest x =
      let r : Bounded text.Module n v b (plain (terminal.Dot k) ∷ rest) = behind-any ws (plain (terminal.Dot k) ∷ rest) x.1.1 in
      r.2

-- ---- modules

-- an attribute leaves the clauses
same-clauses : (m : Module) (dash : ℕ) (s : Said) → (with_said m dash s).clauses ≡ m.clauses
same-clauses m dash (Says.Name s) = refl
same-clauses m dash (Says.List es) = refl
same-clauses m dash Says.Unknown = refl

-- Some of the terminals were `.`: one or more for each clause.
pub record ShownModule (n b : ℕ) (m : Module) (rest : List Marked) : Type 0 where
  pub within : is_module_within m ≡ true
  pub bound : ℕ
  pub dots : ℕ
  pub few : length m.clauses + dots ≤ b
  pub behind : Bounded text.Module n bound dots rest

pub show-module : (n v b : ℕ) (m : ModuleTree) (rest : List Marked) → Bounded text.Module n v b (spell_module m rest)
    → ShownModule n b (module_value m) rest
show-module n v b empty rest x = record { within = refl; bound = v; dots = b; few = omega arith; behind = x }
show-module n v b (and_clause m c) rest x =
    let front : ShownModule n b (module_value m) (spell_clause c rest) = show-module n v b m (spell_clause c rest) x in
    let last : (is_clause_within (clause_value c) ≡ true) × Behind n front.dots rest =
    show-clause n front.bound front.dots c rest front.behind in
    let behind : Behind n front.dots rest = last.1 in
    let fewer : behind.1 < front.dots = behind.2 in
    let few : length (module_value m).clauses + front.dots ≤ b = front.few in
    let long : length ((module_value m).clauses ++ clause_value c ∷ []) ≡ length (module_value m).clauses + 1 =
    length-append (module_value m).clauses (clause_value c ∷ []) in
    let all : length ((module_value m).clauses ++ clause_value c ∷ []) + behind.1 ≤ b = omega arith in
    record {
      within = all-more is_clause_within (module_value m).clauses (clause_value c) front.within last.0;
      bound = behind.0;
      dots = behind.1;
      few = all;
      behind = behind.3;
    }
show-module n v b (and_attribute m a) rest x =
    let front : ShownModule n b (module_value m) (spell_attribute a rest) = show-module n v b m (spell_attribute a rest) x in
    let behind : Behind n front.dots rest = behind-attribute n front.bound front.dots a rest front.behind in
    let fewer : behind.1 < front.dots = behind.2 in
    let few : length (module_value m).clauses + front.dots ≤ b = front.few in
    let all : length (module_value m).clauses + behind.1 ≤ b = omega arith in
    let same : (with_said (module_value m) (dash_of a) (said_of a)).clauses ≡ (module_value m).clauses =
    same-clauses (module_value m) (dash_of a) (said_of a) in
    record {
      within = subst (λ (cs : List Clause). list_all is_clause_within cs ≡ true) (sym same) front.within;
      bound = behind.0;
      dots = behind.1;
      few = subst (λ (cs : List Clause). length cs + behind.1 ≤ b) (sym same) all;
      behind = behind.3;
    }
