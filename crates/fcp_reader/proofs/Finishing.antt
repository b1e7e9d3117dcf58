-- Whatever was read so far of a module or a goal can be completed.
use Rattle.std.proofs.Common.{◌≡◌, List, [], ◌∷◌, refl, ap, Bool, false, ℕ, pos}
use Rattle.fcp_model.specs.declared.names.Sym.{Sym}
use Rattle.fcp_model.specs.declared.term.ArithOp.TheVariants.{Div}
use Rattle.fcp_grammar.specs.declared.sides.TermSign.TheVariants.{Equals}
use Rattle.fcp_grammar.specs.declared.terminals.StringForm.TheVariants as F
use Rattle.fcp_grammar.specs.declared.terminals.Terminal.TheVariants as terminal
use Rattle.fcp_grammar.specs.Terms.{over}
use Rattle.fcp_grammar.specs.Grammar.{Marked, int, values, plain, CallTree, name_alone, with_arguments}
use Rattle.fcp_grammar.specs.ItemGrammar as G
use Rattle.fcp_grammar.specs.ItemGrammar.{ItemTrees, item_values, spell_items, over_items}
use Rattle.fcp_grammar.proofs.PartialItems.{item_so_far}
use Rattle.fcp_grammar.proofs.Complete.{Simple, done, dot, zero, round, square, equals, open_round, open_square, slash, FinishedItem, finish-term, finish-item}
use Rattle.fcp_reader.specs.AttributeGrammar.{spec, listing, nothing_listed, any_name, no_terminals, AttributeTree, module_name, export_list, unknown, spell_attribute}
use Rattle.fcp_reader.specs.ClauseGrammar.{fact, rule, guarded}
use Rattle.fcp_reader.specs.ModuleGrammar.{ModuleTree, and_clause, and_attribute, spell_module, spell_module_text}
use Rattle.fcp_reader.specs.GoalGrammar.{bare_goal, dotted_goal, spell_goal_text}
use Rattle.fcp_reader.proofs.Completions.{Completion, simple, string, open_string, FinishedText}
use Rattle.fcp_reader.proofs.PartialAttributes.{PartAttribute, dash_part, name_open, name_name, name_close, name_end, list_open, list_square, list_first, list_next, list_slash, list_arity, list_more, list_close, list_end, other, part_terminals}
use Rattle.fcp_reader.proofs.PartialClauses.{PartClause, no_clause, in_dash, head_name, head_args, head_called, starting, in_item, GuardPart, no_guard, guard_of, terminals_of, terminals_body, terminals_args}
use Rattle.fcp_reader.proofs.PartialGoals as P
use Rattle.fcp_reader.proofs.PartialGoals.{PartGoal, dotted}

-- the item that is put where one is wanted: 0 = 0
start-item : (m : Bool) → FinishedItem m (λ rest. rest)
start-item m = record {
  tree = G.equal (int (pos 0) 0) Equals (int (pos 0) 0);
  close = λ rest. (terminal.Int (pos 0) 0, m) ∷ plain terminal.Equals ∷ (terminal.Int (pos 0) 0, false) ∷ rest;
  simple =
      λ k rest x. zero m (plain terminal.Equals ∷ (terminal.Int (pos 0) 0, false) ∷ rest)
      (equals ((terminal.Int (pos 0) 0, false) ∷ rest) (zero false rest x));
  terminals = λ rest. refl;
}

module _ (k : ℕ) (s : Sym) where
  -- ---- goals

  finish-items : (is : ItemTrees) (front : List Marked → List Marked) → FinishedItem (over_items (item_values is)) front
      → FinishedText spell_goal_text k s (λ rest. spell_items is (front rest))
  finish-items is front r =
      record {
        tree = bare_goal is r.tree;
        close = r.close [];
        completes = simple (r.close []) (r.simple k [] done);
        terminals = ap (spell_items is) (r.terminals []);
      }

  pub finish-goal : (p : PartGoal) → FinishedText spell_goal_text k s (P.terminals_of p)
  finish-goal (P.starting is) = finish-items is (λ rest. rest) (start-item (over_items (item_values is)))
  finish-goal (P.in_item is a part b) =
      finish-items is (item_so_far (over_items (item_values is)) part) (finish-item (over_items (item_values is)) part)
  finish-goal (dotted is i n) = record { tree = dotted_goal is i n; close = []; completes = simple [] done; terminals = refl }

  -- ---- attributes

  abbrev end_terminals : List Marked
  end_terminals = plain (terminal.Dot k) ∷ []

  abbrev round_terminals : List Marked
  round_terminals = plain terminal.RoundClose ∷ end_terminals

  abbrev square_terminals : List Marked
  square_terminals = plain terminal.SquareClose ∷ round_terminals

  abbrev zero_terminals : List Marked
  zero_terminals = (terminal.Int (pos 0) 0, false) ∷ square_terminals

  abbrev slash_terminals : List Marked
  slash_terminals = plain (terminal.Operator Div 0) ∷ zero_terminals

  round-simple : Simple k round_terminals
  round-simple = round end_terminals dot

  square-simple : Simple k square_terminals
  square-simple = square round_terminals round-simple

  zero-simple : Simple k zero_terminals
  zero-simple = zero false square_terminals square-simple

  slash-simple : Simple k slash_terminals
  slash-simple = slash zero_terminals zero-simple

  pub record FinishedAttribute (p : PartAttribute) : Type 0 where
    pub tree : AttributeTree
    pub close : List Marked
    pub completes : Completion k s close
    pub terminals : part_terminals p close ≡ spell_attribute tree []

  by : (p : PartAttribute) (tree : AttributeTree) (close : List Marked) → Completion k s close
      → part_terminals p close ≡ spell_attribute tree [] → FinishedAttribute p
  by p tree close c e = record { tree = tree; close = close; completes = c; terminals = e }

  finish-attribute : (p : PartAttribute) → FinishedAttribute p
  finish-attribute (dash_part d) =
      by (dash_part d) (unknown (record { dash = d; name = s; at = 0 }) any_name no_terminals k) _ (string end_terminals dot) refl
  finish-attribute (name_open o) = by (name_open o) (module_name o 0 s F.Name 0 k) _ (open_string round_terminals round-simple) refl
  finish-attribute (name_name o b) = by (name_name o b) (module_name o b s F.Name 0 k) _ (string round_terminals round-simple) refl
  finish-attribute (name_close o b x form at) =
      by (name_close o b x form at) (module_name o b x form at k) _ (simple round_terminals round-simple) refl
  finish-attribute (name_end o b x form at) = by (name_end o b x form at) (module_name o b x form at k) _ (simple end_terminals dot) refl
  finish-attribute (list_open o) =
      by (list_open o) (export_list o 0 0 nothing_listed k) _ (simple _ (open_round _ (open_square square_terminals square-simple))) refl
  finish-attribute (list_square o b) =
      by (list_square o b) (export_list o b 0 nothing_listed k) _ (simple _ (open_square square_terminals square-simple)) refl
  finish-attribute (list_first o b q) =
      by (list_first o b q) (export_list o b q nothing_listed k) _ (simple square_terminals square-simple) refl
  finish-attribute (list_next o b q es) =
      by (list_next o b q es) (export_list o b q (listing es (spec s F.Name 0 0 (pos 0) 0)) k) _ (string slash_terminals slash-simple) refl
  finish-attribute (list_slash o b q es x form at) =
      by (list_slash o b q es x form at) (export_list o b q (listing es (spec x form at 0 (pos 0) 0)) k) _
      (simple slash_terminals slash-simple) refl
  finish-attribute (list_arity o b q es x form at d) =
      by (list_arity o b q es x form at d) (export_list o b q (listing es (spec x form at d (pos 0) 0)) k) _
      (simple zero_terminals zero-simple) refl
  finish-attribute (list_more o b q es e) =
      by (list_more o b q es e) (export_list o b q (listing es e) k) _ (simple square_terminals square-simple) refl
  finish-attribute (list_close o b q es) = by (list_close o b q es) (export_list o b q es k) _ (simple round_terminals round-simple) refl
  finish-attribute (list_end o b q es) = by (list_end o b q es) (export_list o b q es k) _ (simple end_terminals dot) refl
  finish-attribute (other o form ws) = by (other o form ws) (unknown o form ws k) _ (simple end_terminals dot) refl

  -- ---- modules

  abbrev FinishedModule : (List Marked → List Marked) → Type 0
  FinishedModule = FinishedText spell_module_text k s

  finish-body : (m : ModuleTree) (h : CallTree) (g : GuardPart) (is : ItemTrees) (front : List Marked → List Marked)
      → FinishedItem (over_items (item_values is)) front → FinishedModule (λ rest. terminals_body m h g is (front rest))
  finish-body m h no_guard is front r =
      record {
        tree = and_clause m (rule h is r.tree k);
        close = r.close end_terminals;
        completes = simple (r.close end_terminals) (r.simple k end_terminals dot);
        terminals = ap (terminals_body m h no_guard is) (r.terminals end_terminals);
      }
  finish-body m h (guard_of gs g) is front r =
      record {
        tree = and_clause m (guarded h gs g is r.tree k);
        close = r.close end_terminals;
        completes = simple (r.close end_terminals) (r.simple k end_terminals dot);
        terminals = ap (terminals_body m h (guard_of gs g) is) (r.terminals end_terminals);
      }

  pub finish-module : (m : ModuleTree) (part : PartClause) → FinishedModule (terminals_of m part)
  finish-module m no_clause = record { tree = m; close = []; completes = simple [] done; terminals = refl }
  finish-module m (in_dash p) =
      let r = finish-attribute p in record {
        tree = and_attribute m r.tree;
        close = r.close;
        completes = r.completes;
        terminals = ap (spell_module m) r.terminals;
      }
  finish-module m (head_name x form a) =
      record {
        tree = and_clause m (fact (name_alone x form a) k);
        close = end_terminals;
        completes = simple end_terminals dot;
        terminals = refl;
      }
  finish-module m (head_args x form a o ts ps last) =
      let r = finish-term (over (values ts)) ps last in
      record {
        tree = and_clause m (fact (with_arguments x form a o ts r.tree) k);
        close = r.close round_terminals;
        completes = simple (r.close round_terminals) (r.simple k round_terminals round-simple);
        terminals = ap (terminals_args m x form a o ts) (r.terminals round_terminals);
      }
  finish-module m (head_called x form a o ts t) =
      record {
        tree = and_clause m (fact (with_arguments x form a o ts t) k);
        close = end_terminals;
        completes = simple end_terminals dot;
        terminals = refl;
      }
  finish-module m (starting h g is) = finish-body m h g is (λ rest. rest) (start-item (over_items (item_values is)))
  finish-module m (in_item h g is a part b) =
      finish-body m h g is (item_so_far (over_items (item_values is)) part) (finish-item (over_items (item_values is)) part)
