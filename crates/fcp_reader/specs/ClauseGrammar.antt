-- Believed: the grammar of clauses: its trees, the terminals that each spells, and its value.
use Rattle.std.specs.Prelude.{ℕ, List, [], ◌∷◌, ◌++◌, false, Some, None}
use Rattle.fcp_model.specs.declared.source.Clause.{Clause}
use Rattle.fcp_grammar.specs.declared.terminals.Terminal.TheVariants as terminal
use Rattle.fcp_reader.specs.declared.state.Head.{Head}
use Rattle.fcp_reader.specs.ModuleValues.{head_of, clause_of}
use Rattle.fcp_grammar.specs.Grammar.{Marked, CallTree, call_place, call_name, call_arguments, plain, spell_call}
use Rattle.fcp_grammar.specs.ItemGrammar.{ItemTree, ItemTrees, item_value, item_values, spell_list}

-- the head that a call is
abbrev pub head_value : CallTree → Head
head_value c = head_of (call_place c) (call_name c) (call_arguments c)

-- A head alone, with a body, or with a guard and a body. `vars` is the number of the clause's variables, which its last
-- terminal has.
pub data ClauseTree : Type 0 where
  fact : (h : CallTree) (vars : ℕ) → ClauseTree
  rule : (h : CallTree) (front : ItemTrees) (last : ItemTree) (vars : ℕ) → ClauseTree
  guarded : (h : CallTree) (guards : ItemTrees) (guard : ItemTree) (front : ItemTrees) (last : ItemTree) (vars : ℕ) → ClauseTree

-- its value
abbrev pub clause_value : ClauseTree → Clause
clause_value (fact h n) = clause_of (head_value h) None [] n
clause_value (rule h is i n) = clause_of (head_value h) None (item_values is ++ item_value i ∷ []) n
clause_value (guarded h gs g is i n) =
    clause_of (head_value h) (Some (item_values gs ++ item_value g ∷ [])) (item_values is ++ item_value i ∷ []) n

-- its terminals, and then the rest
abbrev pub spell_clause : ClauseTree → List Marked → List Marked
spell_clause (fact h n) rest = spell_call false h (plain (terminal.Dot n) ∷ rest)
spell_clause (rule h is i n) rest = spell_call false h (plain terminal.If ∷ spell_list is i (plain (terminal.Dot n) ∷ rest))
spell_clause (guarded h gs g is i n) rest =
    spell_call false h (plain terminal.If ∷ spell_list gs g (plain terminal.Bar ∷ spell_list is i (plain (terminal.Dot n) ∷ rest)))
