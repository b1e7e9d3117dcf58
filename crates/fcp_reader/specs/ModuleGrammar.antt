-- Believed: the grammar of modules, clauses and attributes in any order.
use Rattle.std.specs.Prelude.{List, []}
use Rattle.fcp_model.specs.declared.source.Module.{Module}
use Rattle.fcp_grammar.specs.Grammar.{Marked}
use Rattle.fcp_reader.specs.ModuleValues.{nothing, with_clause, with_said}
use Rattle.fcp_reader.specs.AttributeGrammar.{AttributeTree, dash_of, said_of, spell_attribute}
use Rattle.fcp_reader.specs.ClauseGrammar.{ClauseTree, clause_value, spell_clause}

-- clauses and attributes, from the left
pub data ModuleTree : Type 0 where
  empty : ModuleTree
  and_clause : (front : ModuleTree) (c : ClauseTree) → ModuleTree
  and_attribute : (front : ModuleTree) (a : AttributeTree) → ModuleTree

-- its value
abbrev pub module_value : ModuleTree → Module
module_value empty = nothing
module_value (and_clause m c) = with_clause (module_value m) (clause_value c)
module_value (and_attribute m a) = with_said (module_value m) (dash_of a) (said_of a)

-- its terminals, and then the rest
abbrev pub spell_module : ModuleTree → List Marked → List Marked
spell_module empty rest = rest
spell_module (and_clause m c) rest = spell_module m (spell_clause c rest)
spell_module (and_attribute m a) rest = spell_module m (spell_attribute a rest)

-- the terminals of a whole text
abbrev pub spell_module_text : ModuleTree → List Marked
spell_module_text m = spell_module m []
