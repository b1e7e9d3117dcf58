-- The texts of clauses and of modules.
use Rattle.std.specs.Prelude.{List, [], ◌∷◌, ◌++◌, map, Option, Some, None, codes, decimal}
use Rattle.fcp_model.specs.declared.names.Sym.{Sym}
use Rattle.fcp_model.specs.declared.source.Item.{Item}
use Rattle.fcp_model.specs.declared.source.Clause.{Clause}
use Rattle.fcp_model.specs.declared.source.Export.{Export}
use Rattle.fcp_model.specs.declared.source.Module.{Module}
use Rattle.fcp_model.specs.Spelling.{Bytes}
use Rattle.fcp_text.specs.SourceTerms.{parted}
use Rattle.fcp_text.specs.SourceItems.{name_text, named_text, items_text}

module _ (names : List Bytes) where
  -- what stands behind a clause's head: nothing, a body, or a guard and a body
  abbrev pub tail_text : List Item → List Item → Bytes
  tail_text [] [] = []
  tail_text [] (i ∷ is) = codes " :- " ++ items_text names (i ∷ is)
  tail_text (g ∷ gs) body = codes " :- " ++ (items_text names (g ∷ gs) ++ (codes " | " ++ items_text names body))

  abbrev pub clause_text : Clause → Bytes
  clause_text c = named_text names c.head c.args ++ (tail_text c.guard c.body ++ codes ".")

  -- one line for each clause
  abbrev pub clauses_text : List Clause → Bytes
  clauses_text [] = []
  clauses_text (c ∷ cs) = clause_text c ++ (codes "\n" ++ clauses_text cs)

  -- a procedure in a list of exports: its name and its number of arguments
  abbrev pub export_text : Export → Bytes
  export_text e = name_text names e.name ++ (codes "/" ++ decimal e.arity)

  -- the line of the module's name, where it has one
  abbrev pub name_line : Option Sym → Bytes
  name_line None = []
  name_line (Some s) = codes "-module(" ++ name_text names s ++ codes ").\n"

  -- the line of the exports, where they are listed
  abbrev pub exports_line : Option (List Export) → Bytes
  exports_line None = []
  exports_line (Some es) = codes "-export([" ++ parted (codes ",") (map export_text es) ++ codes "]).\n"

  -- the text of a module, line by line
  abbrev pub module_text : Module → Bytes
  module_text m = name_line m.name ++ (exports_line m.exports ++ clauses_text m.clauses)
