-- The texts of items and of lists of items.
use Rattle.std.specs.Prelude.{List, [], ◌∷◌, ◌++◌, map, codes}
use Rattle.fcp_model.specs.declared.names.Sym.{Sym}
use Rattle.fcp_model.specs.declared.term.Term.{Term}
use Rattle.fcp_model.specs.declared.term.CompareOp.{CompareOp}
use Rattle.fcp_model.specs.declared.term.CompareOp.TheVariants.{Less, AtMost, Greater, AtLeast, Equal, NotEqual}
use Rattle.fcp_model.specs.declared.source.Call.{Call}
use Rattle.fcp_model.specs.declared.source.Call.TheVariants.{User, Unify, Assign, Same, NotSame, Compare}
use Rattle.fcp_model.specs.declared.source.Item.{Item}
use Rattle.fcp_model.specs.Spelling.{Bytes, string_text, name_at}
use Rattle.fcp_text.specs.SourceTerms.{parted, term_text, terms_text}
use Rattle.fcp_text.specs.SourceExpressions.{expr_text}

-- a comparison's sign, with a space on each side
abbrev pub comparison_text : CompareOp → Bytes
comparison_text Less = codes " < "
comparison_text AtMost = codes " =< "
comparison_text Greater = codes " > "
comparison_text AtLeast = codes " >= "
comparison_text Equal = codes " =:= "
comparison_text NotEqual = codes " =\\= "

module _ (names : List Bytes) where
  -- the string of a number
  abbrev pub name_text : Sym → Bytes
  name_text s = string_text (name_at names s.0)

  -- arguments stand in parentheses, and where there are none nothing stands
  abbrev pub arguments_text : List Term → Bytes
  arguments_text [] = []
  arguments_text (t ∷ ts) = codes "(" ++ terms_text names (t ∷ ts) ++ codes ")"

  -- a name with its arguments
  abbrev pub named_text : Sym → List Term → Bytes
  named_text name args = name_text name ++ arguments_text args

  -- what an item says
  abbrev pub call_text : Call → Bytes
  call_text (User name args) = named_text name args
  call_text (Unify a b) = term_text names a ++ (codes " = " ++ term_text names b)
  call_text (Assign a e) = term_text names a ++ (codes " := " ++ expr_text names e)
  call_text (Same a b) = term_text names a ++ (codes " == " ++ term_text names b)
  call_text (NotSame a b) = term_text names a ++ (codes " \\== " ++ term_text names b)
  call_text (Compare op d e) = expr_text names d ++ (comparison_text op ++ expr_text names e)

  abbrev pub item_text : Item → Bytes
  item_text i = call_text i.call

  -- items, with a comma and a space between them
  abbrev pub items_text : List Item → Bytes
  items_text is = parted (codes ", ") (map item_text is)
