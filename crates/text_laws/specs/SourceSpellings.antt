-- The pieces of the texts of expressions, items, clauses and modules.
use Rattle.std.specs.Prelude.{List, [], ◌∷◌, map, Option, Some, None, codes, pos}
use Rattle.fcp_model.specs.declared.names.Sym.{Sym}
use Rattle.fcp_model.specs.declared.term.Term.{Term}
use Rattle.fcp_model.specs.declared.term.ArithOp.{ArithOp}
use Rattle.fcp_model.specs.declared.term.ArithOp.TheVariants.{Add, Sub, Mul, Div, Mod}
use Rattle.fcp_model.specs.declared.term.CompareOp.{CompareOp}
use Rattle.fcp_model.specs.declared.term.CompareOp.TheVariants.{Less, AtMost, Greater, AtLeast, Equal, NotEqual}
use Rattle.fcp_model.specs.declared.term.Expr.{Expr, fold-Expr}
use Rattle.fcp_model.specs.declared.term.Expr.TheOpen.{Expr-F}
use Rattle.fcp_model.specs.declared.source.Call.{Call}
use Rattle.fcp_model.specs.declared.source.Call.TheVariants.{User, Unify, Assign, Same, NotSame, Compare}
use Rattle.fcp_model.specs.declared.source.Item.{Item}
use Rattle.fcp_model.specs.declared.source.Clause.{Clause}
use Rattle.fcp_model.specs.declared.source.Export.{Export}
use Rattle.fcp_model.specs.declared.source.Module.{Module}
use Rattle.fcp_model.specs.Spelling.{name_at}
use Rattle.fcp_text.specs.Bytes.{Text}
use Rattle.text_laws.specs.Spellings.{Spelling, string, number, mark, space, line_feed}
use Rattle.text_laws.specs.TermSpellings.{Writing, parted_by, comma, term_spellings, terms_spellings}
use Rattle.fcp_text.specs.Signs as signs

-- a piece with a space on each side
abbrev pub spaced : Spelling → Writing
spaced p ps = space ∷ p ∷ space ∷ ps

-- an operator of an expression
abbrev pub spelled_operator : ArithOp → Writing
spelled_operator Add = spaced (mark signs.plus)
spelled_operator Sub = spaced (mark signs.minus)
spelled_operator Mul = spaced (mark signs.times)
spelled_operator Div = spaced (mark signs.divide)
spelled_operator Mod = spaced (string (codes "mod"))

-- an expression where it stands alone, and where it is an operand
pub record ExprSpelling : Type 0 where
  pub alone : Writing
  pub as_operand : Writing

-- an operation; as an operand it stands in parentheses
abbrev pub spelled_operation : Writing → ExprSpelling
spelled_operation w = record { alone = w; as_operand = λ ps. mark signs.round_open ∷ w (mark signs.round_close ∷ ps) }

-- the sign of a comparison
abbrev pub spelled_comparison : CompareOp → Writing
spelled_comparison Less = spaced (mark signs.less)
spelled_comparison AtMost = spaced (mark signs.at_most)
spelled_comparison Greater = spaced (mark signs.greater)
spelled_comparison AtLeast = spaced (mark signs.at_least)
spelled_comparison Equal = spaced (mark signs.equal)
spelled_comparison NotEqual = spaced (mark signs.not_equal)

-- what stands between items
abbrev pub comma_space : Writing
comma_space ps = mark signs.comma ∷ space ∷ ps

-- the end of a line of the module's name or of its exports
abbrev pub closing_line : Writing
closing_line ps = mark signs.round_close ∷ mark signs.dot ∷ line_feed ∷ ps

module _ (names : List Text) where
  -- one level of an expression, from its operands
  abbrev pub spelled_expr_step : Expr-F ExprSpelling → ExprSpelling
  spelled_expr_step (Expr-F.Leaf t at) = record { alone = term_spellings names t; as_operand = term_spellings names t }
  spelled_expr_step (Expr-F.Op op left right) = spelled_operation (λ ps. left.as_operand (spelled_operator op (right.as_operand ps)))

  -- an expression, alone and as an operand
  abbrev pub expr_spelling : Expr → ExprSpelling
  expr_spelling = fold-Expr ExprSpelling spelled_expr_step

  -- an expression, alone
  unfoldable pub expr_spellings : Expr → Writing
  expr_spellings e = (expr_spelling e).alone

  -- the string of a number
  abbrev pub spelled_name : Sym → Writing
  spelled_name s ps = string (name_at names s.0) ∷ ps

  -- arguments stand in parentheses, and where there are none nothing stands
  abbrev pub spelled_arguments : List Term → Writing
  spelled_arguments [] ps = ps
  spelled_arguments (t ∷ ts) ps = mark signs.round_open ∷ terms_spellings names (t ∷ ts) (mark signs.round_close ∷ ps)

  -- a name with its arguments
  abbrev pub spelled_named : Sym → List Term → Writing
  spelled_named name args ps = spelled_name name (spelled_arguments args ps)

  -- what an item says
  abbrev pub spelled_item_call : Call → Writing
  spelled_item_call (User name args) ps = spelled_named name args ps
  spelled_item_call (Unify a b) ps = term_spellings names a (spaced (mark signs.equals) (term_spellings names b ps))
  spelled_item_call (Assign a e) ps = term_spellings names a (spaced (mark signs.assign) (expr_spellings e ps))
  spelled_item_call (Same a b) ps = term_spellings names a (spaced (mark signs.same) (term_spellings names b ps))
  spelled_item_call (NotSame a b) ps = term_spellings names a (spaced (mark signs.not_same) (term_spellings names b ps))
  spelled_item_call (Compare op d e) ps = expr_spellings d (spelled_comparison op (expr_spellings e ps))

  -- items, with a comma and a space between them
  abbrev pub spelled_items : List Item → Writing
  spelled_items is = parted_by comma_space (map (λ (i : Item). spelled_item_call i.call) is)

  -- what stands behind a clause's head: nothing, a body, or a guard and a body
  abbrev pub spelled_tail : List Item → List Item → Writing
  spelled_tail [] [] ps = ps
  spelled_tail [] (i ∷ is) ps = spaced (mark signs.if_sign) (spelled_items (i ∷ is) ps)
  spelled_tail (g ∷ gs) body ps = spaced (mark signs.if_sign) (spelled_items (g ∷ gs) (spaced (mark signs.bar) (spelled_items body ps)))

  -- a clause, up to its dot
  abbrev pub spelled_clause : Clause → Writing
  spelled_clause c ps = spelled_named c.head c.args (spelled_tail c.guard c.body (mark signs.dot ∷ ps))

  -- one line for each clause
  abbrev pub spelled_clauses : List Clause → Writing
  spelled_clauses [] ps = ps
  spelled_clauses (c ∷ cs) ps = spelled_clause c (line_feed ∷ spelled_clauses cs ps)

  -- a procedure in a list of exports: its name and its number of arguments
  abbrev pub spelled_export : Export → Writing
  spelled_export e ps = spelled_name e.name (mark signs.divide ∷ number (pos e.arity) ∷ ps)

  -- the line of the module's name, where it has one
  abbrev pub spelled_name_line : Option Sym → Writing
  spelled_name_line None ps = ps
  spelled_name_line (Some s) ps = mark signs.minus ∷ string (codes "module") ∷ mark signs.round_open ∷ spelled_name s (closing_line ps)

  -- the line of the exports, where they are listed
  abbrev pub spelled_exports_line : Option (List Export) → Writing
  spelled_exports_line None ps = ps
  spelled_exports_line (Some es) ps =
      mark signs.minus ∷ string (codes "export") ∷ mark signs.round_open ∷ mark signs.square_open
      ∷ parted_by comma (map spelled_export es) (mark signs.square_close ∷ closing_line ps)

  -- a module, line by line
  unfoldable pub module_spellings : Module → Writing
  module_spellings m ps = spelled_name_line m.name (spelled_exports_line m.exports (spelled_clauses m.clauses ps))
