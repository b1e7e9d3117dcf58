-- Modules that say the same, with their strings compared as texts and places apart.
use Rattle.std.specs.Prelude.{◌≡◌, ℕ, List, ◌++◌, map, Option, Some, None}
use Rattle.fcp_model.specs.declared.names.Sym.{Sym}
use Rattle.fcp_model.specs.declared.term.Term.{Term, fold-Term}
use Rattle.fcp_model.specs.declared.term.Term.TheVariants as T
use Rattle.fcp_model.specs.declared.term.Term.TheOpen.{Term-F}
use Rattle.fcp_model.specs.declared.term.Expr.{Expr, fold-Expr}
use Rattle.fcp_model.specs.declared.term.Expr.TheVariants as E
use Rattle.fcp_model.specs.declared.term.Expr.TheOpen.{Expr-F}
use Rattle.fcp_model.specs.declared.source.Call.{Call}
use Rattle.fcp_model.specs.declared.source.Call.TheVariants.{User, Unify, Assign, Same, NotSame, Compare}
use Rattle.fcp_model.specs.declared.source.Item.{Item}
use Rattle.fcp_model.specs.declared.source.Clause.{Clause}
use Rattle.fcp_model.specs.declared.source.Export.{Export}
use Rattle.fcp_model.specs.declared.source.Module.{Module}
use Rattle.fcp_model.specs.NameList.{number_of}
use Rattle.fcp_model.specs.Spelling.{name_at}
use Rattle.fcp_text.specs.Bytes.{Text}

-- a place, as if it were 0
abbrev pub somewhere : Option ℕ → Option ℕ
somewhere None = None
somewhere (Some at) = Some 0

module _ (renumber : ℕ → ℕ) where
  abbrev pub string_with : Sym → Sym
  string_with s = record { 0 = renumber s.0 }

  abbrev pub name_with : Option Sym → Option Sym
  name_with None = None
  name_with (Some s) = Some (string_with s)

  -- one level of a term, from its parts
  abbrev pub term_with_step : Term-F Term → Term
  term_with_step (Term-F.Int n) = T.Int n
  term_with_step (Term-F.Str s) = T.Str (string_with s)
  term_with_step Term-F.Nil = T.Nil
  term_with_step (Term-F.Cons h t) = T.Cons h t
  term_with_step (Term-F.Tuple ts) = T.Tuple ts
  term_with_step (Term-F.Var k) = T.Var k
  term_with_step (Term-F.Ro k) = T.Ro k

  -- a term with its strings renumbered
  unfoldable pub term_with : Term → Term
  term_with = fold-Term Term term_with_step

  abbrev pub terms_with : List Term → List Term
  terms_with = map term_with

  abbrev pub expr_with_step : Expr-F Expr → Expr
  expr_with_step (Expr-F.Leaf t at) = E.Leaf (term_with t) 0
  expr_with_step (Expr-F.Op op left right) = E.Op op left right

  -- an expression with its strings renumbered, and its leaves nowhere
  unfoldable pub expr_with : Expr → Expr
  expr_with = fold-Expr Expr expr_with_step

  abbrev pub call_with : Call → Call
  call_with (User name args) = User (string_with name) (terms_with args)
  call_with (Unify a b) = Unify (term_with a) (term_with b)
  call_with (Assign a e) = Assign (term_with a) (expr_with e)
  call_with (Same a b) = Same (term_with a) (term_with b)
  call_with (NotSame a b) = NotSame (term_with a) (term_with b)
  call_with (Compare op d e) = Compare op (expr_with d) (expr_with e)

  abbrev pub item_with : Item → Item
  item_with i = record { at = 0; call = call_with i.call }

  abbrev pub items_with : List Item → List Item
  items_with = map item_with

  abbrev pub clause_with : Clause → Clause
  clause_with c =
      record {
        at = 0;
        head = string_with c.head;
        args = terms_with c.args;
        guard = items_with c.guard;
        body = items_with c.body;
        vars = c.vars;
      }

  abbrev pub export_with : Export → Export
  export_with e = record { at = 0; name = string_with e.name; arity = e.arity }

  abbrev pub exports_with : Option (List Export) → Option (List Export)
  exports_with None = None
  exports_with (Some es) = Some (map export_with es)

  -- a module with its strings renumbered, and all at no place
  unfoldable pub module_with : Module → Module
  module_with m =
      record {
        name = name_with m.name;
        again = somewhere m.again;
        other = somewhere m.other;
        exports = exports_with m.exports;
        clauses = map clause_with m.clauses;
      }

-- a string by its text, as `g` numbers texts
abbrev pub by_text : (Text → ℕ) → List Text → ℕ → ℕ
by_text g names s = g (name_at names s)

-- Both modules say the same. A string has the number that its text has among the strings of both.
abbrev pub AreAlike : List Text → Module → List Text → Module → Type 0
AreAlike names m others o =
    module_with (by_text (number_of (names ++ others)) names) m ≡ module_with (by_text (number_of (names ++ others)) others) o
