-- Terms and modules whose texts are cut into the tokens that were written.
use Rattle.std.specs.Prelude.{◌≡◌, ℕ, ◌^◌, Bool, true, ◌&&◌, nat_lt, List, All, Option, Some, None, ℤ, pos, negsuc}
use Rattle.std.specs.List.{list_all}
use Rattle.fcp_model.specs.declared.term.Term.{Term, fold-Term}
use Rattle.fcp_model.specs.declared.term.Term.TheOpen.{Term-F}
use Rattle.fcp_model.specs.declared.term.Expr.{Expr, fold-Expr}
use Rattle.fcp_model.specs.declared.term.Expr.TheOpen.{Expr-F}
use Rattle.fcp_model.specs.declared.source.Call.{Call}
use Rattle.fcp_model.specs.declared.source.Call.TheVariants.{User, Unify, Assign, Same, NotSame, Compare}
use Rattle.fcp_model.specs.declared.source.Item.{Item}
use Rattle.fcp_model.specs.declared.source.Clause.{Clause}
use Rattle.fcp_model.specs.declared.source.Export.{Export}
use Rattle.fcp_model.specs.declared.source.Module.{Module}
use Rattle.fcp_text.specs.Bytes.{Text}
use Rattle.text_laws.specs.Fitting.{IsOneLine}

-- from minus 2^63 to 2^63 - 1
abbrev pub is_int : ℤ → Bool
is_int (pos n) = nat_lt n 9223372036854775808
is_int (negsuc n) = nat_lt n 9223372036854775808

-- the number of a variable is below 2^64
abbrev pub is_number : ℕ → Bool
is_number k = nat_lt k (2 ^ 64)

-- one level of a term, from whether its parts are writable
abbrev pub writable_step : Term-F Bool → Bool
writable_step (Term-F.Int n) = is_int n
writable_step (Term-F.Str s) = true
writable_step Term-F.Nil = true
writable_step (Term-F.Cons h t) = h && t
writable_step (Term-F.Tuple ts) = list_all (λ t. t) ts
writable_step (Term-F.Var k) = is_number k
writable_step (Term-F.Ro k) = is_number k

-- the numbers of a term are within 64 bits
unfoldable pub is_writable_term : Term → Bool
is_writable_term = fold-Term Bool writable_step

-- one level of an expression, from whether its operands are writable
abbrev pub writable_expr_step : Expr-F Bool → Bool
writable_expr_step (Expr-F.Leaf t at) = is_writable_term t
writable_expr_step (Expr-F.Op op left right) = left && right

-- the numbers of an expression are within 64 bits
unfoldable pub is_writable_expr : Expr → Bool
is_writable_expr = fold-Expr Bool writable_expr_step

-- so are those of what an item says, of items, of a clause, and of a list of exports
abbrev pub is_writable_call : Call → Bool
is_writable_call (User name args) = list_all is_writable_term args
is_writable_call (Unify a b) = is_writable_term a && is_writable_term b
is_writable_call (Assign a e) = is_writable_term a && is_writable_expr e
is_writable_call (Same a b) = is_writable_term a && is_writable_term b
is_writable_call (NotSame a b) = is_writable_term a && is_writable_term b
is_writable_call (Compare op d e) = is_writable_expr d && is_writable_expr e

-- each item can be written and read
abbrev pub are_writable_items : List Item → Bool
are_writable_items is = list_all (λ (i : Item). is_writable_call i.call) is

-- each part of the clause can
abbrev pub is_writable_clause : Clause → Bool
is_writable_clause c = list_all is_writable_term c.args && (are_writable_items c.guard && are_writable_items c.body)

-- each number of arguments can
abbrev pub are_writable_exports : Option (List Export) → Bool
are_writable_exports None = true
are_writable_exports (Some es) = list_all (λ (e : Export). is_int (pos e.arity)) es

-- all numbers of a module
abbrev pub is_writable_module : Module → Bool
is_writable_module m = are_writable_exports m.exports && list_all is_writable_clause m.clauses

-- each string is UTF-8 and on one line
abbrev pub AreWritableNames : List Text → Type 0
AreWritableNames names = All IsOneLine names

-- a module and its names
abbrev pub IsWritable : List Text → Module → Type 0
IsWritable names m = AreWritableNames names × (is_writable_module m ≡ true)
