-- Modules of which no part is one too many, and whose variables are numbered in the order of the text.
use Rattle.std.specs.Prelude.{ℕ, ◌+◌, ◌-◌, Bool, true, false, ◌&&◌, nat_le, List, [], ◌∷◌, length, if◌then◌else◌, Option, Some, None, is_none}
use Rattle.std.specs.List.{list_all}
use Rattle.fcp_model.specs.declared.term.Term.{Term, fold-Term}
use Rattle.fcp_model.specs.declared.term.Term.TheOpen.{Term-F}
use Rattle.fcp_model.specs.declared.term.Expr.{Expr, fold-Expr}
use Rattle.fcp_model.specs.declared.term.Expr.TheOpen.{Expr-F}
use Rattle.fcp_model.specs.declared.source.Call.{Call}
use Rattle.fcp_model.specs.declared.source.Call.TheVariants.{User, Unify, Assign, Same, NotSame, Compare}
use Rattle.fcp_model.specs.declared.source.Item.{Item}
use Rattle.fcp_model.specs.declared.source.Clause.{Clause}
use Rattle.fcp_model.specs.declared.source.Export.{Export}
use Rattle.fcp_model.specs.declared.source.Module.{Module}
use Rattle.reading_laws.specs.Variables.{is_numbered}
use Rattle.fcp_grammar.specs.Limits.{most_arguments, most_items, most_operators}

-- a term has no tuple of too many parts or of none, and whether it is a string
pub record Size : Type 0 where
  pub small : Bool
  pub is_string : Bool

-- the size of a term that is no string
abbrev pub no_string : Bool → Size
no_string b = record { small = b; is_string = false }

-- a tuple that begins with a string has at most `most_arguments` parts behind it, and any other at most as many in all; none has
-- no parts
abbrev pub parts_fit : List Size → Bool
parts_fit [] = false
parts_fit (t ∷ ts) = nat_le (length ts) (if t.is_string then most_arguments else most_arguments - 1)

-- one level of a term
abbrev pub size_step : Term-F Size → Size
size_step (Term-F.Int n) = no_string true
size_step (Term-F.Str s) = record { small = true; is_string = true }
size_step Term-F.Nil = no_string true
size_step (Term-F.Cons h t) = no_string (h.small && t.small)
size_step (Term-F.Tuple ts) = no_string (parts_fit ts && list_all (λ (t : Size). t.small) ts)
size_step (Term-F.Var k) = no_string true
size_step (Term-F.Ro k) = no_string true

-- the size of a term
abbrev pub size_of : Term → Size
size_of = fold-Term Size size_step

-- no part of the term is one too many
unfoldable pub is_small_term : Term → Bool
is_small_term t = (size_of t).small

-- no part of the terms is one too many
abbrev pub are_small_terms : List Term → Bool
are_small_terms ts = list_all is_small_term ts

-- one level of an expression: all its leaves are small
abbrev pub small_expr_step : Expr-F Bool → Bool
small_expr_step (Expr-F.Leaf t at) = is_small_term t
small_expr_step (Expr-F.Op op left right) = left && right

-- no part of a leaf is one too many
unfoldable pub is_small_expr : Expr → Bool
is_small_expr = fold-Expr Bool small_expr_step

-- the number of an expression's operators
abbrev pub operators_step : Expr-F ℕ → ℕ
operators_step (Expr-F.Leaf t at) = 0
operators_step (Expr-F.Op op left right) = left + right + 1

-- how many operators an expression has
unfoldable pub operators_of : Expr → ℕ
operators_of = fold-Expr ℕ operators_step

-- what an item says has no argument and no operator too many
abbrev pub is_small_call : Call → Bool
is_small_call (User name args) = nat_le (length args) most_arguments && are_small_terms args
is_small_call (Unify a b) = is_small_term a && is_small_term b
is_small_call (Assign a e) = is_small_term a && is_small_expr e && nat_le (operators_of e) most_operators
is_small_call (Same a b) = is_small_term a && is_small_term b
is_small_call (NotSame a b) = is_small_term a && is_small_term b
is_small_call (Compare op d e) = is_small_expr d && is_small_expr e && nat_le (operators_of d + operators_of e) most_operators

-- no item too many
abbrev pub are_small_items : List Item → Bool
are_small_items is = nat_le (length is) most_items && list_all (λ (i : Item). is_small_call i.call) is

-- where there is a guard there is a body
abbrev pub has_body : List Item → List Item → Bool
has_body [] body = true
has_body (g ∷ gs) [] = false
has_body (g ∷ gs) (i ∷ is) = true

-- no part of the clause is one too many, and where there is a guard there is a body
abbrev pub is_small_clause : Clause → Bool
is_small_clause c =
    nat_le (length c.args) most_arguments && are_small_terms c.args && are_small_items c.guard && are_small_items c.body
    && has_body c.guard c.body

-- nor are its variables numbered otherwise than in the order of the text
abbrev pub is_readable_clause : Clause → Bool
is_readable_clause c = is_small_clause c && is_numbered c

-- no argument too many
abbrev pub are_small_exports : Option (List Export) → Bool
are_small_exports None = true
are_small_exports (Some es) = list_all (λ (e : Export). nat_le e.arity most_arguments) es

-- a module with no second name and no unknown attribute
unfoldable pub is_readable : Module → Bool
is_readable m = is_none m.again && is_none m.other && are_small_exports m.exports && list_all is_readable_clause m.clauses
