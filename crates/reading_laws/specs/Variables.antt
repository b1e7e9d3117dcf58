-- The variables of terms and clauses, in the order of the text.
use Rattle.std.specs.Prelude.{ℕ, Bool, true, ◌&&◌, nat_eq, List, [], ◌∷◌, ◌++◌}
use Rattle.std.specs.List.{flat_map}
use Rattle.fcp_model.specs.declared.term.Term.{Term, fold-Term}
use Rattle.fcp_model.specs.declared.term.Term.TheOpen.{Term-F}
use Rattle.fcp_model.specs.declared.term.Expr.{Expr, fold-Expr}
use Rattle.fcp_model.specs.declared.term.Expr.TheOpen.{Expr-F}
use Rattle.fcp_model.specs.declared.source.Call.{Call}
use Rattle.fcp_model.specs.declared.source.Call.TheVariants.{User, Unify, Assign, Same, NotSame, Compare}
use Rattle.fcp_model.specs.declared.source.Item.{Item}
use Rattle.fcp_model.specs.declared.source.Clause.{Clause}
use Rattle.reading_laws.specs.PieceTerminals.{with_number, is_next}

-- one level of a term, from the variables of its parts
abbrev pub variables_step : Term-F (List ℕ) → List ℕ
variables_step (Term-F.Int n) = []
variables_step (Term-F.Str s) = []
variables_step Term-F.Nil = []
variables_step (Term-F.Cons h t) = h ++ t
variables_step (Term-F.Tuple ts) = flat_map (λ t. t) ts
variables_step (Term-F.Var k) = k ∷ []
variables_step (Term-F.Ro k) = k ∷ []

-- the variables of a term, from the left, with each occurrence
unfoldable pub term_variables : Term → List ℕ
term_variables = fold-Term (List ℕ) variables_step

-- the variables of terms, one for each occurrence
abbrev pub terms_variables : List Term → List ℕ
terms_variables ts = flat_map term_variables ts

-- one level of an expression, from the variables of its operands
abbrev pub expr_variables_step : Expr-F (List ℕ) → List ℕ
expr_variables_step (Expr-F.Leaf t at) = term_variables t
expr_variables_step (Expr-F.Op op left right) = left ++ right

-- those of an expression
unfoldable pub expr_variables : Expr → List ℕ
expr_variables = fold-Expr (List ℕ) expr_variables_step

-- those of what an item says
abbrev pub call_variables : Call → List ℕ
call_variables (User name args) = terms_variables args
call_variables (Unify a b) = term_variables a ++ term_variables b
call_variables (Assign a e) = term_variables a ++ expr_variables e
call_variables (Same a b) = term_variables a ++ term_variables b
call_variables (NotSame a b) = term_variables a ++ term_variables b
call_variables (Compare op d e) = expr_variables d ++ expr_variables e

-- the variables of items, one for each occurrence
abbrev pub items_variables : List Item → List ℕ
items_variables is = flat_map (λ (i : Item). call_variables i.call) is

-- those of a clause
abbrev pub clause_variables : Clause → List ℕ
clause_variables c = terms_variables c.args ++ (items_variables c.guard ++ items_variables c.body)

-- how many variables there are behind these occurrences
abbrev pub count_behind : ℕ → List ℕ → ℕ
count_behind n [] = n
count_behind n (k ∷ ks) = count_behind (with_number n k) ks

-- each occurrence is of a variable so far or of the next
abbrev pub are_next : ℕ → List ℕ → Bool
are_next n [] = true
are_next n (k ∷ ks) = is_next n k && are_next (with_number n k) ks

-- a clause's variables are numbered from 1 in the order of the text, and their number is the clause's
abbrev pub is_numbered : Clause → Bool
is_numbered c = are_next 0 (clause_variables c) && nat_eq (count_behind 0 (clause_variables c)) c.vars
