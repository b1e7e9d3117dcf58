-- The limits of brackets, arguments, parts, variables and items. What is read from a text keeps them.
use Rattle.std.specs.Prelude.{ℕ, ◌+◌, Bool, true, ◌&&◌, nat_le, List, length}
use Rattle.std.specs.List.{list_all}
use Rattle.fcp_model.specs.declared.term.Term.{Term, fold-Term}
use Rattle.fcp_model.specs.declared.term.Term.TheOpen.{Term-F}
use Rattle.fcp_model.specs.declared.term.Expr.{Expr, fold-Expr}
use Rattle.fcp_model.specs.declared.term.Expr.TheOpen.{Expr-F}
use Rattle.fcp_model.specs.declared.source.Call.{Call}
use Rattle.fcp_model.specs.declared.source.Call.TheVariants.{User, Unify, Assign, Same, NotSame, Compare}
use Rattle.fcp_model.specs.declared.source.Item.{Item}
use Rattle.fcp_model.specs.declared.source.Clause.{Clause}
use Rattle.fcp_model.specs.declared.source.Module.{Module}
use Rattle.fcp_model.specs.declared.source.GoalText.{GoalText}
use Rattle.fcp_grammar.specs.Limits.{most_arguments, most_variables, most_items}

-- the most brackets that may be open around one
abbrev pub most_open : ℕ
most_open = 256

-- one of so many variables, which are numbered from 1
abbrev pub is_variable_within : ℕ → ℕ → Bool
is_variable_within vars k = nat_le 1 k && nat_le k vars

-- One level of a term, from what its parts are: a tuple has at most one part more than a string may have arguments, and
-- each occurrence of a variable is one of the variables.
abbrev pub term_step : ℕ → Term-F Bool → Bool
term_step vars (Term-F.Int z) = true
term_step vars (Term-F.Str s) = true
term_step vars Term-F.Nil = true
term_step vars (Term-F.Cons a b) = a && b
term_step vars (Term-F.Tuple ts) = nat_le (length ts) (most_arguments + 1) && list_all (λ b. b) ts
term_step vars (Term-F.Var k) = is_variable_within vars k
term_step vars (Term-F.Ro k) = is_variable_within vars k

-- each tuple in the term has few parts, and each occurrence of a variable is one of the variables
abbrev pub is_term_within : ℕ → Term → Bool
is_term_within vars = fold-Term Bool (term_step vars)

-- one level of an expression, from what its operands are
abbrev pub expr_step : ℕ → Expr-F Bool → Bool
expr_step vars (Expr-F.Leaf t at) = is_term_within vars t
expr_step vars (Expr-F.Op op a b) = a && b

-- each leaf is within
abbrev pub is_expr_within : ℕ → Expr → Bool
is_expr_within vars = fold-Expr Bool (expr_step vars)

-- few arguments, each of them within
abbrev pub are_args_within : ℕ → List Term → Bool
are_args_within vars ts = nat_le (length ts) most_arguments && list_all (is_term_within vars) ts

-- the arguments are within, or both sides are
abbrev pub is_call_within : ℕ → Call → Bool
is_call_within vars (User name args) = are_args_within vars args
is_call_within vars (Unify a b) = is_term_within vars a && is_term_within vars b
is_call_within vars (Assign a e) = is_term_within vars a && is_expr_within vars e
is_call_within vars (Same a b) = is_term_within vars a && is_term_within vars b
is_call_within vars (NotSame a b) = is_term_within vars a && is_term_within vars b
is_call_within vars (Compare op a b) = is_expr_within vars a && is_expr_within vars b

-- few items, each of them within
abbrev pub are_items_within : ℕ → List Item → Bool
are_items_within vars is = nat_le (length is) most_items && list_all (λ i. is_call_within vars i.call) is

-- few variables, and the head's arguments, the guard and the body are within them
abbrev pub is_clause_within : Clause → Bool
is_clause_within c =
    nat_le c.vars most_variables && are_args_within c.vars c.args && are_items_within c.vars c.guard && are_items_within c.vars c.body

-- each clause is within
abbrev pub is_module_within : Module → Bool
is_module_within m = list_all is_clause_within m.clauses

-- few variables, as many as names, and the items are within them
abbrev pub is_goal_within : GoalText → Bool
is_goal_within g = nat_le (length g.names) most_variables && are_items_within (length g.names) g.items
