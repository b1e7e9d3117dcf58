-- Unifications: of two variables, and of a variable with a term in which it occurs.
use Rattle.std.specs.Prelude.{[], ◌∷◌, codes}
use Rattle.fcp_model.specs.declared.run.Outcome.TheVariants.{Terminated, Suspended, Failed}
use Rattle.fcp_model.specs.Terms.{var, ro}
use Rattle.fcp_model.specs.Programs.{user, unifies}
use Rattle.fcp_rows.specs.Examples.{f, p, X, Y, fact, procedure, example, Prints}

-- `p(Y,Y).` with the goal `p(X,f(X))`
abbrev pub the_occurs_check_fails : Type 0
the_occurs_check_fails =
    Prints (example (procedure p 2 (fact 1 (var 1 ∷ var 1 ∷ []) ∷ []) ∷ []) (X ∷ []) (user 0 (var 1 ∷ f (var 1) ∷ []) ∷ [])) Failed (
    codes "logix log 1"
    ∷ codes "1 fail #0.1"
    ∷ codes "end 1"
    ∷ codes "outcome failed"
    ∷ codes "X = _0.1"
    ∷ [])

-- no program, with the goal `X = Y`
abbrev pub the_younger_variable_is_bound : Type 0
the_younger_variable_is_bound = Prints (example [] (X ∷ Y ∷ []) (unifies (var 1) (var 2) ∷ [])) Terminated (
    codes "logix log 1"
    ∷ codes "1 commit #0.1 0 _0.2=_0.1"
    ∷ codes "end 1"
    ∷ codes "outcome terminated"
    ∷ codes "X = _0.1"
    ∷ codes "Y = _0.1"
    ∷ [])

-- the goal `X = Y?`
abbrev pub the_writable_variable_is_bound : Type 0
the_writable_variable_is_bound = Prints (example [] (X ∷ Y ∷ []) (unifies (var 1) (ro 2) ∷ [])) Terminated (
    codes "logix log 1"
    ∷ codes "1 commit #0.1 0 _0.1=_0.2?"
    ∷ codes "end 1"
    ∷ codes "outcome terminated"
    ∷ codes "X = _0.2?"
    ∷ codes "Y = _0.2"
    ∷ [])

-- the goal `X? = Y?`
abbrev pub two_read_only_variables_wait : Type 0
two_read_only_variables_wait = Prints (example [] (X ∷ Y ∷ []) (unifies (ro 1) (ro 2) ∷ [])) Suspended (
    codes "logix log 1"
    ∷ codes "1 hang #0.1 _0.1 _0.2"
    ∷ codes "end 1"
    ∷ codes "outcome suspended"
    ∷ codes "X = _0.1"
    ∷ codes "Y = _0.2"
    ∷ [])

-- the goal `X = X?`
abbrev pub a_variable_is_itself : Type 0
a_variable_is_itself = Prints (example [] (X ∷ []) (unifies (var 1) (ro 1) ∷ [])) Terminated (
    codes "logix log 1"
    ∷ codes "1 commit #0.1 0"
    ∷ codes "end 1"
    ∷ codes "outcome terminated"
    ∷ codes "X = _0.1"
    ∷ [])
