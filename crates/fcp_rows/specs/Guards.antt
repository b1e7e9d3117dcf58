-- Guards: tests that hold, fail and wait.
use Rattle.std.specs.Prelude.{[], ◌∷◌, codes}
use Rattle.fcp_model.specs.declared.run.Outcome.TheVariants.{Terminated, Failed}
use Rattle.fcp_model.specs.declared.term.CompareOp.TheVariants.{AtMost}
use Rattle.fcp_model.specs.Terms.{var, ro}
use Rattle.fcp_model.specs.Expressions.{leaf}
use Rattle.fcp_model.specs.Tests.{otherwise, kind, is_unknown, ordered}
use Rattle.fcp_model.specs.Programs.{user, true', unifies, Procedure}
use Rattle.fcp_rows.specs.Examples.{a, c, p, q, X, R, int, fact, rule, procedure, example, Prints}

-- `p(a,1). p(X,2) :- otherwise | true. q(c).` with the goal `p(X?,R), q(X)`: the first clause waits, so that `otherwise`
-- waits too; it holds once the first clause fails
abbrev pub otherwise_waits_after_a_waiting_clause : Type 0
otherwise_waits_after_a_waiting_clause =
    Prints (example (procedure p 2 (fact 0 (a ∷ int 1 ∷ []) ∷ rule 1 (var 1 ∷ int 2 ∷ []) (otherwise ∷ []) (true' ∷ []) ∷ [])
    ∷ procedure q 1 (fact 0 (c ∷ []) ∷ []) ∷ []) (X ∷ R ∷ []) (user 0 (ro 1 ∷ var 2 ∷ []) ∷ user 1 (var 1 ∷ []) ∷ [])) Terminated (
    codes "logix log 1"
    ∷ codes "1 hang #0.1 _0.1 _0.2"
    ∷ codes "2 commit #0.2 1 _0.1=c wakes #0.1"
    ∷ codes "3 commit #0.1 2 _0.2=2"
    ∷ codes "4 commit #3.1 0"
    ∷ codes "end 4"
    ∷ codes "outcome terminated"
    ∷ codes "X = c"
    ∷ codes "R = 2"
    ∷ [])

-- `p(X) :- unknown(X) | true.`
abbrev pub unknown_tester : Procedure
unknown_tester = procedure p 1 (rule 1 (var 1 ∷ []) (kind is_unknown (var 1) ∷ []) (true' ∷ []) ∷ [])

-- that procedure and `q(a).` with the goal `p(X), q(X)`
abbrev pub unknown_holds_before_the_binding : Type 0
unknown_holds_before_the_binding =
    Prints (example (unknown_tester ∷ procedure q 1 (fact 0 (a ∷ []) ∷ []) ∷ []) (X ∷ [])
    (user 0 (var 1 ∷ []) ∷ user 1 (var 1 ∷ []) ∷ [])) Terminated (
    codes "logix log 1"
    ∷ codes "1 commit #0.1 1"
    ∷ codes "2 commit #0.2 1 _0.1=a"
    ∷ codes "3 commit #1.1 0"
    ∷ codes "end 3"
    ∷ codes "outcome terminated"
    ∷ codes "X = a"
    ∷ [])

-- that procedure and `q(a).` with the goal `q(X), p(X)`
abbrev pub unknown_fails_after_the_binding : Type 0
unknown_fails_after_the_binding =
    Prints (example (unknown_tester ∷ procedure q 1 (fact 0 (a ∷ []) ∷ []) ∷ []) (X ∷ [])
    (user 1 (var 1 ∷ []) ∷ user 0 (var 1 ∷ []) ∷ [])) Failed (
    codes "logix log 1"
    ∷ codes "1 commit #0.1 1 _0.1=a"
    ∷ codes "2 fail #0.2"
    ∷ codes "end 2"
    ∷ codes "outcome failed"
    ∷ codes "X = a"
    ∷ [])

-- `p(X) :- X? =< 3 | true.`
abbrev pub at_most_three : Procedure
at_most_three = procedure p 1 (rule 1 (var 1 ∷ []) (ordered AtMost (leaf (ro 1)) (leaf (int 3)) ∷ []) (true' ∷ []) ∷ [])

-- that procedure with the goal `p(4)`
abbrev pub a_comparison_fails : Type 0
a_comparison_fails = Prints (example (at_most_three ∷ []) [] (user 0 (int 4 ∷ []) ∷ [])) Failed (
    codes "logix log 1"
    ∷ codes "1 fail #0.1"
    ∷ codes "end 1"
    ∷ codes "outcome failed"
    ∷ [])

-- that procedure with the goal `p(X), X = 2`
abbrev pub a_comparison_waits_for_its_operand : Type 0
a_comparison_waits_for_its_operand =
    Prints (example (at_most_three ∷ []) (X ∷ []) (user 0 (var 1 ∷ []) ∷ unifies (var 1) (int 2) ∷ [])) Terminated (
    codes "logix log 1"
    ∷ codes "1 hang #0.1 _0.1"
    ∷ codes "2 commit #0.2 0 _0.1=2 wakes #0.1"
    ∷ codes "3 commit #0.1 1"
    ∷ codes "4 commit #3.1 0"
    ∷ codes "end 4"
    ∷ codes "outcome terminated"
    ∷ codes "X = 2"
    ∷ [])
