-- Commits: what they bind, what sees it, and whom they wake.
use Rattle.std.specs.Prelude.{[], ◌∷◌, codes}
use Rattle.fcp_model.specs.declared.run.Outcome.TheVariants.{Terminated, Failed}
use Rattle.fcp_model.specs.Terms.{var, ro}
use Rattle.fcp_model.specs.Programs.{user}
use Rattle.fcp_rows.specs.Examples.{a, b, p, q, r, X, Y, fact, procedure, example, Prints}

-- `p(a).` with the goal `p(X)`
abbrev pub a_fact_binds_the_goal : Type 0
a_fact_binds_the_goal = Prints (example (procedure p 1 (fact 0 (a ∷ []) ∷ []) ∷ []) (X ∷ []) (user 0 (var 1 ∷ []) ∷ [])) Terminated (
    codes "logix log 1"
    ∷ codes "1 commit #0.1 1 _0.1=a"
    ∷ codes "end 1"
    ∷ codes "outcome terminated"
    ∷ codes "X = a"
    ∷ [])

-- `p(a). c(a).` with the goal `c(X?), p(X)`: c waits for X, and p's binding wakes it
abbrev pub a_commit_wakes_the_waiting : Type 0
a_commit_wakes_the_waiting =
    Prints (example (procedure p 1 (fact 0 (a ∷ []) ∷ []) ∷ procedure q 1 (fact 0 (a ∷ []) ∷ []) ∷ []) (X ∷ [])
    (user 1 (ro 1 ∷ []) ∷ user 0 (var 1 ∷ []) ∷ [])) Terminated (
    codes "logix log 1"
    ∷ codes "1 hang #0.1 _0.1"
    ∷ codes "2 commit #0.2 1 _0.1=a wakes #0.1"
    ∷ codes "3 commit #0.1 1"
    ∷ codes "end 3"
    ∷ codes "outcome terminated"
    ∷ codes "X = a"
    ∷ [])

-- `p(a). r(b).` with the goal `p(X), r(X)`
abbrev pub a_failed_process_ends_the_run : Type 0
a_failed_process_ends_the_run =
    Prints (example (procedure p 1 (fact 0 (a ∷ []) ∷ []) ∷ procedure r 1 (fact 0 (b ∷ []) ∷ []) ∷ []) (X ∷ [])
    (user 0 (var 1 ∷ []) ∷ user 1 (var 1 ∷ []) ∷ [])) Failed (
    codes "logix log 1"
    ∷ codes "1 commit #0.1 1 _0.1=a"
    ∷ codes "2 fail #0.2"
    ∷ codes "end 2"
    ∷ codes "outcome failed"
    ∷ codes "X = a"
    ∷ [])

-- `q(a,a).` with the goal `q(X,X?)`: the first pair binds X, and the second one sees it
abbrev pub a_later_pair_sees_the_binding : Type 0
a_later_pair_sees_the_binding =
    Prints (example (procedure q 2 (fact 0 (a ∷ a ∷ []) ∷ []) ∷ []) (X ∷ []) (user 0 (var 1 ∷ ro 1 ∷ []) ∷ [])) Terminated (
    codes "logix log 1"
    ∷ codes "1 commit #0.1 1 _0.1=a"
    ∷ codes "end 1"
    ∷ codes "outcome terminated"
    ∷ codes "X = a"
    ∷ [])

-- `p(a,Z). p(Z,b). q(a,b).` with the goal `p(X?,Y?), q(X,Y)`: the commit binds both places on which p waits
abbrev pub a_process_is_woken_once : Type 0
a_process_is_woken_once =
    Prints (example (procedure p 2 (fact 1 (a ∷ var 1 ∷ []) ∷ fact 1 (var 1 ∷ b ∷ []) ∷ []) ∷ procedure q 2 (fact 0 (a ∷ b ∷ []) ∷ [])
    ∷ []) (X ∷ Y ∷ []) (user 0 (ro 1 ∷ ro 2 ∷ []) ∷ user 1 (var 1 ∷ var 2 ∷ []) ∷ [])) Terminated (
    codes "logix log 1"
    ∷ codes "1 hang #0.1 _0.1 _0.2"
    ∷ codes "2 commit #0.2 1 _0.1=a _0.2=b wakes #0.1"
    ∷ codes "3 commit #0.1 1"
    ∷ codes "end 3"
    ∷ codes "outcome terminated"
    ∷ codes "X = a"
    ∷ codes "Y = b"
    ∷ [])
