-- Suspensions: what a process waits for.
use Rattle.std.specs.Prelude.{[], ◌∷◌, codes}
use Rattle.fcp_model.specs.declared.run.Outcome.TheVariants.{Suspended, Failed}
use Rattle.fcp_model.specs.Terms.{var, ro}
use Rattle.fcp_model.specs.Programs.{user}
use Rattle.fcp_rows.specs.Examples.{a, b, c, p, q, X, Z, fact, procedure, example, Prints}

-- `p(a).` with the goal `p(X?)`
abbrev pub a_read_only_place_is_not_bound : Type 0
a_read_only_place_is_not_bound = Prints (example (procedure p 1 (fact 0 (a ∷ []) ∷ []) ∷ []) (X ∷ []) (user 0 (ro 1 ∷ []) ∷ [])) Suspended (
    codes "logix log 1"
    ∷ codes "1 hang #0.1 _0.1"
    ∷ codes "end 1"
    ∷ codes "outcome suspended"
    ∷ codes "X = _0.1"
    ∷ [])

-- `q(a,a).` with the goal `q(X?,X)`: the first pair waits, and the second one, which would bind X, is not come to
abbrev pub the_first_waiting_pair_decides : Type 0
the_first_waiting_pair_decides =
    Prints (example (procedure q 2 (fact 0 (a ∷ a ∷ []) ∷ []) ∷ []) (X ∷ []) (user 0 (ro 1 ∷ var 1 ∷ []) ∷ [])) Suspended (
    codes "logix log 1"
    ∷ codes "1 hang #0.1 _0.1"
    ∷ codes "end 1"
    ∷ codes "outcome suspended"
    ∷ codes "X = _0.1"
    ∷ [])

-- `p(X?).` with the goal `p(a)`: the head would bind its own variable through a read-only occurrence, which no place can help
abbrev pub a_read_only_head_waits_for_nothing : Type 0
a_read_only_head_waits_for_nothing = Prints (example (procedure p 1 (fact 1 (ro 1 ∷ []) ∷ []) ∷ []) [] (user 0 (a ∷ []) ∷ [])) Suspended (
    codes "logix log 1"
    ∷ codes "1 hang #0.1"
    ∷ codes "end 1"
    ∷ codes "outcome suspended"
    ∷ [])

-- `p(b,a). q(c).` with the goal `p(Z,X?), q(Z)`: the try of p binds Z and then waits for X; it read Z unbound too, so that
-- the binding of Z wakes it, and then it fails
abbrev pub a_waiting_set_has_every_place_read : Type 0
a_waiting_set_has_every_place_read =
    Prints (example (procedure p 2 (fact 0 (b ∷ a ∷ []) ∷ []) ∷ procedure q 1 (fact 0 (c ∷ []) ∷ []) ∷ []) (Z ∷ X ∷ [])
    (user 0 (var 1 ∷ ro 2 ∷ []) ∷ user 1 (var 1 ∷ []) ∷ [])) Failed (
    codes "logix log 1"
    ∷ codes "1 hang #0.1 _0.1 _0.2"
    ∷ codes "2 commit #0.2 1 _0.1=c wakes #0.1"
    ∷ codes "3 fail #0.1"
    ∷ codes "end 3"
    ∷ codes "outcome failed"
    ∷ codes "Z = c"
    ∷ codes "X = _0.2"
    ∷ [])
