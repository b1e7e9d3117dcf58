-- Controls: what is made when its time comes, and what is not reached.
use Rattle.std.specs.Prelude.{ℕ, [], ◌∷◌, codes}
use Rattle.fcp_model.specs.declared.run.Outcome.TheVariants.{Held, Terminated, Aborted, Budget, Failed}
use Rattle.fcp_model.specs.declared.run.Act.{Act}
use Rattle.fcp_model.specs.declared.run.Act.TheVariants.{Snapshot, Suspend, Resume, Abort}
use Rattle.fcp_model.specs.declared.run.Control.{Control}
use Rattle.fcp_model.specs.Terms.{var}
use Rattle.fcp_model.specs.Programs.{user}
use Rattle.fcp_rows.specs.Examples.{a, b, p, X, L, fact, procedure, wide, Prints}
use Rattle.fcp_rows.specs.Limits.{looping, endless_list}

-- a control that is due after so many moves
abbrev pub after : ℕ → Act → Control
after moves act = record { after = moves; act = act }

-- the endless list with the goal `p(L)` and the controls `after 3 snapshot; after 3 suspend`
abbrev pub a_snapshot_is_of_its_moment : Type 0
a_snapshot_is_of_its_moment =
    Prints (record {
      program = endless_list;
      variables = L ∷ [];
      goal = user 0 (var 1 ∷ []) ∷ [];
      limits = wide;
      controls = after 3 Snapshot ∷ after 3 Suspend ∷ [];
    }) Held (
    codes "logix log 1"
    ∷ codes "1 commit #0.1 1"
    ∷ codes "2 commit #1.1 0 _0.1=[a|_1.2]"
    ∷ codes "3 commit #1.2 1"
    ∷ codes "4 snapshot"
    ∷ codes "5 suspend"
    ∷ codes "end 5"
    ∷ codes "outcome held"
    ∷ codes "L = [a|_1.2]"
    ∷ codes "snapshot 4"
    ∷ codes "L = [a|_1.2]"
    ∷ codes "#3.1 ready: _1.2 = [a|_3.2]"
    ∷ codes "#3.2 ready: p(_3.2)"
    ∷ codes "done"
    ∷ [])

-- `p(a).` with the goal `p(X)` and the control `after 99 snapshot`
abbrev pub a_late_control_is_not_reached : Type 0
a_late_control_is_not_reached =
    Prints (record {
      program = procedure p 1 (fact 0 (a ∷ []) ∷ []) ∷ [];
      variables = X ∷ [];
      goal = user 0 (var 1 ∷ []) ∷ [];
      limits = wide;
      controls = after 99 Snapshot ∷ [];
    }) Terminated (
    codes "logix log 1"
    ∷ codes "1 commit #0.1 1 _0.1=a"
    ∷ codes "end 1"
    ∷ codes "outcome terminated"
    ∷ codes "X = a"
    ∷ codes "not reached after 99 snapshot"
    ∷ [])

-- `p :- p.` with the goal `p` and the control `after 0 abort`
abbrev pub an_abort_comes_before_the_first_move : Type 0
an_abort_comes_before_the_first_move = Prints (record (looping wide) { controls = after 0 Abort ∷ [] }) Aborted (
    codes "logix log 1"
    ∷ codes "1 abort"
    ∷ codes "end 1"
    ∷ codes "outcome aborted"
    ∷ [])

-- `p :- p.` with the goal `p`, three commits and the controls `after 2 suspend; after 2 resume`
abbrev pub a_resumed_run_goes_on : Type 0
a_resumed_run_goes_on =
    Prints (record (looping (record wide { commits = 3 })) { controls = after 2 Suspend ∷ after 2 Resume ∷ [] }) Budget (
    codes "logix log 1"
    ∷ codes "1 commit #0.1 1"
    ∷ codes "2 commit #1.1 1"
    ∷ codes "3 suspend"
    ∷ codes "4 resume"
    ∷ codes "5 commit #2.1 1"
    ∷ codes "end 5"
    ∷ codes "outcome budget"
    ∷ [])

-- `p(a).` with the goal `p(b)` and the control `after 1 snapshot`: the run ends with the fail
abbrev pub a_fail_comes_before_a_due_control : Type 0
a_fail_comes_before_a_due_control = Prints (record {
  program = procedure p 1 (fact 0 (a ∷ []) ∷ []) ∷ [];
  variables = [];
  goal = user 0 (b ∷ []) ∷ [];
  limits = wide;
  controls = after 1 Snapshot ∷ [];
}) Failed (
    codes "logix log 1"
    ∷ codes "1 fail #0.1"
    ∷ codes "end 1"
    ∷ codes "outcome failed"
    ∷ codes "not reached after 1 snapshot"
    ∷ [])
