-- Snapshots: of a suspended run, and of processes that wait.
use Rattle.std.specs.Prelude.{[], ◌∷◌, codes}
use Rattle.fcp_model.specs.declared.run.Outcome.TheVariants.{Held, Suspended}
use Rattle.fcp_model.specs.declared.run.Act.TheVariants.{Snapshot, Suspend}
use Rattle.fcp_model.specs.declared.term.ArithOp.TheVariants.{Add, Mul}
use Rattle.fcp_model.specs.Terms.{var}
use Rattle.fcp_model.specs.Expressions.{leaf, op}
use Rattle.fcp_model.specs.Tests.{kind, is_known}
use Rattle.fcp_model.specs.Programs.{user, true', assigns}
use Rattle.fcp_rows.specs.Examples.{a, p, X, Y, int, fact, rule, procedure, wide, Prints}
use Rattle.fcp_rows.specs.Controls.{after}

-- `p(a).` with the goal `p(X)` and the controls `after 0 suspend; after 0 snapshot`
abbrev pub a_suspended_run_has_a_snapshot : Type 0
a_suspended_run_has_a_snapshot = Prints (record {
  program = procedure p 1 (fact 0 (a ∷ []) ∷ []) ∷ [];
  variables = X ∷ [];
  goal = user 0 (var 1 ∷ []) ∷ [];
  limits = wide;
  controls = after 0 Suspend ∷ after 0 Snapshot ∷ [];
}) Held (
    codes "logix log 1"
    ∷ codes "1 suspend"
    ∷ codes "2 snapshot"
    ∷ codes "end 2"
    ∷ codes "outcome held"
    ∷ codes "X = _0.1"
    ∷ codes "snapshot 2"
    ∷ codes "X = _0.1"
    ∷ codes "#0.1 ready: p(_0.1)"
    ∷ codes "done"
    ∷ [])

-- `p :- known(X) | true.` with the goal `p` and the control `after 1 snapshot`: the test reads the clause's own variable,
-- which is no place
abbrev pub a_process_waits_for_no_place : Type 0
a_process_waits_for_no_place = Prints (record {
  program = procedure p 0 (rule 1 [] (kind is_known (var 1) ∷ []) (true' ∷ []) ∷ []) ∷ [];
  variables = [];
  goal = user 0 [] ∷ [];
  limits = wide;
  controls = after 1 Snapshot ∷ [];
}) Suspended (
    codes "logix log 1"
    ∷ codes "1 hang #0.1"
    ∷ codes "2 snapshot"
    ∷ codes "end 2"
    ∷ codes "outcome suspended"
    ∷ codes "snapshot 2"
    ∷ codes "#0.1 waits: p"
    ∷ codes "done"
    ∷ [])

-- the goal `X := (Y + 1) * 2` with the control `after 1 snapshot`
abbrev pub an_expression_has_its_parentheses : Type 0
an_expression_has_its_parentheses = Prints (record {
  program = [];
  variables = X ∷ Y ∷ [];
  goal = assigns (var 1) (op Mul (op Add (leaf (var 2)) (leaf (int 1))) (leaf (int 2))) ∷ [];
  limits = wide;
  controls = after 1 Snapshot ∷ [];
}) Suspended (
    codes "logix log 1"
    ∷ codes "1 hang #0.1 _0.2"
    ∷ codes "2 snapshot"
    ∷ codes "end 2"
    ∷ codes "outcome suspended"
    ∷ codes "X = _0.1"
    ∷ codes "Y = _0.2"
    ∷ codes "snapshot 2"
    ∷ codes "X = _0.1"
    ∷ codes "Y = _0.2"
    ∷ codes "#0.1 waits _0.2: _0.1 := (_0.2 + 1) * 2"
    ∷ codes "done"
    ∷ [])
