use Rattle.std.proofs.Common.{ap}
use Rattle.fcp_text.specs.SourceClauses.{clauses_text}
use Rattle.fcp_text.proofs.Progress.{go_on, stop, finish, moved}
use Rattle.fcp_text.proofs.PartedTexts.{drop_at, drop_none}
use Rattle.fcp_text.proofs.write_clauses.write_clauses.Goals as goal

pub returns-in_err-write_clause : goal.returns-in_err-write_clause
returns-in_err-write_clause g c =
    stop _ _ _ c.from_residual.ensures.0 c.in_err-write_clause.ensures _
    (moved (ap (clauses_text c.args.names.now)
    (drop_at c.args.clauses.now c.loop-clause.clause-index c.clause-item.result c.loop-clause-test.true c.clause-item.is))
    c.loop-clause.invariant)

pub returns-in_err-put : goal.returns-in_err-put
returns-in_err-put g c =
    stop _ _ _ c.from_residual-in_err-put.ensures.0 c.in_err-put.ensures _
    (go_on c.in_ok-write_clause.ensures
    (moved (ap (clauses_text c.args.names.now)
    (drop_at c.args.clauses.now c.loop-clause.clause-index c.clause-item.result c.loop-clause-test.true c.clause-item.is))
    c.loop-clause.invariant))

pub loop-clause-preserved : goal.loop-clause-preserved
loop-clause-preserved g c =
    go_on c.in_ok-put.ensures (go_on c.in_ok-write_clause.ensures
    (moved (ap (clauses_text c.args.names.now)
    (drop_at c.args.clauses.now c.loop-clause.clause-index c.clause-item.result c.loop-clause-test.true c.clause-item.is))
    c.loop-clause.invariant))

pub returns : goal.returns
returns g c =
    finish (moved (ap (clauses_text c.args.names.now)
    (drop_none c.args.clauses.now c.loop-clause.clause-index c.loop-clause-test.false)) c.loop-clause.invariant)
