use Rattle.std.proofs.Common.{refl}
use Rattle.fcp_text.proofs.EmptyTexts.{clause_parts}
use Rattle.fcp_text.proofs.Progress.{begin_as, go_on, stop, end}
use Rattle.fcp_text.proofs.write_clauses.write_clause.Goals as goal

pub returns-in_err-write_named : goal.returns-in_err-write_named
returns-in_err-write_named g c =
    stop _ _ _ c.from_residual.ensures.0 c.in_err-write_named.ensures _
    (begin_as
    (clause_parts c.args.names.now c.args.clause.now c.as_slice.result.now c.args.clause.now.guard c.args.clause.now.body c.as_slice.ensures
    refl refl))

pub returns-in_err-write_tail : goal.returns-in_err-write_tail
returns-in_err-write_tail g c =
    stop _ _ _ c.from_residual-in_err-write_tail.ensures.0 c.in_err-write_tail.ensures _
    (go_on c.in_ok-write_named.ensures
    (begin_as
    (clause_parts c.args.names.now c.args.clause.now c.as_slice.result.now c.as_slice-2.result.now c.as_slice-3.result.now
    c.as_slice.ensures c.as_slice-2.ensures c.as_slice-3.ensures)))

pub returns : goal.returns
returns g c =
    end _ _ _ _ (go_on c.in_ok-write_tail.ensures
    (go_on c.in_ok-write_named.ensures
    (begin_as
    (clause_parts c.args.names.now c.args.clause.now c.as_slice.result.now c.as_slice-2.result.now c.as_slice-3.result.now
    c.as_slice.ensures c.as_slice-2.ensures c.as_slice-3.ensures)))) c.put.ensures
