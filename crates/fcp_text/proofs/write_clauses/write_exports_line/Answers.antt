use Rattle.std.proofs.Common.{refl}
use Rattle.fcp_text.proofs.EmptyTexts.{exports_parts}
use Rattle.fcp_text.proofs.Progress.{begin_as, go_on, stop, end}
use Rattle.fcp_text.proofs.write_clauses.write_exports_line.Goals as goal

pub returns-in_err-put : goal.returns-in_err-put
returns-in_err-put g c =
    stop _ _ _ c.from_residual.ensures.0 c.in_err-put.ensures _
    (begin_as (exports_parts c.args.names.now c.args.exports.now c.in-Some.exports c.in-Some.exports c.in-Some.is refl))

pub returns-in_err-write_exports : goal.returns-in_err-write_exports
returns-in_err-write_exports g c =
    stop _ _ _ c.from_residual-in_err-write_exports.ensures.0 c.in_err-write_exports.ensures _
    (go_on c.in_ok-put.ensures (begin_as
    (exports_parts c.args.names.now c.args.exports.now c.in-Some.exports c.as_slice.result.now c.in-Some.is c.as_slice.ensures)))

pub returns : goal.returns
returns g c =
    end _ _ _ _ (go_on c.in_ok-write_exports.ensures
    (go_on c.in_ok-put.ensures (begin_as
    (exports_parts c.args.names.now c.args.exports.now c.in-Some.exports c.as_slice.result.now c.in-Some.is c.as_slice.ensures))))
    c.put-2.ensures
