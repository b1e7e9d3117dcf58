use Rattle.std.proofs.Common.{ap}
use Rattle.fcp_text.specs.SourceClauses.{name_line}
use Rattle.fcp_text.proofs.Progress.{begin_as, go_on, stop, end}
use Rattle.fcp_text.proofs.write_clauses.write_name_line.Goals as goal

pub returns-in_err-put : goal.returns-in_err-put
returns-in_err-put g c =
    stop _ _ _ c.from_residual.ensures.0 c.in_err-put.ensures _
    (begin_as (ap (name_line c.args.names.now) c.in-Some.is))

pub returns-in_err-write_string : goal.returns-in_err-write_string
returns-in_err-write_string g c =
    stop _ _ _ c.from_residual-in_err-write_string.ensures.0 c.in_err-write_string.ensures _
    (go_on c.in_ok-put.ensures (begin_as (ap (name_line c.args.names.now) c.in-Some.is)))

pub returns : goal.returns
returns g c =
    end _ _ _ _ (go_on c.in_ok-write_string.ensures
    (go_on c.in_ok-put.ensures (begin_as (ap (name_line c.args.names.now) c.in-Some.is)))) c.put-2.ensures
