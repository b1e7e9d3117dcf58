use Rattle.std.proofs.Common.{ap, sym, ◌++◌}
use Rattle.fcp_text.specs.SourceClauses.{name_line, exports_line, clauses_text}
use Rattle.fcp_text.proofs.Progress.{begin, begin_as, go_on, stop, end}
use Rattle.fcp_text.proofs.write_clauses.write_module.Goals as goal

pub returns-in_err-write_name_line : goal.returns-in_err-write_name_line
returns-in_err-write_name_line g c = stop _ _ _ c.from_residual.ensures.0 c.in_err-write_name_line.ensures _ begin

pub returns-in_err-write_exports_line : goal.returns-in_err-write_exports_line
returns-in_err-write_exports_line g c =
    stop _ _ _ c.from_residual-in_err-write_exports_line.ensures.0 c.in_err-write_exports_line.ensures _
    (go_on c.in_ok-write_name_line.ensures begin)

pub returns : goal.returns
returns g c =
    end _ _ _ _ (go_on c.in_ok-write_exports_line.ensures
    (go_on c.in_ok-write_name_line.ensures
    (begin_as (ap (λ cs. name_line c.args.names.now c.args.module.now.name
    ++ (exports_line c.args.names.now c.args.module.now.exports ++ clauses_text c.args.names.now cs))
    (sym c.as_slice.ensures))))) c.write_clauses.ensures
