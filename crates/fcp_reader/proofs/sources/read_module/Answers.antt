use Rattle.std.proofs.Common.{subst, Err}
use Rattle.fcp_reader.specs.Refusals.{Refuses}
use Rattle.fcp_reader.specs.Texts as terminals
use Rattle.fcp_reader.proofs.Sourced.{module-refused}
use Rattle.fcp_reader.proofs.sources.read_module.Goals as goal

pub returns-clause-read : goal.returns-clause-read
returns-clause-read c =
    module-refused c.args.names.now c.args.bytes.now c.in-Ok.tokens c.terminals_of.new.names c.in-Ok-terminals_of.read.variables
    c.in-Ok-terminals_of.read.terminals
    c.in-Err-module_of.stopped c.refusal.result c.in-Ok.ensures (rw c.as_slice.ensures at c.in-Ok-terminals_of.ensures.value)
    (subst (λ ws. terminals.ReadsModule ws (Err c.in-Err-module_of.stopped)) c.as_slice-2.ensures c.in-Err-module_of.ensures)
    (subst
    (λ ts. Refuses c.args.bytes.now ts c.in-Err-module_of.stopped c.refusal.result) c.as_slice-in-Err-module_of.ensures c.refusal.ensures)
