use Rattle.std.proofs.Common.{sym, subst}
use Rattle.fcp_terminals.proofs.Keeping.{Kept, starts}
use Rattle.fcp_terminals.proofs.terminals.terminals_of.Goals as goal

pub loop-rest-init : goal.loop-rest-init
loop-rest-init c =
    subst
    (λ ws. Kept c.args.form c.args.names.now c.args.text.now c.args.tokens.now c.args.names.now c.empty-variables.result ws
    c.args.tokens.now) (sym c.empty-terminals.ensures)
    (subst (λ vs. Kept c.args.form c.args.names.now c.args.text.now c.args.tokens.now c.args.names.now vs _ c.args.tokens.now)
    (sym c.empty-variables.ensures)
    (starts c.args.form c.args.names.now c.args.text.now c.args.tokens.now c.requires))
