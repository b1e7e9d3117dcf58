use Rattle.std.proofs.Common.{Option, sym, subst}
use Rattle.fcp_model.specs.declared.names.Sym.{Sym}
use Rattle.fcp_model.specs.Places.{place, placed}
use Rattle.fcp_model.specs.Terms.{var}
use Rattle.fcp_model.specs.ReportText.{variable_line}
use Rattle.entry_lines.specs.Additions.{Adds}
use Rattle.entry_lines.proofs.Adding.{variable_added}
use Rattle.entry_lines.proofs.variables.push_variable.Goals as goal

pub returns-clause-text : goal.returns-clause-text
returns-clause-text g c w book s has stands at =
    subst (λ (v : Option Sym). Adds c.args.out.now.items c.push_bytes-2.new.text.items
    (λ n. variable_line n c.args.names.now s.bound v (var (placed 0 c.args.number)))) (sym c.in-Some.is)
    (variable_added c.args.names.now s.bound c.in-Some.name c.args.number _ _ _ _ _ c.in_ok-push_name.ensures c.in_ok-push_bytes.ensures.ok
    (c.in_ok-push_value.ensures.text w book s has stands (place 0 c.args.number) at) c.in_ok-push_bytes-2.ensures.ok)
