use Rattle.std.proofs.Common.{◌<◌, length, sym, ◌∙◌, arith}
use Rattle.std.proofs.lemmas.Bool.{eqb-true}
use Rattle.std.proofs.lemmas.Bool.Decides.{nat_tests}
use Rattle.entry_lines.proofs.SoFar.{woken_behind, none_woken}
use Rattle.entry_lines.proofs.commits.push_woken.Goals as goal

pub returns-then-is_empty-clause-text : goal.returns-then-is_empty-clause-text
returns-then-is_empty-clause-text g c =
    none_woken _ c.args.processes.now _ (eqb-true _ _ (sym c.is_empty.ensures ∙ c.if-is_empty.true))

pub returns-clause-text : goal.returns-clause-text
returns-clause-text g c =
    let some : 0 < length c.args.processes.now = grind (arith, nat_tests) in
    woken_behind _ c.args.processes.now _ _ _ some c.in_ok-push_bytes.ensures.ok c.in_ok-push_process_names.ensures.text
