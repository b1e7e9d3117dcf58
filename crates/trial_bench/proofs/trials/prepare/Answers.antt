use Rattle.std.proofs.Common.{subst}
use Rattle.std.specs.Prelude.{IfSome}
use Rattle.laid_texts.specs.Texts.{IsLaidText}
use Rattle.trial_bench.proofs.trials.prepare.Goals as goal

pub returns-clause-process : goal.returns-clause-process
returns-clause-process c =
    let file = c.as_bytes-module.result.now in
    let text = c.as_bytes-goal.result.now in
    let laid = c.in-Some.laid in
    let k = subst (λ o. IfSome o (IsLaidText file text)) c.in-Some.is c.in_ok-laid.ensures in
    c.first_processes_have_a_status.ensures laid.heap k.source k.text laid.process k.fresh k.lays
