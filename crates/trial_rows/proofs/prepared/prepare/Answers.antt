use Rattle.std.proofs.Common.{subst}
use Rattle.std.specs.Prelude.{IfSome}
use Rattle.laid_texts.specs.Texts.{IsLaidText}
use Rattle.trial_rows.proofs.Preparing.{laid_prepared}
use Rattle.trial_rows.proofs.prepared.prepare.Goals as goal

pub returns-in-Some : goal.returns-in-Some
returns-in-Some c =
    let file = c.as_bytes-file.result.now in
    let text = c.as_bytes-goal.result.now in
    laid_prepared file text c.in-Some.laid (subst (λ o. IfSome o (IsLaidText file text)) c.in-Some.is c.in_ok-laid.ensures)
