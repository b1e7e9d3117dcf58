use Rattle.std.proofs.Common.{ℕ, ◌≤◌, ◌<◌, length, length-take, length-drop, sym, arith}
use Rattle.fcp_text.proofs.Progress.{begin, go_on, stop, end, moved}
use Rattle.fcp_text.proofs.QuotedRuns.{quote_step, quote_within, no_quote}
use Rattle.fcp_text.proofs.write_bytes.write_doubled.Goals as goal

pub loop-at-init : goal.loop-at-init
loop-at-init g c = (begin, omega arith)

pub overflow_add-at : goal.overflow_add-at
overflow_add-at g c =
    let lt : c.in-Some.at < length c.loop-at.rest.now = quote_within c.loop-at.rest.now c.in-Some.at (sym c.in-Some.ensures) in
    omega (arith, c.loop-at.invariant.1)

pub returns-in_err-put : goal.returns-in_err-put
returns-in_err-put g c =
    stop _ _ _ c.from_residual.ensures.0 c.in_err-put.ensures _
    (moved (quote_step c.loop-at.rest.now c.in-Some.at (sym c.in-Some.ensures)) c.loop-at.invariant.0)

pub returns-in_err-put-2 : goal.returns-in_err-put-2
returns-in_err-put-2 g c =
    stop _ _ _ c.from_residual-in_err-put-2.ensures.0 c.in_err-put-2.ensures _
    (go_on c.in_ok-put.ensures (moved (quote_step c.loop-at.rest.now c.in-Some.at (sym c.in-Some.ensures)) c.loop-at.invariant.0))

pub overflow_add-rest : goal.overflow_add-rest
overflow_add-rest g c =
    let lt : c.in-Some.at < length c.loop-at.rest.now = quote_within c.loop-at.rest.now c.in-Some.at (sym c.in-Some.ensures) in
    omega (arith, c.loop-at.invariant.1)

pub loop-at-preserved : goal.loop-at-preserved
loop-at-preserved g c = (
  go_on c.in_ok-put-2.ensures (go_on c.in_ok-put.ensures
      (moved (quote_step c.loop-at.rest.now c.in-Some.at (sym c.in-Some.ensures)) c.loop-at.invariant.0)),
  let h : length c.loop-at.rest.now ≤ length c.args.bytes.now =
      c.loop-at.invariant.1 in omega (arith, length-take {A = ℕ}, length-drop {A = ℕ}),
)

pub returns : goal.returns
returns g c = end _ _ _ _ (moved (no_quote c.loop-at.rest.now (sym c.in_default.ensures)) c.loop-at.invariant.0) c.put-2.ensures
