use Rattle.std.proofs.Common.{sym, subst}
use Rattle.fcp_text.specs.Tokens.{tokens_in}
use Rattle.fcp_text.proofs.Cuts.{Kept, gap_kept, token_more, bad_kept, end_kept, none_kept}
use Rattle.fcp_text.proofs.lexer.tokens_in.Goals as goal

pub loop-at-init : goal.loop-at-init
loop-at-init c = subst (λ v. Kept c.args.bytes.now v _ 0) (sym c.empty-found.ensures) (none_kept c.args.bytes.now)

pub loop-at-preserved-in-Gap : goal.loop-at-preserved-in-Gap
loop-at-preserved-in-Gap c =
    gap_kept c.args.bytes.now c.loop-at.found c.loop-at.may_sign c.loop-at.at c.loop-at.invariant c.in-Gap.len c.in-Gap.ensures.value
    c.in-Gap.ensures.within

pub loop-at-preserved : goal.loop-at-preserved
loop-at-preserved c =
    token_more c.args.bytes.now c.loop-at.found c.loop-at.may_sign c.loop-at.at c.loop-at.invariant c.in-Token.kind c.in-Token.len
    c.in-Ok.more c.sign_after-may_sign.result
    c.loop-at-test.true c.in-Token.ensures.value c.in-Token.ensures.within c.in-Ok.ensures c.sign_after-may_sign.ensures

pub returns-in-Bad : goal.returns-in-Bad
unfolding tokens_in
returns-in-Bad c =
    bad_kept c.args.bytes.now c.loop-at.found c.loop-at.may_sign c.loop-at.at c.loop-at.invariant c.in-Bad.code c.loop-at-test.true
    c.in-Bad.ensures.value

pub returns : goal.returns
unfolding tokens_in
returns c = end_kept c.args.bytes.now c.loop-at.found c.loop-at.may_sign c.loop-at.at c.loop-at.invariant c.loop-at-test.false
