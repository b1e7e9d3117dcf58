use Rattle.std.proofs.Common.{arith, ap, sym, ◌∙◌}
use Rattle.goal_layout.specs.FirstFit.{fit}
use Rattle.goal_layout.specs.Pages.{rooms}
use Rattle.goal_layout.proofs.Taking.{took, too_small, takes_nothing}
use Rattle.goal_layout.proofs.pages.take.Goals as goal

pub returns-then-size-first-clause-taken : goal.returns-then-size-first-clause-taken
returns-then-size-first-clause-taken c =
    took c.loop-page.words c.args.words.now c.loop-page.page c.args.size c.top_of-top.result c.encode.result c.loop-page.invariant.0
    c.requires.pages c.requires.some (omega arith) c.top_of-top.ensures (omega arith) c.encode.ensures.value c.loop-page.invariant.1

pub loop-page-preserved : goal.loop-page-preserved
loop-page-preserved c = (
  c.loop-page.invariant.0,
  too_small c.loop-page.words c.loop-page.page c.args.size c.top_of-top.result (omega arith) c.top_of-top.ensures (omega arith)
      c.loop-page.invariant.1,
)

pub returns-clause-none : goal.returns-clause-none
returns-clause-none c =
    ap (λ ws. fit c.args.size (rooms ws)) (sym c.loop-page.invariant.0)
    ∙ takes_nothing c.loop-page.words c.args.size (λ q h. c.loop-page.invariant.1 q (omega arith))
