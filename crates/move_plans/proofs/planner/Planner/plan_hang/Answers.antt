use Rattle.std.proofs.Common.{subst, sym, ℕ}
use Rattle.move_plans.specs.Plans.{IsLargePlan}
use Rattle.move_plans.proofs.Large.{large_hang}
use Rattle.move_plans.proofs.planner.Planner.plan_hang.Goals as goal

pub returns-then-cells-left-clause-says : goal.returns-then-cells-left-clause-says
returns-then-cells-left-clause-says g c = (
  subst (λ (n : ℕ). IsLargePlan c.args.code.now c.args.self.now c.args.process n) (sym c.in_ok-cells.ensures.cells)
      (large_hang c.args.code.now c.args.self.now c.args.process c.args.name c.requires.mover c.requires.decided),
  c.if-cells-left.true,
)
