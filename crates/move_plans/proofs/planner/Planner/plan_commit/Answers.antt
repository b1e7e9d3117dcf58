use Rattle.trial_machine.proofs.Loading.{loads_on}
use Rattle.move_plans.proofs.Large.{large_commit}
use Rattle.move_plans.proofs.planner.Planner.plan_commit.Goals as goal

pub returns-then-cells-left-clause-says : goal.returns-then-cells-left-clause-says
returns-then-cells-left-clause-says g c = (
  large_commit c.args.code.now c.read_cells.new.self c.args.process c.args.name c.in_ok-cells.cells c.in_ok-cells.ensures.mover
      c.in_ok-cells.ensures.decided c.in_ok-cells.ensures.cells,
  c.if-cells-left.true,
)

pub returns-clause-loaded : goal.returns-clause-loaded
returns-clause-loaded g c =
    loads_on g.met.W.Words.laws c.args.self.now.machine.trail.kept c.read_cells.new.self.machine.trail.kept
    c.plan_small_commit.new.self.machine.trail.kept c.args.words.now c.read_cells.new.words c.plan_small_commit.new.words
    c.read_cells.ensures.between c.plan_small_commit.ensures.between c.in_ok-cells.ensures.loaded c.in_ok-planned.ensures.loaded
