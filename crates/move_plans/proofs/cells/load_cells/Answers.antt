use Rattle.trial_machine.proofs.Loading.{loads_on}
use Rattle.move_plans.proofs.Reading.{number_more}
use Rattle.move_plans.proofs.cells.load_cells.Goals as goal

pub returns-clause-loaded : goal.returns-clause-loaded
returns-clause-loaded g c =
    loads_on g.met.W.Words.laws c.args.trail.now.kept c.load_number.new.trail.kept c.load_number-2.new.trail.kept c.args.words.now
    c.load_number.new.words c.load_number-2.new.words c.load_number.ensures.between c.load_number-2.ensures.between
    c.in_ok-procedure.ensures.loaded c.in_ok-count.ensures.loaded

pub returns-clause-cells : goal.returns-clause-cells
returns-clause-cells g c = (
  c.in_ok-procedure.procedure,
  c.in_ok-count.count,
  number_more c.load_number.new.trail.kept c.load_number-2.new.trail.kept _ c.in_ok-procedure.procedure c.in_ok-count.ensures.loaded.grows
      c.in_ok-procedure.ensures.number,
  c.in_ok-count.ensures.number,
  c.cells_if.ensures,
)
