use Rattle.trial_machine.specs.Deciding.{handed_over}
use Rattle.trial_machine.specs.declared.decide.Trial.TheVariants.{Commit}
use Rattle.move_plans.proofs.Reading.{are_reads, process_more, status_had}
use Rattle.move_plans.proofs.Rereading.{decided_more}
use Rattle.move_plans.proofs.planner.Planner.read_cells.Goals as goal

pub load_cells-requires-clause-process : goal.load_cells-requires-clause-process
load_cells-requires-clause-process g c =
    status_had g.met.W.Words.laws c.args.self.now.machine.trail.kept c.args.words.now c.args.process c.args.name c.requires.stored
    c.requires.mover

pub returns-clause-mover : goal.returns-clause-mover
returns-clause-mover g c =
    process_more c.args.self.now.machine.trail.kept c.load_cells.new.trail.kept c.args.process c.args.name
    c.in_ok-cells.ensures.loaded.grows c.requires.mover

pub returns-clause-decided : goal.returns-clause-decided
returns-clause-decided g c =
    decided_more c.args.code.now (handed_over c.args.self.now.machine) c.args.process Commit c.load_cells.new.trail.kept
    c.in_ok-cells.ensures.loaded.grows
    (are_reads g.met.W.Words.laws c.load_cells.new.trail.kept c.load_cells.new.words c.in_ok-cells.ensures.loaded.stored
    c.once.ensures.kept)
    c.requires.decided
