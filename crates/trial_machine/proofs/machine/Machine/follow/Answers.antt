use Rattle.trial_machine.proofs.Stretches.{twice_loaded}
use Rattle.trial_machine.proofs.Trying.{further, is_further, keeps_twice, steps_as}
use Rattle.trial_machine.proofs.machine.Machine.follow.Goals as goal

pub loop-instr-preserved : goal.loop-instr-preserved
loop-instr-preserved g c = record {
  between = g.met.W.Words.laws.twice _ _ _ c.loop-instr.invariant.between c.step.ensures.between;
  loaded = twice_loaded g.met.W.Words.laws c.loop-instr.invariant.between c.step.ensures.between c.loop-instr.invariant.loaded
      c.in_ok-next.ensures.loaded;
  on_way = is_further c.args.code.now c.loop-instr.self c.step.new.self c.loop-instr.at c.in-To.next
      (steps_as c.args.code.now c.loop-instr.self c.step.new.self c.loop-instr.at _ _ c.in-To.is c.in_ok-next.ensures.steps)
      c.loop-instr.invariant.on_way;
  ways = further c.args.code.now c.args.self.now c.loop-instr.self c.step.new.self c.args.from c.loop-instr.at c.in-To.next
      (steps_as c.args.code.now c.loop-instr.self c.step.new.self c.loop-instr.at _ _ c.in-To.is c.in_ok-next.ensures.steps)
      c.loop-instr.invariant.ways;
  keeps = keeps_twice c.args.self.now c.loop-instr.self c.step.new.self c.loop-instr.invariant.keeps c.step.ensures.keeps;
}

pub returns-in-Left-clause-loaded : goal.returns-in-Left-clause-loaded
returns-in-Left-clause-loaded g c = twice_loaded g.met.W.Words.laws c.loop-instr.invariant.between c.step.ensures.between
    c.loop-instr.invariant.loaded c.in_ok-next.ensures.loaded

pub returns-in-Commits-clause-loaded : goal.returns-in-Commits-clause-loaded
returns-in-Commits-clause-loaded g c = twice_loaded g.met.W.Words.laws c.loop-instr.invariant.between c.step.ensures.between
    c.loop-instr.invariant.loaded c.in_ok-next.ensures.loaded

pub returns-in-Nowhere-clause-loaded : goal.returns-in-Nowhere-clause-loaded
returns-in-Nowhere-clause-loaded g c = twice_loaded g.met.W.Words.laws c.loop-instr.invariant.between c.step.ensures.between
    c.loop-instr.invariant.loaded c.in_ok-next.ensures.loaded
