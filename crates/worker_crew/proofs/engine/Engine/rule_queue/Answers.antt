use Rattle.std.proofs.Common.{sym, ◌∙◌}
use Rattle.worker_crew.proofs.Ending.{ended_here, open_counted}
use Rattle.worker_crew.proofs.Measures.{at_end}
use Rattle.worker_crew.specs.Reached.{counts_of}
use Rattle.worker_crew.proofs.engine.Engine.rule_queue.Goals as goal

pub returns-then-is_at_end : goal.returns-then-is_at_end
returns-then-is_at_end c =
    let t = c.args.task.now in
    let e = c.args.self.now in
    ended_here t e c.requires.reached c.ends.ensures.end c.counts.ensures.outcome
    (at_end t e c.requires.going (sym c.is_at_end.ensures ∙ c.if-is_at_end.true)) c.open_outcome.result
    (open_counted e.queue.items (counts_of t e) c.open_outcome.result c.requires.going.mode (c.open_outcome.ensures t))
