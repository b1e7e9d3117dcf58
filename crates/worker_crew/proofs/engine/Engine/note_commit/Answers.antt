use Rattle.std.proofs.Common.{ap, refl, ◌∙◌, ◌++◌, ◌-◌}
use Rattle.worker_crew.proofs.Noting.{commit_noted}
use Rattle.worker_crew.proofs.engine.Engine.note_commit.Goals as goal

pub returns-clause-reached : goal.returns-clause-reached
returns-clause-reached c = λ t moved is.
    commit_noted t c.args.self.now moved _ refl refl refl refl c.leading_moves.ensures.commit c.front_moves.ensures.event is
    (c.in_ok-push_all-2.ensures ∙ ap (λ l. c.push_all.new.queue.items ++ l) c.as_slice-2.ensures.value
    ∙ ap (λ l. l ++ c.args.self.now.planner.woken.items)
    (c.in_ok-push_all.ensures ∙ ap (λ l. c.args.self.now.queue.items ++ l) c.as_slice.ensures.value))
    (ap (λ n. c.args.self.now.asleep - n) (c.len.ensures ∙ c.args.self.now.planner.woken.ok.0))
