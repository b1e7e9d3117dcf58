use Rattle.std.proofs.Common.{false}
use Rattle.heap_words.proofs.Keeps.{loaded_twice, still_says}
use Rattle.ro_unify.specs.Occurs.{stack}
use Rattle.ro_unify.specs.Value.{Values}
use Rattle.ro_unify.proofs.Leads.{pairs_stay}
use Rattle.ro_unify.proofs.Ending.{tame_later}
use Rattle.ro_unify.proofs.Turns.{turned_as, moves_ready}
use Rattle.ro_unify.proofs.unification.treat.Goals as goal

pub returns-clause-loaded : goal.returns-clause-loaded
returns-clause-loaded g c = loaded_twice g.met.W.Words.laws c.in_ok-values.ensures.loaded c.in_ok-done.ensures.loaded

pub returns-clause-turned : goal.returns-clause-turned
returns-clause-turned g c m i =
    turned_as m c.args.trail.now.binds c.args.trail.now.reads.items (c.args.left, c.args.right)
    (stack c.args.work.now.items) c.in_ok-values.values.0 c.in_ok-values.values.1 _ _ _ c.in_ok-done.done c.two_values.new.trail.binds
    c.two_values.new.trail.reads.items c.move_of-step.result
    c.two_values.ensures.binds c.in_ok-values.ensures.reads c.move_of-step.ensures
    (still_says g.met.W.Words.laws
    (λ m. Values c.args.trail.now.binds m false c.args.left c.in_ok-values.values.0) c.in_ok-done.ensures.loaded
    c.in_ok-values.ensures.left m i)
    (still_says g.met.W.Words.laws
    (λ m. Values c.args.trail.now.binds m false c.args.right c.in_ok-values.values.1) c.in_ok-done.ensures.loaded
    c.in_ok-values.ensures.right m i)
    (c.in_ok-done.ensures.acts m i)

pub returns-clause-lead : goal.returns-clause-lead
returns-clause-lead g c h =
    c.in_ok-done.ensures.leads (pairs_stay g.met.W.Words.laws _ _ (stack c.args.work.now.items) c.two_values.ensures.between h)

pub turn-requires-clause-tame : goal.turn-requires-clause-tame
turn-requires-clause-tame g c = tame_later g.met.W.Words.laws c.in_ok-values.ensures.loaded c.two_values.ensures.binds c.requires.tame

pub turn-requires-clause-ready : goal.turn-requires-clause-ready
turn-requires-clause-ready g c =
    moves_ready g.met.W.Words.laws c.args.left c.args.right c.in_ok-values.values.0 c.in_ok-values.values.1 c.move_of-step.result
    c.in_ok-values.ensures.loaded c.two_values.ensures.binds c.move_of-step.ensures c.in_ok-values.ensures.lead.0
    c.in_ok-values.ensures.lead.1 c.in_ok-values.ensures.left c.in_ok-values.ensures.right
