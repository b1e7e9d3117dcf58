use Rattle.std.proofs.Common.{[], subst}
use Rattle.heap_words.specs.Trails.{WordList}
use Rattle.heap_words.proofs.Keeps.{loaded_twice, still_says}
use Rattle.ro_unify.proofs.Ending.{tame_later}
use Rattle.guard_tests.specs.Evaluation.{Reckons}
use Rattle.guard_tests.specs.Forms.{OrdersAfter}
use Rattle.guard_tests.proofs.Evaluating.{steps_lead}
use Rattle.guard_tests.proofs.guard.test_order.Goals as goal

pub test_right-requires-clause-tame : goal.test_right-requires-clause-tame
test_right-requires-clause-tame g c = tame_later g.met.W.Words.laws c.in_ok-first.ensures.loaded c.reckon.ensures.binds c.requires.tame

pub test_right-requires-clause-leads : goal.test_right-requires-clause-leads
test_right-requires-clause-leads g c =
    steps_lead (g.W.Words.leads c.args.words.now) (g.W.Words.leads c.reckon.new.words) c.args.right.now
    (λ w. g.met.W.Words.laws.stays_leading _ _ w c.reckon.ensures.between) c.requires.right

pub returns-clause-loaded : goal.returns-clause-loaded
returns-clause-loaded g c = loaded_twice g.met.W.Words.laws c.in_ok-first.ensures.loaded c.in_ok-answer.ensures.loaded

pub returns-clause-orders : goal.returns-clause-orders
returns-clause-orders g c m i = record {
  first = c.in_ok-first.first;
  between = c.reckon.new.trail.reads.items;
  reckons = still_says g.met.W.Words.laws
      (λ m. Reckons c.args.trail.now.binds m c.args.left.now [] c.args.trail.now.reads.items c.in_ok-first.first
      c.reckon.new.trail.reads.items) c.in_ok-answer.ensures.loaded c.in_ok-first.ensures.reckons m i;
  after = subst (λ (bs : WordList). OrdersAfter bs m c.args.op c.in_ok-first.first c.args.right.now c.reckon.new.trail.reads.items
      c.in_ok-answer.answer c.test_right.new.trail.reads.items) c.reckon.ensures.binds (c.in_ok-answer.ensures.orders m i);
}
