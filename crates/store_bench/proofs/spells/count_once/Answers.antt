use Rattle.word_commit.specs.Shows.{given_of, view_of}
use Rattle.store_bench.proofs.Adding.{may_count, counted}
use Rattle.store_bench.proofs.spells.count_once.Goals as goal

pub stamp-requires-clause-may : goal.stamp-requires-clause-may
stamp-requires-clause-may c n small =
    may_count (given_of c.args.store.now) (view_of c.args.seat.now) c.args.page c.args.top c.args.had c.requires.counter n

pub returns-clause-counter : goal.returns-clause-counter
returns-clause-counter c =
    counted (given_of c.args.store.now) (view_of c.args.seat.now) c.args.page c.args.top c.args.had c.requires.counter c.stamp.result
    (view_of c.stamp.new.seat) (view_of c.publish.new.seat) c.stamp.ensures.view c.publish.ensures.view
