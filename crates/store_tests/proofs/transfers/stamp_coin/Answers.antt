use Rattle.std.proofs.Common.{arith, ◌∙◌, ◌*◌, ◌+◌}
use Rattle.word_commit.specs.Shows.{given_of, view_of}
use Rattle.store_tests.proofs.Moves.{Purse, may_move}
use Rattle.store_tests.proofs.transfers.stamp_coin.Goals as goal

pub stamp-requires-clause-may : goal.stamp-requires-clause-may
stamp-requires-clause-may c n small =
    let a = c.look-first_top in
    let b = c.look-second_top in
    let first = a.ensures.looks in
    let second = b.ensures.looks in
    let g = given_of c.args.store.now in
    let v = view_of b.new.seat in
    let p : Purse g v c.args.from c.args.to a.result.0 b.result.0 a.result.1 b.result.1 = record {
      pages = c.requires.pages;
      held = second.held ∙ first.held ∙ c.requires.held;
      idle = second.before.due ∙ first.before.due ∙ c.requires.idle;
      from_top = second.still (1024 * c.args.from, a.result.0) first.top;
      from_word = second.still (1024 * c.args.from + 1, a.result.1) first.word;
      to_top = second.top;
      to_word = second.word;
      from_above = let x = c.if-from-first_top.false in let y = c.from.ensures in omega arith;
      to_above = let x = c.if-from-second_top.false in let y = c.from-else-from-first_top.ensures in omega arith;
    } in
    may_move g v c.args.from c.args.to a.result.0 b.result.0 a.result.1 b.result.1 p n
