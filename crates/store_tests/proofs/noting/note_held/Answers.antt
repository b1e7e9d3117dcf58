use Rattle.std.proofs.Common.{arith, ◌<◌, ◌+◌, ◌*◌, ◌∙◌}
use Rattle.word_commit.specs.Shows.{given_of, view_of}
use Rattle.store_tests.proofs.NoteMoves.{Slot, top_known, slot_primed, note_may}
use Rattle.store_tests.proofs.noting.note_held.Goals as goal

pub stamp-requires-clause-may : goal.stamp-requires-clause-may
stamp-requires-clause-may c n small =
    let g = given_of c.args.store.now in
    let page = c.args.page in
    let t = c.load-word.result in
    let top = top_known (view_of c.args.seat.now) (view_of c.load-word.new.seat) page t c.requires.held c.load-word.ensures.view in
    let low : 1024 * page < t = let a = c.from.ensures in let b = c.if-word-from.false in omega arith in
    let high : t < 1024 * page + 1024 = let a = c.from-else-word-from.ensures in let b = c.if-word-from-2.false in omega arith in
    let slot : Slot g (view_of c.prime.new.seat) page t
    = slot_primed g (view_of c.load-word.new.seat) (view_of c.prime.new.seat) page t c.requires.page.0 c.requires.page.1 low high
    top.1 (top.2 ∙ c.requires.idle) top.0 c.prime.ensures.view in
    note_may g (view_of c.prime.new.seat) page t slot n
