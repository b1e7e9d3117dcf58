use Rattle.std.proofs.Common.{arith}
use Rattle.page_layout.proofs.Writable.{top_inside}
use Rattle.word_tests.proofs.page_layouts.a_commit_writes_what_it_binds_wakes_and_makes.Goals as goal

pub lay-requires-clause-known : goal.lay-requires-clause-known
lay-requires-clause-known g c p l =
    top_inside c.in_ok-heap.heap.words.items p (let e = c.in_ok-heap.ensures.words.size in omega (arith, e, l))
