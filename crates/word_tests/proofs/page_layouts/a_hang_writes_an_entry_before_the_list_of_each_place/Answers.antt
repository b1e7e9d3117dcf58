use Rattle.std.proofs.Common.{arith}
use Rattle.page_layout.proofs.Writable.{top_inside}
use Rattle.word_tests.proofs.page_layouts.a_hang_writes_an_entry_before_the_list_of_each_place.Goals as goal

pub lay-requires-clause-known : goal.lay-requires-clause-known
lay-requires-clause-known g c p l =
    top_inside c.in_ok-heap.heap.words.items p (let e = c.in_ok-heap.ensures.words.size in omega (arith, e, l))
