use Rattle.std.proofs.Common.{◌*◌, arith}
use Rattle.heap_words.specs.Heaps.{AreFresh}
use Rattle.heap_words.proofs.QuietHeaps.{quiet_heap, fresh_quiet}
use Rattle.heap_words.proofs.heap.PlainHeap.make.Goals as goal

pub returns-clause-heap : goal.returns-clause-heap
returns-clause-heap c =
    let fresh : AreFresh (1024 * c.args.pages) c.loop-addr.words.items = record {
      size = omega arith;
      each = λ a h. c.loop-addr.invariant.each a (omega arith);
    } in
    quiet_heap c.args.pages c.loop-addr.words.items (fresh_quiet c.args.pages c.loop-addr.words.items c.requires fresh)
