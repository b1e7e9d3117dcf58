use Rattle.heap_words.specs.Heaps.{AreFresh}
use Rattle.heap_words.proofs.heap.PlainHeap.make.Given as goal

abbrev pub invariant-loop-addr : goal.invariant-loop-addr
invariant-loop-addr l = AreFresh l.addr l.words.items
