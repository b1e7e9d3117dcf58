use Rattle.heap_words.specs.Heaps.{inside_at}
use Rattle.commit_engine.specs.PlainHalls.{IsPlain, IsSame}
use Rattle.log_replay.proofs.Puts.{PutsFirst}
use Rattle.log_replay.proofs.ready_table.ReadyTable.put_all.Given as goal

abbrev pub invariant-loop-process : goal.invariant-loop-process
invariant-loop-process l = record {
  same : IsSame l.fn.hall l.hall;
  plain : IsPlain l.hall;
  puts : PutsFirst (inside_at l.fn.hall.words.items) l.processes l.process-index l.fn.self.addresses.entries l.self.addresses.entries;
}
