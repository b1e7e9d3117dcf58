use Rattle.std.proofs.Common.{◌≡◌, take, ◌++◌}
use Rattle.word_states.specs.Planning.{ready_words}
use Rattle.suspension_lists.proofs.waiting.put_writes.Given as goal

abbrev pub invariant-loop-process : goal.invariant-loop-process
invariant-loop-process l = l.writes.items ≡ l.fn.writes.items ++ ready_words (take l.process-index l.processes)
