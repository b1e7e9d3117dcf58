use Rattle.std.proofs.Common.{◌≡◌, ◌++◌, take}
use Rattle.fcp_model.specs.LogText.{processes_text}
use Rattle.fcp_model.proofs.log_lines.push_processes.Given as goal

-- the names so far
abbrev pub invariant-loop-process : goal.invariant-loop-process
invariant-loop-process l = l.text.items ≡ l.fn.text.items ++ processes_text (take l.process-index l.processes)
