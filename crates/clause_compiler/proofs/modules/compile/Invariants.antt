use Rattle.clause_compiler.proofs.CompileLoops.{ProceduresLeft}
use Rattle.clause_compiler.proofs.modules.compile.Given as goal

abbrev pub invariant-loop-number : goal.invariant-loop-number
invariant-loop-number l = ProceduresLeft l.loaded l.initial.code l.code l.procedures.items l.number
