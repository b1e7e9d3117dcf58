use Rattle.std.proofs.Common.{take}
use Rattle.std.specs.List.{AllZip}
use Rattle.commit_engine.specs.PlainHalls.{IsSame}
use Rattle.log_replay.specs.Replays.{IsAtRest}
use Rattle.log_replay.specs.Waits.{AreTold}
use Rattle.log_replay.proofs.waits.all_places.Given as goal

abbrev pub invariant-loop-process : goal.invariant-loop-process
invariant-loop-process l = record {
  same : IsSame l.fn.hall l.hall;
  rest : IsAtRest l.hall;
  told : AllZip (λ q v. AreTold l.code l.fn.hall.words.items q v.items) (take l.process-index l.processes) l.all.items;
}
