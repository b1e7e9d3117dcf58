use Rattle.std.proofs.Common.{◌≡◌, ◌≤◌, length, map, take}
use Rattle.fcp_model.specs.ProcedureNames.{procedure_names, positions_in}
use Rattle.fcp_model.proofs.procedure_index.ProcedureIndex.of.Given as goal

-- the procedures of the clauses so far, and the positions of their clauses
abbrev pub invariant-loop-at : goal.invariant-loop-at
invariant-loop-at l =
    record {
      names : l.names.keys ≡ procedure_names (take l.at l.clauses);
      few : length l.names.keys ≤ l.at;
      positions : map (λ v. v.items) l.positions.items ≡ positions_in (take l.at l.clauses);
    }
