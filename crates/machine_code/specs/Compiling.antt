-- What the code of a module says.
use Rattle.std.specs.Prelude.{ℕ, zero, suc, List, map, Option, Some, None, slice_get}
use Rattle.fcp_model.specs.declared.names.Sym.{Sym}
use Rattle.heap_words.specs.declared.steps.ExprStep.{ExprStep}
use Rattle.machine_code.specs.declared.instr.Instr.{Instr}
use Rattle.machine_code.specs.declared.code.ClauseSize.{ClauseSize}
use Rattle.machine_code.specs.declared.code.Procedure.{Procedure}
use Rattle.machine_code.specs.Machine.{Entrance, Compiled}
use Rattle.machine_code.specs.Reading.{op_of}

-- the code of a module as lists: instructions, the steps and Smalls that they name, the procedures by number, and a number
-- above that of each slot
pub record Tables : Type 0 where
  pub instrs : List Instr
  pub steps : List ExprStep
  pub smalls : List ℕ
  pub procedures : List Entrance
  pub slots : ℕ

-- where a procedure begins, with its clauses
abbrev pub entrance_of : Procedure → Entrance
entrance_of p = record { name = p.name.name.0; arity = p.name.arity; first = p.first; clauses = p.clauses.items }

-- the lists of a module's code
abbrev pub tables : List Instr → List ExprStep → List ℕ → List Procedure → ℕ → Tables
tables instrs steps smalls procedures slots =
    record { instrs = instrs; steps = steps; smalls = smalls; procedures = map entrance_of procedures; slots = slots }

-- the code with what its instructions name
abbrev pub compiled : Tables → Compiled
compiled t = record { ops = map (op_of t.smalls t.steps) t.instrs; procedures = t.procedures }

-- a procedure's name, by its number, with the number of arguments: as it is answered, and as it is kept
abbrev pub name_said : Sym × ℕ → ℕ × ℕ
name_said n = (n.0.0, n.1)

abbrev pub name_kept : Entrance → ℕ × ℕ
name_kept e = (e.name, e.arity)

-- what is known of a procedure's clause of a number from 1; nothing where there is no such clause
abbrev pub clause_at : List Entrance → ℕ → ℕ → Option ClauseSize
clause_at ps p zero = None
clause_at ps p (suc k) = elim (slice_get ps p) [ None ↦ None | Some e ↦ slice_get e.clauses k ]
