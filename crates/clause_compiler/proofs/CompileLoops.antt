-- Procedures of a module that are left.
use Rattle.std.proofs.Common.{◌≡◌, ℕ, suc, ◌+◌, ◌<◌, ◌≤◌, List, [], ◌∷◌, ◌++◌, length, map, drop, Some, None, refl, sym, ap, ◌∙◌, subst, append_assoc, append-nil, drop_of_length-le, arith}
use Rattle.std.specs.Prelude.{slice_get, option_map}
use Rattle.std.proofs.Math.Seq.{drop-cons}
use Rattle.std.proofs.lemmas.List.{map_push, length-map}
use Rattle.std.proofs.lemmas.Option.{slice_get-map, slice_get_within, get_or_from_slice_get}
use Rattle.fcp_model.specs.declared.goal.TheConstants.{TRUE_PROCEDURE}
use Rattle.fcp_model.specs.declared.source.Module.{Module}
use Rattle.fcp_model.specs.ProcedureNames.{procedure_names}
use Rattle.fcp_model.specs.Programs.{Clause, Program}
use Rattle.fcp_model.specs.Translation.{procedure_of, program_of}
use Rattle.head_code.specs.declared.emitter.Emitter.{Emitter}
use Rattle.machine_code.specs.declared.code.Procedure as procedure
use Rattle.clause_compiler.specs.ClauseCode.{nowhere, clauses_code, clauses_in, procedures_code, entrances}
use Rattle.machine_code.specs.Correct.{clause_size}
use Rattle.machine_code.specs.Reading.{op_of}
use Rattle.head_code.specs.Emitting.{IsFine, ops_of, Emits}
use Rattle.machine_code.specs.Compiling.{entrance_of, tables}
use Rattle.machine_code.specs.Correct.{facts_in_code, facts_in_source, MeansSource, NamesSource}
use Rattle.machine_code.specs.Each.{Each}
use Rattle.machine_code.specs.Sound.{IsFormed, NamesBelow, StepsBelow, IsSound}
use Rattle.machine_code.specs.Fresh.{no_tops, IsFresh}
use Rattle.machine_code.specs.Machine.{Compiled}
use Rattle.clause_compiler.proofs.FreshClauses.{program_fresh}
use Rattle.head_code.proofs.PutLoops.{Remains, all_remains, remains_as, fewer_remain, none_remains}
use Rattle.machine_code.specs.Targets.{AllLeadBehind}
use Rattle.clause_compiler.proofs.ModulePrograms.{module_source, module_means}
use Rattle.clause_compiler.proofs.Targets.{procedures_behind}
use Rattle.clause_compiler.proofs.Formed.{procedures_formed}

-- the procedures from a number on are left
pub record ProceduresLeft (m : Module) (a b : Emitter) (es : List procedure.Procedure) (n : ℕ) : Type 0 where
  pub code : Remains a b (procedures_code 0 (program_of m)) (procedures_code (length b.instrs.items) (drop n (program_of m)))
  pub begins : map entrance_of es ++ entrances (length b.instrs.items) (drop n (program_of m)) ≡ entrances 0 (program_of m)

pub procedures_begin : (m : Module) (e : Emitter) → length e.instrs.items ≡ 0 → ProceduresLeft m e e [] 0
procedures_begin m e z = record {
  code = remains_as e e _ _ _ (ap (λ n. procedures_code n (program_of m)) (sym z)) (all_remains e (procedures_code 0 (program_of m)));
  begins = ap (λ n. entrances n (program_of m)) z;
}

pub procedures_next : (m : Module) (a b c : Emitter) (es es' : List procedure.Procedure) (x : procedure.Procedure) (n : ℕ)
    → slice_get (procedure_names m.clauses) n ≡ Some x.name → x.first ≡ length b.instrs.items
    → x.clauses.items ≡ map clause_size (clauses_in (program_of m) n) → es' ≡ es ++ x ∷ []
    → Emits b c (clauses_code (length b.instrs.items) 1 (clauses_in (program_of m) n)) → ProceduresLeft m a b es n
    → ProceduresLeft m a c es' (n + 1)
procedures_next m a b c es es' x n eh ef ex ee bc left =
    let hs = procedure_names m.clauses in
    let P = program_of m in
    let d = procedure_of hs m.clauses x.name in
    let found : slice_get P n ≡ Some d =
    slice_get-map (procedure_of hs m.clauses) hs n ∙ ap (option_map (procedure_of hs m.clauses)) eh in
    let within : n < length P = slice_get_within P n d found in
    let next : suc n ≡ n + 1 = omega arith in
    let cut : drop n P ≡ d ∷ drop (n + 1) P = drop-cons P n d within ∙ (λ j. get_or_from_slice_get P n d d found j ∷ drop (next j) P) in
    let B = length b.instrs.items in
    let code : clauses_in P n ≡ d.clauses = ap (λ o. elim o as (λ _. List Clause) [ None ↦ [] | Some y ↦ y.clauses ]) found in
    let bc' = subst (λ l. Emits b c (clauses_code B 1 l)) code bc in
    let here : B + length (clauses_code B 1 d.clauses) ≡ length c.instrs.items = sym bc'.size in
    let sizes : x.clauses.items ≡ map clause_size d.clauses = ex ∙ ap (map clause_size) code in
    record {
      code = fewer_remain a b c _ (clauses_code B 1 d.clauses) (procedures_code (length c.instrs.items) (drop (n + 1) P))
          (remains_as a b _ _ _ (ap (procedures_code B) cut
          ∙ (λ j. clauses_code B 1 d.clauses ++ procedures_code (here j) (drop (n + 1) P))) left.code) bc';
      begins =
          ap (λ l. map entrance_of l ++ entrances (length c.instrs.items) (drop (n + 1) P)) ee
          ∙ ap (λ l. l ++ entrances (length c.instrs.items) (drop (n + 1) P)) (map_push entrance_of es x)
          ∙ append_assoc (map entrance_of es) (entrance_of x ∷ []) (entrances (length c.instrs.items) (drop (n + 1) P))
          ∙ (λ j. map entrance_of es ++ (record { name = x.name.name.0; arity = x.name.arity; first = ef j; clauses = sizes j } ∷ entrances
          (sym here j) (drop (n + 1) P)))
          ∙ ap (λ l. map entrance_of es ++ entrances B l) (sym cut)
          ∙ left.begins;
    }

-- the procedures of a program in code have its names and its clauses' sizes
names_entrances : (m : Program) (at : ℕ) → map facts_in_code (entrances at m) ≡ map facts_in_source m
names_entrances [] at = refl
names_entrances (d ∷ m) at = ap (λ l. facts_in_source d ∷ l) (names_entrances m (at + length (clauses_code at 1 d.clauses)))

-- The code when all procedures are compiled: `a` is the empty code.
pub record Compiles (m : Module) (a b : Emitter) (es : List procedure.Procedure) (n : ℕ) : Type 0 where
  pub few : length (procedure_names m.clauses) < TRUE_PROCEDURE
  pub all : n ≡ length (procedure_names m.clauses)
  pub fine : IsFine a
  pub none : ops_of a ≡ []
  pub long : length b.instrs.items ≤ nowhere
  pub left : ProceduresLeft m a b es n

module _ (m : Module) (a b : Emitter) (es : List procedure.Procedure) (n : ℕ) (k : Compiles m a b es n) (slots : ℕ) where
  over : drop n (program_of m) ≡ []
  over =
      drop_of_length-le (program_of m)
      (omega (arith, k.all, length-map (procedure_names m.clauses) (procedure_of (procedure_names m.clauses) m.clauses)))

  all_emitted : Emits a b (procedures_code 0 (program_of m))
  all_emitted =
      none_remains a b (procedures_code 0 (program_of m))
      (remains_as a b _ _ _ (ap (procedures_code (length b.instrs.items)) over) k.left.code)

  ops_same : ops_of b ≡ procedures_code 0 (program_of m)
  ops_same = all_emitted.ops k.fine ∙ ap (λ l. l ++ procedures_code 0 (program_of m)) k.none

  begins_same : map entrance_of es ≡ entrances 0 (program_of m)
  begins_same =
      sym (append-nil (map entrance_of es)) ∙ ap (λ l. map entrance_of es ++ entrances (length b.instrs.items) l) (sym over)
      ∙ k.left.begins

  size : length (procedures_code 0 (program_of m)) ≡ length b.instrs.items
  size = sym (ap length ops_same) ∙ length-map b.instrs.items (op_of b.smalls.keys b.steps.items)

  pub all_means : MeansSource (program_of m) (record { ops = ops_of b; procedures = map entrance_of es })
  all_means =
      subst (MeansSource (program_of m)) (λ j. record { ops = sym ops_same j; procedures = sym begins_same j })
      (module_means m k.few (omega (arith, size, k.long)))

  pub all_names : NamesSource (program_of m) (record { ops = ops_of b; procedures = map entrance_of es })
  all_names = ap (map facts_in_code) begins_same ∙ names_entrances (program_of m) 0

  pub all_sound : Each (NamesBelow slots) b.instrs.items → Each (StepsBelow slots) b.steps.items
      → IsSound (tables b.instrs.items b.steps.items b.smalls.keys es slots)
  all_sound is ss = record {
    behind = subst (AllLeadBehind 0) (sym ops_same) (procedures_behind (program_of m) 0 (omega (arith, size, k.long)));
    there = all_emitted.fine k.fine;
    formed = subst (Each IsFormed) (sym ops_same) (procedures_formed (program_of m) 0);
    slots = is;
    step_slots = ss;
    fresh =
        subst (λ (c : Compiled). Each (λ e. IsFresh c.ops e.first no_tops 0) c.procedures)
        (λ j. record { ops = sym ops_same j; procedures = sym begins_same j })
        (program_fresh (program_of m) (module_source m k.few) (omega (arith, size, k.long)));
  }
