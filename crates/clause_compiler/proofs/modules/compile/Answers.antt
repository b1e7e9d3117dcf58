use Rattle.std.proofs.Common.{rules, subst, sym}
use Rattle.fcp_model.specs.Translation.{program_of}
use Rattle.machine_code.specs.Compiling.{compiled}
use Rattle.machine_code.specs.Correct.{MeansSource, NamesSource}
use Rattle.machine_code.specs.Each.{Each}
use Rattle.machine_code.specs.Sound.{NamesBelow, StepsBelow}
use Rattle.clause_compiler.proofs.CompileLoops.{procedures_next, all_means, all_names, all_sound}
use Rattle.clause_compiler.proofs.modules.compile.Goals as goal

pub loop-number-preserved : goal.loop-number-preserved
loop-number-preserved c =
    procedures_next c.args.loaded.now _ _ _ _ _ _ _ c.name.ensures c.in_ok-position.ensures c.in_ok-clause_sizes.ensures
    c.in-Ok.ensures.items c.in_ok-procedure_code.ensures c.loop-number.invariant

pub of-requires : goal.of-requires
of-requires c =
    all_sound c.args.loaded.now c.new-code.result c.loop-number.code c.loop-number.procedures.items c.loop-number.number (record {
      few = search rules;
      all = search rules;
      fine = c.new-code.ensures.fine;
      none = c.new-code.ensures.ops;
      long = search rules;
      left = c.loop-number.invariant;
    }) _ (subst (Each (NamesBelow _)) c.as_slice.ensures.value c.in_ok-slots.ensures.instrs)
    (subst (Each (StepsBelow _)) c.as_slice-2.ensures.value c.in_ok-slots.ensures.steps)

pub returns-clause-means : goal.returns-clause-means
returns-clause-means c =
    subst (λ t. MeansSource (program_of c.args.loaded.now) (compiled t)) (sym c.of.ensures)
    (all_means c.args.loaded.now c.new-code.result c.loop-number.code c.loop-number.procedures.items c.loop-number.number (record {
      few = search rules;
      all = search rules;
      fine = c.new-code.ensures.fine;
      none = c.new-code.ensures.ops;
      long = search rules;
      left = c.loop-number.invariant;
    }) 0)

pub returns-clause-names : goal.returns-clause-names
returns-clause-names c =
    subst (λ t. NamesSource (program_of c.args.loaded.now) (compiled t)) (sym c.of.ensures)
    (all_names c.args.loaded.now c.new-code.result c.loop-number.code c.loop-number.procedures.items c.loop-number.number (record {
      few = search rules;
      all = search rules;
      fine = c.new-code.ensures.fine;
      none = c.new-code.ensures.ops;
      long = search rules;
      left = c.loop-number.invariant;
    }) 0)
