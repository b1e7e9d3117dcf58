use Rattle.std.proofs.Common.{All, ◌<◌, ◌^◌, ◌∙◌, ap, sym, subst, arith, length, take}
use Rattle.std.proofs.lemmas.List.{length-map}
use Rattle.std.proofs.lemmas.List.Elements.{All-take}
use Rattle.indexmap.specs.IndexSet.{insert_key}
use Rattle.fcp_model.specs.declared.loaded.ProcedureName.{ProcedureName}
use Rattle.fcp_model.specs.ProcedureNames.{same_procedure, procedure_name, procedure_names, positions_from, with_position}
use Rattle.fcp_model.proofs.ProcedureNameLists.{procedure_names_more, positions_in_more, length-insert_key, procedure_names_pass}
use Rattle.fcp_model.proofs.procedure_index.ProcedureIndex.of.Goals as goal

pub loop-at-preserved : goal.loop-at-preserved
loop-at-preserved c =
    let cs = c.args.clauses.now in
    let next = c.index-clauses-at in
    let kept = c.in_ok-note_clause.ensures in
    record {
      names =
          kept.names
          ∙ ap (λ hs. insert_key same_procedure hs (procedure_name next.result)) c.loop-at.invariant.names
          ∙ sym (procedure_names_more cs c.loop-at.at next.result c.loop-at-test.true next.is);
      few = omega (
        arith,
        ap length kept.names,
        length-insert_key c.loop-at.names.keys
            (procedure_name next.result),
        c.loop-at.invariant.few,
      );
      positions =
          kept.positions
          ∙ (λ i. with_position (c.loop-at.invariant.names i) (procedure_name next.result) c.loop-at.at (c.loop-at.invariant.positions i))
          ∙ sym (positions_in_more cs c.loop-at.at next.result c.loop-at-test.true next.is);
    }

pub invariant_of-result : goal.invariant_of-result
invariant_of-result c =
    let seen = take c.loop-at.at c.args.clauses.now in
    let names = procedure_names seen in
    let P : ProcedureName → Type 0 = λ h. h.arity < 2 ^ 32 in
    record {
      few = omega (arith, c.loop-at.invariant.few, c.loop-at.auto.at-end, c.requires.fits);
      each = ap length c.loop-at.invariant.positions ∙ length-map names (λ h. positions_from 0 h seen)
          ∙ sym (ap length c.loop-at.invariant.names);
      short = subst (All P) (sym c.loop-at.invariant.names)
          (procedure_names_pass P seen (All-take (λ d. length d.args < 2 ^ 32) c.loop-at.at c.args.clauses.now c.requires.arity));
    }
