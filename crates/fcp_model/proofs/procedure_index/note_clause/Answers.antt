use Rattle.std.proofs.Common.{◌≡◌, map, not, ap, sym, ◌∙◌}
use Rattle.std.proofs.lemmas.List.{length-map}
use Rattle.std.specs.List.{position_or_len, list_any}
use Rattle.fcp_model.specs.ProcedureNames.{procedure_name, same_procedure}
use Rattle.fcp_model.proofs.ProcedureNameLists.{with_list, with_list-new, with_list-old, put_last, put_last_in, with_position_at}
use Rattle.fcp_model.proofs.procedure_index.note_clause.Goals as goal
use Rattle.fcp_model.proofs.procedure_index.note_clause.Goals.{then-is_new+in-Ok-push, else-is_new}

pub returns-in-Ok-push-2-clause-positions : goal.returns-in-Ok-push-2-clause-positions
returns-in-Ok-push-2-clause-positions c =
    let keys = c.args.names.now.keys in
    let h = procedure_name c.args.clause.now in
    let before = c.args.positions.now.items in
    let after = c.if-is_new.positions.items in
    let number : c.in-Ok.number ≡ position_or_len (same_procedure h) keys =
    c.in-Ok.ensures.index ∙ (λ i. position_or_len
    (same_procedure (record { name = c.args.clause.now.head; arity = c.len.ensures i })) keys) in
    let new : c.in-Ok.is_new ≡ not (list_any (same_procedure h) keys) =
    c.in-Ok.ensures.added ∙ (λ i. not (list_any
    (same_procedure (record { name = c.args.clause.now.head; arity = c.len.ensures i })) keys)) in
    let grown : map (λ v. v.items) after ≡ with_list keys h (map (λ v. v.items) before) =
    elim c.if-is_new.branch [
      | then-is_new+in-Ok-push w ↦
          ap (λ p. map (λ v. v.items) p.items) w.positions-is
          ∙ ap (map (λ v. v.items)) w.in-Ok-push.ensures.items
          ∙ with_list-new (λ v. v.items) before w.new.result keys h (sym w.if-is_new.true ∙ new) w.new.ensures.items
      | else-is_new w ↦ ap (λ p. map (λ v. v.items) p.items) w.positions-is
          ∙ with_list-old (map (λ v. v.items) before) keys h (sym w.if-is_new.false ∙ new)
    ] in
    put_last_in (λ v. v.items) after c.in-Ok.number c.args.at c.index_mut.result.now c.push-2.new.self c.index_mut.ensures.value
    c.in-Ok-push-2.ensures.items
    ∙ (λ i. put_last (number i) c.args.at (grown i))
    ∙ with_position_at keys h c.args.at (map (λ v. v.items) before) (c.requires.kept ∙ sym (length-map before (λ v. v.items)))
