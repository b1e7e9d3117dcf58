use Rattle.std.proofs.Common.{◌≡◌, ℕ, List, ◌++◌, Some, None, sym, ap, ◌∙◌, subst}
use Rattle.std.specs.List.{AllZip}
use Rattle.heap_words.proofs.Keeps.{loaded_twice, agreed}
use Rattle.ro_unify.specs.Occurs.{stack, Each}
use Rattle.word_states.specs.Denoting.{ExprSays}
use Rattle.unify_terms.specs.WordsOfTries.{memory_of}
use Rattle.stored_expressions.specs.Listing.{operation_of}
use Rattle.entry_lines.proofs.Agreeing.{agrees_with, reads_later}
use Rattle.process_texts.specs.declared.items.Item.{Item}
use Rattle.process_texts.specs.Pieces.{ItemSays, ItemLeads, operation_items}
use Rattle.process_texts.proofs.Cells.{had_before}
use Rattle.process_texts.proofs.ExpressionTexts.{expression_term, expression_operation}
use Rattle.process_texts.proofs.expressions.push_expression.Goals as goal

pub operation-requires-clause-leads : goal.operation-requires-clause-leads
operation-requires-clause-leads g c =
    g.met.W.Words.laws.had_leads _ _ _ c.in_ok-word.ensures.loaded.sound c.in_ok-word.ensures.had

pub push_value-requires-clause-reads : goal.push_value-requires-clause-reads
push_value-requires-clause-reads g c =
    reads_later g.met.W.Words.laws c.in_ok-operation.ensures.loaded c.operation.ensures.binds
    (reads_later g.met.W.Words.laws c.in_ok-word.ensures.loaded c.word_at.ensures.binds c.requires.reads)

pub push_value-requires-clause-leads : goal.push_value-requires-clause-leads
push_value-requires-clause-leads g c =
    g.met.W.Words.laws.stays_leading _ _ _ c.operation.ensures.between
    (g.met.W.Words.laws.had_leads _ _ _ c.in_ok-word.ensures.loaded.sound c.in_ok-word.ensures.had)

pub push_operation-requires-clause-reads : goal.push_operation-requires-clause-reads
push_operation-requires-clause-reads g c =
    reads_later g.met.W.Words.laws c.in_ok-operation.ensures.loaded c.operation.ensures.binds
    (reads_later g.met.W.Words.laws c.in_ok-word.ensures.loaded c.word_at.ensures.binds c.requires.reads)

pub push_pieces-requires-clause-reads : goal.push_pieces-requires-clause-reads
push_pieces-requires-clause-reads g c =
    reads_later g.met.W.Words.laws c.in_ok-push_operation-in-Some.ensures.loaded c.push_operation.ensures.binds
    (reads_later g.met.W.Words.laws c.in_ok-operation.ensures.loaded c.operation.ensures.binds
    (reads_later g.met.W.Words.laws c.in_ok-word.ensures.loaded c.word_at.ensures.binds c.requires.reads))

pub push_pieces-requires-clause-leads : goal.push_pieces-requires-clause-leads
push_pieces-requires-clause-leads g c =
    c.in_ok-push_operation-in-Some.ensures.leads
    (subst (λ (is : List Item). Each (ItemLeads (g.W.Words.leads c.operation.new.words)) (stack is)) (sym c.clear.ensures.items) tt)

pub returns-in_ok-push_value-in-None-clause-loaded : goal.returns-in_ok-push_value-in-None-clause-loaded
returns-in_ok-push_value-in-None-clause-loaded g c =
    loaded_twice g.met.W.Words.laws c.in_ok-word.ensures.loaded
    (loaded_twice g.met.W.Words.laws c.in_ok-operation.ensures.loaded c.in_ok-push_value-in-None.ensures.loaded)

pub returns-in_ok-push_value-in-None-clause-text : goal.returns-in_ok-push_value-in-None-clause-text
returns-in_ok-push_value-in-None-clause-text g c u vs bound has says x e i d =
    let reads = reads_later g.met.W.Words.laws c.in_ok-push_value-in-None.ensures.loaded c.push_value.ensures.binds
    (reads_later g.met.W.Words.laws c.in_ok-operation.ensures.loaded c.operation.ensures.binds
    (reads_later g.met.W.Words.laws c.in_ok-word.ensures.loaded c.word_at.ensures.binds c.requires.reads)) in
    let agrees = agreed g.met.W.Words.laws (memory_of u) c.in_ok-push_value-in-None.ensures.loaded
    (agrees_with g.met.W.Words.laws u reads.sound reads.store has) in
    let is : operation_of (memory_of u) c.in_ok-word.word ≡ None =
    c.in_ok-operation.ensures.operation (memory_of u) agrees ∙ c.in-None.is in
    let same : x ≡ c.in_ok-word.word =
    c.in_ok-word.ensures.word u x (had_before u c.in_ok-operation.ensures.loaded (had_before u c.in_ok-push_value-in-None.ensures.loaded has))
    i in
    expression_term u vs says.once c.args.names.now bound c.in_ok-word.word _ _ e is
    (λ t k. c.in_ok-push_value-in-None.ensures.text u vs bound has says t k) (subst (λ (z : ℕ). ExprSays u vs z e) same d)

pub returns-in_ok-push_pieces-in-Some-clause-loaded : goal.returns-in_ok-push_pieces-in-Some-clause-loaded
returns-in_ok-push_pieces-in-Some-clause-loaded g c =
    loaded_twice g.met.W.Words.laws c.in_ok-word.ensures.loaded
    (loaded_twice g.met.W.Words.laws c.in_ok-operation.ensures.loaded
    (loaded_twice g.met.W.Words.laws c.in_ok-push_operation-in-Some.ensures.loaded c.in_ok-push_pieces-in-Some.ensures.loaded))

pub returns-in_ok-push_pieces-in-Some-clause-text : goal.returns-in_ok-push_pieces-in-Some-clause-text
returns-in_ok-push_pieces-in-Some-clause-text g c u vs bound has says x e i d =
    let reads = reads_later g.met.W.Words.laws c.in_ok-push_pieces-in-Some.ensures.loaded c.push_pieces.ensures.binds
    (reads_later g.met.W.Words.laws c.in_ok-push_operation-in-Some.ensures.loaded c.push_operation.ensures.binds
    (reads_later g.met.W.Words.laws c.in_ok-operation.ensures.loaded c.operation.ensures.binds
    (reads_later g.met.W.Words.laws c.in_ok-word.ensures.loaded c.word_at.ensures.binds c.requires.reads))) in
    let later = agreed g.met.W.Words.laws (memory_of u) c.in_ok-push_pieces-in-Some.ensures.loaded
    (agrees_with g.met.W.Words.laws u reads.sound reads.store has) in
    let agrees = agreed g.met.W.Words.laws (memory_of u) c.in_ok-push_operation-in-Some.ensures.loaded later in
    let is : operation_of (memory_of u) c.in_ok-word.word ≡ Some (c.in-Some.op, c.in-Some.at) =
    c.in_ok-operation.ensures.operation (memory_of u) agrees ∙ c.in-Some.is in
    let same : x ≡ c.in_ok-word.word =
    c.in_ok-word.ensures.word u x (had_before u c.in_ok-operation.ensures.loaded
    (had_before u c.in_ok-push_operation-in-Some.ensures.loaded (had_before u c.in_ok-push_pieces-in-Some.ensures.loaded has))) i in
    let first : stack c.push_operation.new.items.items ≡ operation_items (memory_of u) (c.in-Some.op, c.in-Some.at) =
    c.in_ok-push_operation-in-Some.ensures.items (memory_of u) later
    ∙ ap (λ (is : List Item). operation_items (memory_of u) (c.in-Some.op, c.in-Some.at) ++ stack is) c.clear.ensures.items in
    expression_operation u vs says.once c.args.names.now bound c.in_ok-word.word _ _ e (c.in-Some.op, c.in-Some.at) is
    (λ ps z. c.in_ok-push_pieces-in-Some.ensures.text u vs bound has says ps
    (subst (λ (is : List Item). AllZip (ItemSays u vs) is ps) (sym first) z)) (subst (λ (z : ℕ). ExprSays u vs z e) same d)
