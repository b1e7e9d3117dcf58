use Rattle.std.proofs.Common.{◌≡◌, ℕ, List, ◌++◌, Option, Some, None, sym, ap, ◌∙◌}
use Rattle.fcp_model.specs.declared.term.ArithOp.{ArithOp}
use Rattle.heap_words.proofs.Keeps.{loaded_twice, still_says}
use Rattle.ro_unify.specs.Occurs.{stack}
use Rattle.ro_unify.proofs.Stacks.{stack-push, each_pushed}
use Rattle.stored_expressions.specs.Listing.{operation_of}
use Rattle.unify_terms.specs.WordsOfTries.{memory_of}
use Rattle.entry_lines.proofs.Agreeing.{agrees_with, reads_later}
use Rattle.process_texts.specs.declared.items.Item.{Item}
use Rattle.process_texts.specs.declared.items.Item.TheVariants.{Close}
use Rattle.process_texts.specs.Pieces.{operation_items, next_items, ItemLeads}
use Rattle.process_texts.proofs.ExpressionTexts.{operand_term, operand_opens}
use Rattle.process_texts.proofs.Work.{items_stay}
use Rattle.process_texts.proofs.expressions.push_operand.Goals as goal

pub push_value-requires-clause-reads : goal.push_value-requires-clause-reads
push_value-requires-clause-reads g c =
    reads_later g.met.W.Words.laws c.in_ok-operation.ensures.loaded c.operation.ensures.binds c.requires.reads

pub push_operation-requires-clause-reads : goal.push_operation-requires-clause-reads
push_operation-requires-clause-reads g c =
    reads_later g.met.W.Words.laws c.in_ok-operation.ensures.loaded c.operation.ensures.binds c.requires.reads

pub returns-in_ok-push_value-in-None-clause-loaded : goal.returns-in_ok-push_value-in-None-clause-loaded
returns-in_ok-push_value-in-None-clause-loaded g c =
    loaded_twice g.met.W.Words.laws c.in_ok-operation.ensures.loaded c.in_ok-push_value-in-None.ensures.loaded

pub returns-in_ok-push_value-in-None-clause-items : goal.returns-in_ok-push_value-in-None-clause-items
returns-in_ok-push_value-in-None-clause-items g c m i =
    let is : operation_of m c.args.word ≡ None =
    still_says g.met.W.Words.laws (λ m. operation_of m c.args.word ≡ c.in_ok-operation.field-0) c.in_ok-push_value-in-None.ensures.loaded
    c.in_ok-operation.ensures.operation m i ∙ c.in-None.is in
    ap (λ (o : Option (ArithOp × ℕ)). next_items m o ++ stack c.args.items.now.items) (sym is)

pub returns-in_ok-push_value-in-None-clause-leads : goal.returns-in_ok-push_value-in-None-clause-leads
returns-in_ok-push_value-in-None-clause-leads g c h =
    items_stay (g.W.Words.leads c.args.words.now) (g.W.Words.leads c.push_value.new.words)
    (λ x k. g.met.W.Words.laws.stays_leading _ _ x c.push_value.ensures.between
    (g.met.W.Words.laws.stays_leading _ _ x c.operation.ensures.between k)) (stack c.args.items.now.items) h

pub returns-in_ok-push_value-in-None-clause-text : goal.returns-in_ok-push_value-in-None-clause-text
returns-in_ok-push_value-in-None-clause-text g c u vs bound has says e d =
    let reads = reads_later g.met.W.Words.laws c.in_ok-push_value-in-None.ensures.loaded c.push_value.ensures.binds
    (reads_later g.met.W.Words.laws c.in_ok-operation.ensures.loaded c.operation.ensures.binds c.requires.reads) in
    let is : operation_of (memory_of u) c.args.word ≡ None =
    still_says g.met.W.Words.laws (λ m. operation_of m c.args.word ≡ c.in_ok-operation.field-0) c.in_ok-push_value-in-None.ensures.loaded
    c.in_ok-operation.ensures.operation (memory_of u) (agrees_with g.met.W.Words.laws u reads.sound reads.store has) ∙ c.in-None.is in
    operand_term u vs says.once c.args.names.now bound c.args.word _ _ e is
    (λ t k. c.in_ok-push_value-in-None.ensures.text u vs bound has says t k) d

pub returns-in_ok-push_operation-in-Some-clause-loaded : goal.returns-in_ok-push_operation-in-Some-clause-loaded
returns-in_ok-push_operation-in-Some-clause-loaded g c =
    loaded_twice g.met.W.Words.laws c.in_ok-operation.ensures.loaded c.in_ok-push_operation-in-Some.ensures.loaded

pub returns-in_ok-push_operation-in-Some-clause-items : goal.returns-in_ok-push_operation-in-Some-clause-items
returns-in_ok-push_operation-in-Some-clause-items g c m i =
    let is : operation_of m c.args.word ≡ Some (c.in-Some.op, c.in-Some.at) =
    still_says g.met.W.Words.laws (λ m. operation_of m c.args.word ≡ c.in_ok-operation.field-0)
    c.in_ok-push_operation-in-Some.ensures.loaded c.in_ok-operation.ensures.operation m i ∙ c.in-Some.is in
    let one = ap stack c.in_ok-push_item-in-Some.ensures ∙ stack-push c.args.items.now.items Close in
    c.in_ok-push_operation-in-Some.ensures.items m i
    ∙ ap (λ (js : List Item). operation_items m (c.in-Some.op, c.in-Some.at) ++ js) one
    ∙ ap (λ (o : Option (ArithOp × ℕ)). next_items m o ++ stack c.args.items.now.items) (sym is)

pub returns-in_ok-push_operation-in-Some-clause-leads : goal.returns-in_ok-push_operation-in-Some-clause-leads
returns-in_ok-push_operation-in-Some-clause-leads g c h =
    c.in_ok-push_operation-in-Some.ensures.leads
    (each_pushed (ItemLeads (g.W.Words.leads c.operation.new.words)) c.args.items.now.items c.push_item.new.items.items Close
    c.in_ok-push_item-in-Some.ensures tt
    (items_stay (g.W.Words.leads c.args.words.now) (g.W.Words.leads c.operation.new.words)
    (λ x k. g.met.W.Words.laws.stays_leading _ _ x c.operation.ensures.between k) (stack c.args.items.now.items) h))

pub returns-in_ok-push_operation-in-Some-clause-text : goal.returns-in_ok-push_operation-in-Some-clause-text
returns-in_ok-push_operation-in-Some-clause-text g c u vs bound has says e d =
    let reads = reads_later g.met.W.Words.laws c.in_ok-push_operation-in-Some.ensures.loaded c.push_operation.ensures.binds
    (reads_later g.met.W.Words.laws c.in_ok-operation.ensures.loaded c.operation.ensures.binds c.requires.reads) in
    let is : operation_of (memory_of u) c.args.word ≡ Some (c.in-Some.op, c.in-Some.at) =
    still_says g.met.W.Words.laws (λ m. operation_of m c.args.word ≡ c.in_ok-operation.field-0)
    c.in_ok-push_operation-in-Some.ensures.loaded c.in_ok-operation.ensures.operation (memory_of u)
    (agrees_with g.met.W.Words.laws u reads.sound reads.store has) ∙ c.in-Some.is in
    operand_opens u vs says.once c.args.names.now bound c.args.word _ _ e (c.in-Some.op, c.in-Some.at) is c.in_ok-push_bytes-in-Some.ensures.ok
    d
