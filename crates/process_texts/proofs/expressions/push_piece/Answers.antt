use Rattle.std.proofs.Common.{◌<◌, ◌∷◌, sym, subst}
use Rattle.ro_unify.specs.Occurs.{stack}
use Rattle.ro_unify.specs.Walks.{seen_memory}
use Rattle.ro_unify.proofs.Seeing.{agrees}
use Rattle.unify_terms.specs.WordsOfTries.{memory_of}
use Rattle.entry_lines.proofs.Agreeing.{agrees_with, reads_later}
use Rattle.process_texts.specs.declared.items.Item.{Item}
use Rattle.process_texts.specs.Pieces.{TakesPiece, items_left}
use Rattle.process_texts.proofs.ExpressionTexts.{operand_taken, operator_taken, close_taken}
use Rattle.process_texts.proofs.Work.{operand_falls, operator_falls, close_falls}
use Rattle.process_texts.proofs.expressions.push_piece.Goals as goal

pub returns-in_ok-push_operand-in-Operand-clause-text : goal.returns-in_ok-push_operand-in-Operand-clause-text
returns-in_ok-push_operand-in-Operand-clause-text g c =
    let reads = reads_later g.met.W.Words.laws c.in_ok-push_operand-in-Operand.ensures.loaded c.push_operand.ensures.binds c.requires.reads in
    subst (λ (i : Item). TakesPiece c.push_operand.new.trail.kept c.args.names.now i (stack c.args.items.now.items) c.args.out.now.items
    (stack c.push_operand.new.items.items) c.push_operand.new.out.items) (sym c.in-Operand.is)
    (operand_taken _ c.args.names.now c.in-Operand.word _ _ _ _ c.in_ok-push_operand-in-Operand.ensures.text
    (λ u has. c.in_ok-push_operand-in-Operand.ensures.items (memory_of u)
    (agrees_with g.met.W.Words.laws u reads.sound reads.store has)))

pub returns-in_ok-push_operand-in-Operand-clause-less : goal.returns-in_ok-push_operand-in-Operand-clause-less
returns-in_ok-push_operand-in-Operand-clause-less g c =
    subst (λ (i : Item). items_left (g.W.Words.addresses c.push_operand.new.words) c.push_operand.new.trail.binds
    c.push_operand.new.trail.kept (g.W.Words.own c.push_operand.new.words) (stack c.push_operand.new.items.items)
    < items_left (g.W.Words.addresses c.args.words.now) c.args.trail.now.binds c.args.trail.now.kept (g.W.Words.own c.args.words.now)
    (i ∷ stack c.args.items.now.items)) (sym c.in-Operand.is)
    (operand_falls g.met.W.Words.laws c.in-Operand.word (stack c.args.items.now.items) (stack c.push_operand.new.items.items)
    c.in_ok-push_operand-in-Operand.ensures.loaded c.push_operand.ensures.binds c.requires.reads.tame
    (c.in_ok-push_operand-in-Operand.ensures.items (seen_memory c.push_operand.new.trail.kept (g.W.Words.own c.push_operand.new.words))
    (agrees g.met.W.Words.laws 6 c.in_ok-push_operand-in-Operand.ensures.loaded.holds)))

pub returns-in_ok-push_operator-in-Operator-clause-text : goal.returns-in_ok-push_operator-in-Operator-clause-text
returns-in_ok-push_operator-in-Operator-clause-text g c =
    subst (λ (i : Item). TakesPiece c.args.trail.now.kept c.args.names.now i (stack c.args.items.now.items) c.args.out.now.items
    (stack c.args.items.now.items) c.push_operator.new.out.items) (sym c.in-Operator.is)
    (operator_taken _ c.args.names.now c.in-Operator.op _ _ _ c.in_ok-push_operator-in-Operator.ensures)

pub returns-in_ok-push_operator-in-Operator-clause-less : goal.returns-in_ok-push_operator-in-Operator-clause-less
returns-in_ok-push_operator-in-Operator-clause-less g c =
    subst (λ (i : Item). items_left (g.W.Words.addresses c.args.words.now) c.args.trail.now.binds c.args.trail.now.kept
    (g.W.Words.own c.args.words.now) (stack c.args.items.now.items) < items_left (g.W.Words.addresses c.args.words.now)
    c.args.trail.now.binds c.args.trail.now.kept (g.W.Words.own c.args.words.now) (i ∷ stack c.args.items.now.items)) (sym c.in-Operator.is)
    (operator_falls (g.W.Words.addresses c.args.words.now) c.args.trail.now.binds c.args.trail.now.kept (g.W.Words.own c.args.words.now)
    c.in-Operator.op (stack c.args.items.now.items))

pub returns-in_ok-push_bytes-in-Close-clause-text : goal.returns-in_ok-push_bytes-in-Close-clause-text
returns-in_ok-push_bytes-in-Close-clause-text g c =
    subst (λ (i : Item). TakesPiece c.args.trail.now.kept c.args.names.now i (stack c.args.items.now.items) c.args.out.now.items
    (stack c.args.items.now.items) c.push_bytes.new.text.items) (sym c.in-Close.is)
    (close_taken _ c.args.names.now _ _ _ c.in_ok-push_bytes-in-Close.ensures.ok)

pub returns-in_ok-push_bytes-in-Close-clause-less : goal.returns-in_ok-push_bytes-in-Close-clause-less
returns-in_ok-push_bytes-in-Close-clause-less g c =
    subst (λ (i : Item). items_left (g.W.Words.addresses c.args.words.now) c.args.trail.now.binds c.args.trail.now.kept
    (g.W.Words.own c.args.words.now) (stack c.args.items.now.items) < items_left (g.W.Words.addresses c.args.words.now)
    c.args.trail.now.binds c.args.trail.now.kept (g.W.Words.own c.args.words.now) (i ∷ stack c.args.items.now.items)) (sym c.in-Close.is)
    (close_falls (g.W.Words.addresses c.args.words.now) c.args.trail.now.binds c.args.trail.now.kept (g.W.Words.own c.args.words.now)
    (stack c.args.items.now.items))
