use Rattle.std.proofs.Common.{Option, sym, refl, ap, ◌∙◌}
use Rattle.fcp_model.specs.declared.term.ArithOp.{ArithOp}
use Rattle.heap_words.specs.Cells.{decoded}
use Rattle.heap_words.specs.declared.cell.Cell.TheVariants.{Tuple}
use Rattle.stored_expressions.specs.Listing.{located}
use Rattle.stored_expressions.proofs.Operations.{tuple_is}
use Rattle.stored_expressions.proofs.Walking.{operands_known}
use Rattle.stored_expressions.proofs.operators.operation.Goals as goal

pub word-requires-clause-known : goal.word-requires-clause-known
word-requires-clause-known g c =
    g.met.W.Words.laws.reaches _ c.args.word c.in-Some.at (Tuple c.in-Some.at) c.requires.sound c.requires.leads
    (tuple_is (decoded c.args.word) c.in-Some.at (sym c.tuple_in.ensures ∙ c.in-Some.is)) refl

pub returns-in_ok-number-in-Some-clause-known : goal.returns-in_ok-number-in-Some-clause-known
returns-in_ok-number-in-Some-clause-known g c =
    operands_known g.met.W.Words.laws c.word.new.words c.args.word c.in-Some.at c.in_ok-number-in-Some.number c.tuple_in.result
    c.with_address.result c.in_ok-number-in-Some.ensures.loaded.sound
    (g.met.W.Words.laws.stays_leading _ _ _ c.word.ensures.between c.requires.leads) c.in-Some.is c.tuple_in.ensures
    c.in_ok-number-in-Some.ensures.had
    (c.with_address.ensures ∙ ap (λ (o : Option ArithOp). located o c.in-Some.at) c.operator_at.ensures)
