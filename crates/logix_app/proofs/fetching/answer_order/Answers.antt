use Rattle.std.proofs.Common.{arith, subst}
use Rattle.std.specs.Prelude.{IfOk}
use Rattle.logix_app.specs.Answers.{AnswersOrder}
use Rattle.logix_app.specs.Parts.{text_of}
use Rattle.logix_app.proofs.Answering.{over-file-answers}
use Rattle.logix_app.proofs.fetching.answer_order.Goals as goal

pub returns-in-Bytes-clause-answer : goal.returns-in-Bytes-clause-answer
returns-in-Bytes-clause-answer g c words reading =
    over-file-answers words _ _ _ _ c.args.order.now reading c.in-Bytes.bytes.items c.answer_over.result
    (record { within = omega (arith, c.in-Bytes.ensures.fetch.within); told = rw c.file.ensures at c.in-Bytes.ensures.fetch.told })
    c.in-Bytes.ensures.fetch.faults.count
    (subst (λ bytes. IfOk c.answer_over.result (λ a. AnswersOrder c.args.order.now bytes a.status (text_of a.output)))
    c.as_slice.ensures.value c.answer_over.ensures)
