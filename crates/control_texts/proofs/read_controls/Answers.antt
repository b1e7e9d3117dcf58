use Rattle.std.proofs.Common.{ap, sym, ◌∙◌, subst, length}
use Rattle.control_texts.specs.ControlTexts.{IsFaultAt}
use Rattle.control_texts.proofs.Reached.{text-begins, word-refused, word-accepted, whole-text, few-controls, end-fault}
use Rattle.control_texts.proofs.read_controls.Goals as goal

pub loop-start-init : goal.loop-start-init
loop-start-init c =
    text-begins c.args.text.now c.as_bytes-bytes.result.now c.begin-reading.result c.empty-controls.result c.as_bytes-bytes.ensures.value
    c.begin-reading.ensures c.empty-controls.ensures

pub returns-in_default-2-clause-reads : goal.returns-in_default-2-clause-reads
returns-in_default-2-clause-reads c =
    word-refused c.args.text.now c.as_bytes-bytes.result.now c.loop-start.rest.now c.loop-start.reading c.loop-start.controls
    c.take.new.controls c.in-Some.start c.in-Some.len c.in_ok-next.field-0 c.loop-start.invariant c.in-Some.ensures c.in_ok-next.ensures
    c.in_default-2.is c.as_bytes-bytes.ensures.value

pub loop-start-preserved : goal.loop-start-preserved
loop-start-preserved c =
    word-accepted c.args.text.now c.loop-start.rest.now c.loop-start.reading c.in-Some-2.next c.loop-start.controls
    c.take.new.controls c.in-Some.start c.in-Some.len c.in_ok-next.field-0 c.loop-start.invariant c.in-Some.ensures c.in_ok-next.ensures
    c.in-Some-2.is

pub returns-then-is_whole-clause-reads : goal.returns-then-is_whole-clause-reads
returns-then-is_whole-clause-reads c =
    whole-text c.args.text.now c.loop-start.rest.now c.loop-start.reading c.loop-start.controls
    c.loop-start.invariant c.in_default.ensures
    (sym c.is_whole.ensures ∙ c.if-is_whole.true)

pub returns-then-is_whole-clause-lawful : goal.returns-then-is_whole-clause-lawful
returns-then-is_whole-clause-lawful c =
    (whole-text c.args.text.now c.loop-start.rest.now c.loop-start.reading c.loop-start.controls
    c.loop-start.invariant c.in_default.ensures
    (sym c.is_whole.ensures ∙ c.if-is_whole.true)).lawful

pub returns-then-is_whole-clause-few : goal.returns-then-is_whole-clause-few
returns-then-is_whole-clause-few c =
    few-controls c.args.text.now c.loop-start.controls
    (whole-text c.args.text.now c.loop-start.rest.now c.loop-start.reading c.loop-start.controls
    c.loop-start.invariant c.in_default.ensures
    (sym c.is_whole.ensures ∙ c.if-is_whole.true))

pub returns-else-is_whole-clause-reads : goal.returns-else-is_whole-clause-reads
returns-else-is_whole-clause-reads c =
    subst (λ x. IsFaultAt c.args.text.now (length x)) (sym c.as_bytes-bytes.ensures.value)
    (end-fault c.args.text.now c.loop-start.rest.now c.loop-start.reading c.loop-start.controls
    c.loop-start.invariant c.in_default.ensures
    (sym c.is_whole.ensures ∙ c.if-is_whole.false))
