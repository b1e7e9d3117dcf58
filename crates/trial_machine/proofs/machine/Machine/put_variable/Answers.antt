use Rattle.std.proofs.Common.{ap, ◌∙◌}
use Rattle.heap_words.specs.Cells.{encoded}
use Rattle.trial_machine.proofs.Putting.{read_only_word, plain_word, variable_put}
use Rattle.trial_machine.proofs.machine.Machine.put_variable.Goals as goal
use Rattle.trial_machine.proofs.machine.Machine.put_variable.Goals.{then-ro, else-ro}

pub returns-clause-steps : goal.returns-clause-steps
returns-clause-steps c =
    variable_put c.args.self.now c.put_word.new.self c.args.slot c.args.var c.encode.result c.args.ro c.in-Some.ensures.0
    c.in-Some.ensures.1
    (c.encode.ensures.value
    ∙ (elim c.if-ro.branch [
      | then-ro w ↦ ap encoded w.cell-is ∙ read_only_word _ _ _ c.in-Some.ensures.2 w.if-ro.true
      | else-ro w ↦ ap encoded w.cell-is ∙ plain_word _ _ _ c.in-Some.ensures.2 w.if-ro.false
    ]))
    c.put_word.ensures.becomes c.put_word.ensures.keeps
