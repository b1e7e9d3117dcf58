use Rattle.std.proofs.Common.{rules, ap₂, ◌∙◌}
use Rattle.clap.specs.Words.{with_rule}
use Rattle.command_words.proofs.command.run.Goals as goal

pub returns-clause-shape : goal.returns-clause-shape
returns-clause-shape c =
    let file = c.in_ok-arg.ensures.shape (search rules) ∙ ap₂ with_rule c.new.ensures.app c.new-2.ensures.rule in
    let goal = c.in_ok-arg-2.ensures.shape (search rules) ∙ ap₂ with_rule file c.new-3.ensures.rule in
    let commits = c.in_ok-arg-3.ensures.shape c.option.ensures.local ∙ ap₂ with_rule goal c.option.ensures.rule in
    let moves = c.in_ok-arg-4.ensures.shape c.option-2.ensures.local ∙ ap₂ with_rule commits c.option-2.ensures.rule in
    let cells = c.in_ok-arg-5.ensures.shape c.option-3.ensures.local ∙ ap₂ with_rule moves c.option-3.ensures.rule in
    c.in_ok-command.ensures.shape c.option-4.ensures.local ∙ ap₂ with_rule cells c.option-4.ensures.rule
