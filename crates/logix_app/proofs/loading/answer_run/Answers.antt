use Rattle.logix_app.proofs.Loaded.{of-some-text, refused-run}
use Rattle.logix_app.proofs.loading.answer_run.Goals as goal

pub answer_goal-requires-clause-of_text : goal.answer_goal-requires-clause-of_text
answer_goal-requires-clause-of_text c =
    of-some-text c.args.file.now c.in-Ok.loaded c.load_text.new.names c.requires.file c.in-Ok.ensures.loads

pub returns-in-Err : goal.returns-in-Err
returns-in-Err c =
    refused-run c.args.limits c.args.control.now
    c.args.file.now c.args.goal.now c.load_text.new.names c.in-Err.refused c.module_refusal.result c.in-Err.ensures.loads
    c.module_refusal.ensures
