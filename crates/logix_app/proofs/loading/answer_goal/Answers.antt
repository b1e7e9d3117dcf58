use Rattle.fcp_model.specs.NameList.{reserved_names}
use Rattle.logix_app.proofs.Loaded.{both-loaded, refused-goal}
use Rattle.logix_app.proofs.loading.answer_goal.Goals as goal

pub answer_loaded-requires-clause-closed : goal.answer_loaded-requires-clause-closed
answer_loaded-requires-clause-closed c =
    let text = c.requires.of_text in
    c.texts_are_closed.ensures.programs reserved_names text.file c.args.loaded.now text.loaded.is_module

pub returns-in-Ok : goal.returns-in-Ok
returns-in-Ok c file l =
    c.answer_loaded.ensures file c.args.goal.now
    (both-loaded file c.args.goal.now c.args.loaded.now c.args.names _ c.load_goal_text.new.names l c.in-Ok.ensures.loads)

pub returns : goal.returns
returns c file l =
    refused-goal c.args.limits c.args.control.now
    file c.args.goal.now c.args.loaded.now c.args.names c.load_goal_text.new.names c.in-Err.refused c.goal_refusal.result
    l c.in-Err.ensures.loads c.goal_refusal.ensures
