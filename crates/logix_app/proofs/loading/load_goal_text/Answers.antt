use Rattle.std.proofs.Common.{subst}
use Rattle.fcp_reader.specs.Sources.{ReadsGoal}
use Rattle.logix_app.proofs.Loaded.{loads-goal, refuses-goal, laid-goal}
use Rattle.logix_app.proofs.loading.load_goal_text.Goals as goal

pub returns-in-Ok-clause-loads : goal.returns-in-Ok-clause-loads
returns-in-Ok-clause-loads c =
    loads-goal c.args.loaded.now c.args.names.now c.args.goal.now c.read_goal.new.names c.in-Ok.goal c.load_goal.result
    (subst (ReadsGoal c.args.names.now c.args.goal.now c.read_goal.new.names) c.in-Ok.is c.read_goal.ensures.read) c.load_goal.ensures

pub returns-in-Ok-clause-laid : goal.returns-in-Ok-clause-laid
returns-in-Ok-clause-laid c =
    laid-goal c.args.loaded.now c.args.names.now c.args.goal.now c.read_goal.new.names c.in-Ok.goal c.load_goal.result
    c.goals_of_texts_may_be_laid.ensures c.requires.of_text
    (subst (ReadsGoal c.args.names.now c.args.goal.now c.read_goal.new.names) c.in-Ok.is c.read_goal.ensures.read) c.load_goal.ensures

pub returns-in-Err-clause-loads : goal.returns-in-Err-clause-loads
returns-in-Err-clause-loads c =
    refuses-goal c.args.loaded.now c.args.names.now c.args.goal.now c.read_goal.new.names c.in-Err.refused
    (subst (ReadsGoal c.args.names.now c.args.goal.now c.read_goal.new.names) c.in-Err.is c.read_goal.ensures.read)
