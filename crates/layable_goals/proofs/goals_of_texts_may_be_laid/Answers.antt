use Rattle.layable_goals.proofs.GoalsOfTexts.{goals_of_texts}
use Rattle.layable_goals.proofs.goals_of_texts_may_be_laid.Goals as goal

pub returns : goal.returns
returns c = goals_of_texts
