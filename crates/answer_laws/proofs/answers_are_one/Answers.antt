-- The law.
use Rattle.answer_laws.proofs.OneAnswer.{calls_have_one_answer}
use Rattle.answer_laws.proofs.answers_are_one.Goals as goal

pub returns : goal.returns
returns c = calls_have_one_answer
