use Rattle.std.proofs.Common.{◌≡◌, List, sym, subst, arith}
use Rattle.fcp_model.specs.declared.source.Module.{Module}
use Rattle.fcp_text.specs.Bytes.{Text}
use Rattle.fcp_reader.specs.Sources.{IsModule}
use Rattle.layable_goals.proofs.GoalsOfTexts.{goals_of_texts}
use Rattle.library_tests.proofs.goals_in_words.laid.Goals as goal

same_module : (names : List Text) (file : Text) (m l : Module) → m ≡ l → IsModule names file m → IsModule names file l
same_module names file m l e h = subst (IsModule names file) e h

pub lay_goal-answer-requires-clause-loads : goal.lay_goal-answer-requires-clause-loads
lay_goal-answer-requires-clause-loads c = (
  c.in_ok-loaded.loaded,
  goals_of_texts _ c.args.file.now c.in_ok-loaded.loaded _ c.args.text.now c.in_ok-goal.goal c.in_ok-numbered.numbered
      (same_module _ c.args.file.now _ _ (sym c.in_ok-loaded.ensures.same) c.in_ok-read.ensures.read.0) (omega arith)
      c.in_ok-goal.ensures.read.0 c.in_ok-numbered.ensures,
)
