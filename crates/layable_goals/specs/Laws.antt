-- Goals of texts may be laid.
use Rattle.std.specs.Prelude.{ℕ, ◌≤◌, List, length}
use Rattle.fcp_model.specs.declared.goal.TheConstants.{TRUE_PROCEDURE}
use Rattle.fcp_model.specs.declared.source.GoalText.{GoalText}
use Rattle.fcp_model.specs.declared.source.Module.{Module}
use Rattle.fcp_text.specs.Bytes.{Text}
use Rattle.fcp_reader.specs.Sources.{IsModule, IsGoal}
use Rattle.fcp_loader.specs.Loading.{IsGoalOf}
use Rattle.goal_layout.specs.Goals.{MayBeLaid}

-- the goal was read from a text, it loads in the module, and the module was read from a text that is not too long
abbrev pub AGoalOfATextMayBeLaid : Type 0
AGoalOfATextMayBeLaid = (before : List Text) (file : Text) (m : Module) (names : List Text) (text : Text) (g : GoalText)
    (l : GoalText × List ℕ) → IsModule before file m → length file ≤ TRUE_PROCEDURE → IsGoal names text g → IsGoalOf m g l → MayBeLaid m l
