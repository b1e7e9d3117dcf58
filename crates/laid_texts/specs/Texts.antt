-- What is made of texts.
use Rattle.std.specs.Prelude.{◌≡◌, ℕ, List, length}
use Rattle.fcp_model.specs.declared.source.GoalText.{GoalText}
use Rattle.fcp_model.specs.declared.source.Module.{Module}
use Rattle.fcp_model.specs.Translation.{program_of}
use Rattle.fcp_text.specs.Bytes.{Text}
use Rattle.fcp_reader.specs.Sources.{IsModule, IsGoal}
use Rattle.machine_code.specs.Compiling.{Tables, compiled}
use Rattle.machine_code.specs.Correct.{MeansSource, NamesSource}
use Rattle.goal_layout.specs.Goals.{LaysGoal}
use Rattle.laid_texts.specs.declared.goals.LaidGoal.{LaidGoal}

-- The code is that of the module of a text.
pub record IsCodeOfText (file : Text) (t : Tables) : Type 0 where
  pub names : List Text
  pub source : Module
  pub read : IsModule names file source
  pub means : MeansSource (program_of source) (compiled t)
  pub calls : NamesSource (program_of source) (compiled t)

-- The goal of a text is laid into a heap, and calls the procedures of a module's text.
pub record IsLaidText (file goal : Text) (l : LaidGoal) : Type 0 where
  -- the texts, as they were read
  pub before : List Text
  pub source : Module
  pub file_read : IsModule before file source
  pub names : List Text
  pub text : GoalText
  pub goal_read : IsGoal names goal text
  -- the heap's words, its first process and its variables
  pub fresh : List ℕ
  pub lays : LaysGoal source text l.process fresh l.heap.words.items
  pub variables : length text.names ≡ l.variables
