-- Believed: what terminals are as a module or a goal, and what reading them answers.
use Rattle.std.specs.Prelude.{◌≡◌, ℕ, List, [], ◌∷◌, take, Some, Result, Ok, Err, slice_get}
use Rattle.fcp_model.specs.declared.source.Item.{Item}
use Rattle.fcp_model.specs.declared.source.Module.{Module}
use Rattle.fcp_grammar.specs.declared.terminals.Terminal.{Terminal}
use Rattle.fcp_reader.specs.declared.reading.Stopped.{Stopped}
use Rattle.fcp_reader.specs.declared.reading.Stopped.TheVariants.{NoMemory, Fault}
use Rattle.fcp_grammar.specs.Grammar.{Marked, plain}
use Rattle.fcp_reader.specs.ModuleGrammar.{module_value, spell_module_text}
use Rattle.fcp_reader.specs.GoalGrammar.{goal_value, spell_goal_text}
use Rattle.fcp_reader.specs.Faults.{Deep, IsFirstFault}

-- the terminals, none of them marked, and then the rest
abbrev pub clean : List Terminal → List Marked → List Marked
clean [] rest = rest
clean (w ∷ ws) rest = plain w ∷ clean ws rest

-- The terminals are a text with this value, in which no terminal is one too many and no bracket is too deep.
pub record Are {T V : Type 0} (spell : T → List Marked) (value_of : T → V) (ws : List Terminal) (v : V) : Type 0 where
  pub tree : T
  pub spelled : spell tree ≡ clean ws []
  pub shallow : (k : ℕ) (w : Terminal) → slice_get ws k ≡ Some w → Deep (take k ws) w → ⊥
  pub value : value_of tree ≡ v

-- the terminals are this module
abbrev pub AreModule : List Terminal → Module → Type 0
AreModule ws m = Are spell_module_text module_value ws m

-- the terminals are these items of a goal
abbrev pub AreGoal : List Terminal → List Item → Type 0
AreGoal ws items = Are spell_goal_text goal_value ws items

-- the value or the first fault; want of memory says nothing
abbrev pub ReadsModule : List Terminal → Result Module Stopped → Type 0
ReadsModule ws (Ok m) = AreModule ws m
ReadsModule ws (Err NoMemory) = Unit {0}
ReadsModule ws (Err (Fault c n)) = IsFirstFault spell_module_text ws c n

-- the same for a goal
abbrev pub ReadsGoal : List Terminal → Result (List Item) Stopped → Type 0
ReadsGoal ws (Ok items) = AreGoal ws items
ReadsGoal ws (Err NoMemory) = Unit {0}
ReadsGoal ws (Err (Fault c n)) = IsFirstFault spell_goal_text ws c n
