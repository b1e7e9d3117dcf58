-- Believed: what a text is as a module and as a goal, its first fault, and what reading it answers. The strings before it
-- are numbered already.
use Rattle.std.specs.Prelude.{◌≡◌, ℕ, List, [], ◌++◌, map, Result, Ok, Err}
use Rattle.fcp_model.specs.declared.fault.Fault.{Fault}
use Rattle.fcp_model.specs.declared.fault.Refused.{Refused}
use Rattle.fcp_model.specs.declared.fault.Refused.TheVariants as refused
use Rattle.fcp_model.specs.declared.source.Module.{Module}
use Rattle.fcp_model.specs.declared.source.GoalText.{GoalText}
use Rattle.fcp_text.specs.declared.lexer.Token.{Token}
use Rattle.fcp_text.specs.Bytes.{Text}
use Rattle.fcp_text.specs.Tokens.{tokens_of}
use Rattle.fcp_grammar.specs.declared.terminals.Terminal.{Terminal}
use Rattle.fcp_grammar.specs.Grammar.{Marked}
use Rattle.fcp_terminals.specs.declared.variables.Form.{Form}
use Rattle.fcp_terminals.specs.declared.variables.Form.TheVariants as form
use Rattle.fcp_terminals.specs.Lexemes.{lexemes, place_at}
use Rattle.fcp_terminals.specs.Numbering.{Env, env, terminals_from, env_from}
use Rattle.fcp_reader.specs.GoalGrammar.{spell_goal_text}
use Rattle.fcp_reader.specs.ModuleGrammar.{spell_module_text}
use Rattle.fcp_reader.specs.Texts.{AreModule, AreGoal}
use Rattle.fcp_reader.specs.TokenFaults.{IsFirst}

-- the terminals of a text with these tokens, and what is numbered behind it
abbrev pub terminals_of : Form → List Text → Text → List Token → List Terminal
terminals_of f names z ts = terminals_from f (env names []) (lexemes z ts)

-- what is numbered behind a text with these tokens
abbrev pub behind : Form → List Text → Text → List Token → Env
behind f names z ts = env_from f (env names []) (lexemes z ts)

-- the text's terminals are a module
pub record IsModule (names : List Text) (z : Text) (m : Module) : Type 0 where
  pub tokens : List Token
  pub cut : tokens_of z ≡ Ok tokens
  pub is : AreModule (terminals_of form.Module names z tokens) m

-- the text's terminals are the items of a goal, and its variables have these names
pub record IsGoal (names : List Text) (z : Text) (g : GoalText) : Type 0 where
  pub tokens : List Token
  pub cut : tokens_of z ≡ Ok tokens
  pub is : AreGoal (terminals_of form.Goal names z tokens) g.items
  pub variables : g.names ≡ map (λ v. v.name) (behind form.Goal names z tokens).variables

-- the text's first fault is one of its tokens, or else one by the grammar, at the place of a token or at the text's length
pub data HasFault {T : Type 0} (spell : T → List Marked) (f : Form) (names : List Text) (z : Text) (fault : Fault) : Type 0 where
  of_tokens : tokens_of z ≡ Err fault → HasFault spell f names z fault
  of_grammar : (tokens : List Token) (n : ℕ) → tokens_of z ≡ Ok tokens → fault.at ≡ place_at z tokens n
      → IsFirst spell f (env names []) (lexemes z tokens) fault.code n → HasFault spell f names z fault

-- the first fault of a text as a module
abbrev pub IsModuleFault : List Text → Text → Fault → Type 0
IsModuleFault names z fault = HasFault spell_module_text form.Module names z fault

-- the first fault of a text as a goal
abbrev pub IsGoalFault : List Text → Text → Fault → Type 0
IsGoalFault names z fault = HasFault spell_goal_text form.Goal names z fault

-- the strings behind a text that has tokens: its own are noted in the order of the text, in a goal its variables' names too
abbrev pub names_by : Form → List Text → Text → Result (List Token) Fault → List Text
names_by f names z (Ok ts) = (behind f names z ts).names
names_by f names z (Err fault) = names

-- the strings behind a module
abbrev pub names_behind_module : List Text → Text → List Text
names_behind_module names z = names_by form.Module names z (tokens_of z)

-- the strings behind a goal
abbrev pub names_behind_goal : List Text → Text → List Text
names_behind_goal names z = names_by form.Goal names z (tokens_of z)

-- what `read_module` answers, where the strings are those of `after` then; want of memory says nothing
abbrev pub ReadsModule : List Text → Text → List Text → Result Module Refused → Type 0
ReadsModule names z after (Ok m) = IsModule names z m × (after ≡ names_behind_module names z)
ReadsModule names z after (Err (refused.Fault fault)) = IsModuleFault names z fault
ReadsModule names z after (Err (refused.NoMemory n)) = Unit {0}

-- what `read_goal` answers
abbrev pub ReadsGoal : List Text → Text → List Text → Result GoalText Refused → Type 0
ReadsGoal names z after (Ok g) = IsGoal names z g × (after ≡ names_behind_goal names z)
ReadsGoal names z after (Err (refused.Fault fault)) = IsGoalFault names z fault
ReadsGoal names z after (Err (refused.NoMemory n)) = Unit {0}
