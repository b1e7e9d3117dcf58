-- The laws of texts over bindings with shorter ways.
use Rattle.std.specs.Prelude.{◌≡◌, ℕ, List, Some}
use Rattle.fcp_model.specs.Terms.{Term, Bindings}
use Rattle.fcp_model.specs.Places.{Variable}
use Rattle.fcp_model.specs.Spelling.{Bytes}
use Rattle.fcp_model.specs.TermText.{cut_text}
use Rattle.fcp_model.specs.Programs.{Goal, Program}
use Rattle.fcp_model.specs.ReportText.{goal_text}
use Rattle.word_states.specs.Leading.{LeadsTo, GoalLeads, AreShortened}

-- Let t lead to u. Where some number of steps gives a text of u over the shorter bindings, some number of steps gives this text of t
-- over the others.
abbrev pub TextsComeAlike : Type 0
TextsComeAlike = (names : List Bytes) (s short : Bindings) (nodes : ℕ) (t u : Term Variable) (n : ℕ) (bytes : Bytes)
    → AreShortened s short → LeadsTo s t u → cut_text n names short nodes u ≡ Some bytes
    → (m : ℕ) × (cut_text m names s nodes t ≡ Some bytes)

-- So it is of the text of a goal.
abbrev pub GoalTextsComeAlike : Type 0
GoalTextsComeAlike = (names : List Bytes) (p : Program) (s short : Bindings) (g h : Goal Variable) (n : ℕ) (bytes : Bytes)
    → AreShortened s short → GoalLeads s g h → goal_text n names p short h ≡ Some bytes
    → (m : ℕ) × (goal_text m names p s g ≡ Some bytes)
