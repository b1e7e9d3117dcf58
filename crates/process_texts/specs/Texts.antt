-- The texts of which a line consists, said of all words that have those that were kept and stand for bindings. Only the crate's private
-- clauses cite this file.
use Rattle.std.specs.Prelude.{◌≡◌, ℕ, ◌+◌, List, [], ◌∷◌, ◌++◌, length, Some, codes}
use Rattle.fcp_model.specs.declared.run.Place.{Place}
use Rattle.fcp_model.specs.declared.goal.TheConstants.{TRUE_PROCEDURE, UNIFY_PROCEDURE, ASSIGN_PROCEDURE}
use Rattle.fcp_model.specs.Places.{Variable}
use Rattle.fcp_model.specs.Terms.{Term}
use Rattle.fcp_model.specs.Expressions.{Expr}
use Rattle.fcp_model.specs.Programs.{Goal, user, true', unifies, assigns, Program}
use Rattle.fcp_model.specs.Spelling.{Bytes}
use Rattle.fcp_model.specs.TermText.{cut_text}
use Rattle.fcp_model.specs.LogText.{places_text}
use Rattle.fcp_model.specs.ReportText.{expr_text, more_arguments, arguments_text, goal_text}
use Rattle.heap_words.specs.Trails.{WordList}
use Rattle.heap_words.specs.declared.cell.Stand.{Stand}
use Rattle.heap_words.specs.declared.cell.Stand.TheVariants.{Ready, Waiting, Done}
use Rattle.word_states.specs.Denoting.{Denotes, Arguments, ExprSays, GoalSays}
use Rattle.entry_lines.specs.Additions.{Adds}
use Rattle.process_texts.specs.Reading.{AllWords}

-- what a line says of a process that stands so, with the places on which it waits
abbrev pub stand_text : Stand → List Place → Bytes
stand_text Ready places = codes " ready"
stand_text (Waiting n) places = codes " waits" ++ places_text places
stand_text Done places = codes " done"

-- the text of the word's value, cut after 1,024 nodes, was put after the text
abbrev pub AddsTerm : WordList → List Bytes → ℕ → Bytes → Bytes → Type 0
AddsTerm kept names x old new = AllWords kept (λ w vs bound. (t : Term Variable) → Denotes w vs x t
    → Adds old new (λ n. cut_text n names bound 1024 t))

-- that of the word at an address
abbrev pub AddsArgument : WordList → List Bytes → ℕ → Bytes → Bytes → Type 0
AddsArgument kept names a old new = AllWords kept (λ w vs bound. (x : ℕ) (t : Term Variable) → w a ≡ Some x → Denotes w vs x t
    → Adds old new (λ n. cut_text n names bound 1024 t))

-- those of so many words from an address on, each after a comma
abbrev pub AddsMore : WordList → List Bytes → ℕ → ℕ → Bytes → Bytes → Type 0
AddsMore kept names a count old new = AllWords kept (λ w vs bound. (ts : List (Term Variable)) → length ts ≡ count → Arguments w vs a ts
    → Adds old new (λ n. more_arguments n names bound ts))

-- and in parentheses
abbrev pub AddsArguments : WordList → List Bytes → ℕ → ℕ → Bytes → Bytes → Type 0
AddsArguments kept names a count old new = AllWords kept (λ w vs bound. (ts : List (Term Variable)) → length ts ≡ count → Arguments w vs a ts
    → Adds old new (λ n. arguments_text n names bound ts))

-- the text of the expression of the word at an address
abbrev pub AddsExpression : WordList → List Bytes → ℕ → Bytes → Bytes → Type 0
AddsExpression kept names a old new = AllWords kept (λ w vs bound. (x : ℕ) (e : Expr Variable) → w a ≡ Some x → ExprSays w vs x e
    → Adds old new (λ n. expr_text n names bound e))

-- the texts of two words from an address on, with ` = ` between
abbrev pub AddsPair : WordList → List Bytes → ℕ → Bytes → Bytes → Type 0
AddsPair kept names a old new = AllWords kept (λ w vs bound. (m : Program) (t u : Term Variable) → Arguments w vs a (t ∷ u ∷ [])
    → Adds old new (λ n. goal_text n names m bound (unifies t u)))

-- those of a word and of an expression behind it, with ` := ` between
abbrev pub AddsAssignment : WordList → List Bytes → ℕ → Bytes → Bytes → Type 0
AddsAssignment kept names a old new = AllWords kept (λ w vs bound. (m : Program) (t : Term Variable) (e : Expr Variable) (x y : ℕ)
    → w a ≡ Some x → Denotes w vs x t → w (a + 1) ≡ Some y → ExprSays w vs y e
    → Adds old new (λ n. goal_text n names m bound (assigns t e)))

-- what the words of a goal say beside its arguments: the number of its procedure, and how many words follow
abbrev pub called : Goal Variable → ℕ × ℕ
called (user f ts) = (f, length ts)
called true' = (TRUE_PROCEDURE, 0)
called (unifies t u) = (UNIFY_PROCEDURE, 2)
called (assigns t e) = (ASSIGN_PROCEDURE, 2)

-- the text of the goal of the process at p was put after the text
abbrev pub AddsGoal : WordList → List Bytes → Program → ℕ → Bytes → Bytes → Type 0
AddsGoal kept names m p old new = AllWords kept (λ w vs bound. (g : Goal Variable) → GoalSays w vs p g
    → Adds old new (λ n. goal_text n names m bound g))

-- so it is where the goal's words say these two numbers
abbrev pub AddsCalled : WordList → List Bytes → Program → ℕ → ℕ × ℕ → Bytes → Bytes → Type 0
AddsCalled kept names m p numbers old new = AllWords kept (λ w vs bound. (g : Goal Variable) → GoalSays w vs p g → called g ≡ numbers
    → Adds old new (λ n. goal_text n names m bound g))
