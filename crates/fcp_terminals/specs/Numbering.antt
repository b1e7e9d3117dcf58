-- The terminals of tokens: each string has its number in the list of names, each variable its number in its clause or goal.
use Rattle.std.specs.Prelude.{◌≡◌, ℕ, ◌+◌, Bool, false, not, nat_lt, ◌==◌, List, [], ◌∷◌, ◌++◌, length, slice_index, Option, Some, None, position, if◌then◌else◌, codes}
use Rattle.std.specs.Str.{bytes_eq}
use Rattle.fcp_model.specs.NameList.{noted, number_of}
use Rattle.fcp_model.specs.declared.names.Sym.{Sym}
use Rattle.fcp_text.specs.declared.pieces.Kind.{Kind}
use Rattle.fcp_text.specs.declared.pieces.Kind.TheVariants as kind
use Rattle.fcp_text.specs.Bytes.{Text}
use Rattle.fcp_text.specs.QuotedStrings.{unquoted}
use Rattle.fcp_grammar.specs.declared.terminals.StringForm.{StringForm}
use Rattle.fcp_grammar.specs.declared.terminals.StringForm.TheVariants as string
use Rattle.fcp_grammar.specs.declared.terminals.Terminal.{Terminal}
use Rattle.fcp_grammar.specs.declared.terminals.Terminal.TheVariants as terminal
use Rattle.fcp_terminals.specs.declared.variables.Form.{Form}
use Rattle.fcp_terminals.specs.declared.variables.Form.TheVariants.{Module, Goal}
use Rattle.fcp_terminals.specs.declared.variables.Variable.{Variable}
use Rattle.fcp_terminals.specs.Lexemes.{Lexeme}
use Rattle.fcp_terminals.specs.MarkTerminals.{mark_terminal}
use Rattle.fcp_grammar.specs.Limits.{most_variables}
use Rattle.fcp_text.specs.Signs as signs

-- the strings so far, and the variables of the clause or the goal so far, each once
pub record Env : Type 0 where
  pub names : List Text
  pub variables : List Variable

-- strings and variables together
abbrev pub env : List Text → List Variable → Env
env ns vs = record { names = ns; variables = vs }

-- the list of strings has perhaps further ones behind
abbrev pub Grows : List Text → List Text → Type 0
Grows old new = (more : List Text) × (new ≡ old ++ more)

-- ---- strings

-- how a name is written
abbrev pub name_form : Text → StringForm
name_form t =
    if bytes_eq t (codes "mod") then string.Mod
    else (if bytes_eq t (codes "module") then string.Module
    else (if bytes_eq t (codes "export") then string.Export
    else string.Name))

-- the terminal of a string, once it is noted
abbrev pub string_terminal : List Text → ℕ → Text → StringForm → Terminal
string_terminal ns at t f = terminal.Str (record { 0 = number_of ns t }) f at

-- ---- variables

-- where, from 0, a variable stands among those so far; no `_` is one of them
abbrev pub find : List Variable → Text → Option ℕ
find vs t = if bytes_eq t (codes "_") then None else position (λ v. bytes_eq v.text t) vs

-- the number of a variable that is known or not, from 1: a new one has the next, which is 251 where it is one too many
abbrev pub number_by : List Variable → Option ℕ → ℕ
number_by vs (Some i) = i + 1
number_by vs None = length vs + 1

-- the number of an occurrence of a variable
unfoldable pub number : List Variable → Text → ℕ
number vs t = number_by vs (find vs t)

-- in a goal a variable has a name, unless that begins with `_`
abbrev pub has_name : Form → Text → Bool
has_name Module t = false
has_name Goal t = not (slice_index t 0 == 95)

-- the number of a variable's name, where it has one
abbrev pub name_of : Form → List Text → Text → Option Sym
name_of f ns t = if has_name f t then Some (record { 0 = number_of ns t }) else None

-- the strings behind the first occurrence of a variable
abbrev pub named : Form → List Text → Text → List Text
named f ns t = if has_name f t then noted ns t else ns

-- a new variable is put last, with its name; one that is one too many is not kept
abbrev pub kept : Form → Env → Text → Env
kept f e t =
    if nat_lt (length e.variables) most_variables
    then env (named f e.names t) (e.variables ++ record { text = t; name = name_of f e.names t } ∷ [])
    else e

-- an occurrence of a variable that is known or not
abbrev pub variable_by : Form → Env → Text → Option ℕ → Env
variable_by f e t (Some i) = e
variable_by f e t None = kept f e t

-- what is numbered behind an occurrence of a variable
unfoldable pub with_variable : Form → Env → Text → Env
with_variable f e t = variable_by f e t (find e.variables t)

-- ---- terminals

-- the variables behind a mark: the `.` ends a clause, which is the only mark that changes them
abbrev pub behind_mark : Form → ℕ → List Variable → List Variable
behind_mark Module m vs = if m == signs.dot then [] else vs
behind_mark Goal m vs = vs

-- the terminal of a token, by its kind
abbrev pub terminal_by : Env → ℕ → Text → Kind → Terminal
terminal_by e at t kind.Name = string_terminal e.names at t (name_form t)
terminal_by e at t kind.Quoted = string_terminal e.names at (unquoted t) string.Quoted
terminal_by e at t kind.Variable = terminal.Var (number e.variables t) at
terminal_by e at t (kind.Int n) = terminal.Int n at
terminal_by e at t (kind.Mark m) = mark_terminal at (length e.variables) m

-- what is numbered behind a token, by its kind
abbrev pub env_by : Form → Env → Text → Kind → Env
env_by f e t kind.Name = env (noted e.names t) e.variables
env_by f e t kind.Quoted = env (noted e.names (unquoted t)) e.variables
env_by f e t kind.Variable = with_variable f e t
env_by f e t (kind.Int n) = e
env_by f e t (kind.Mark m) = env e.names (behind_mark f m e.variables)

-- a token's terminal; it is the same in a module and in a goal
abbrev pub terminal_of : Form → Env → Lexeme → Terminal
terminal_of f e l = terminal_by e l.at l.text l.kind

-- what is numbered behind a token
abbrev pub env_after : Form → Env → Lexeme → Env
env_after f e l = env_by f e l.text l.kind

-- the terminals of tokens
abbrev pub terminals_from : Form → Env → List Lexeme → List Terminal
terminals_from f e [] = []
terminals_from f e (l ∷ ls) = terminal_of f e l ∷ terminals_from f (env_after f e l) ls

-- what is numbered behind tokens
abbrev pub env_from : Form → Env → List Lexeme → Env
env_from f e [] = e
env_from f e (l ∷ ls) = env_from f (env_after f e l) ls
