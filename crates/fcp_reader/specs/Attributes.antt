-- Not believed, for the machine alone: reading attributes, and what one more terminal does.
use Rattle.std.specs.Prelude.{ℕ, List, [], ◌∷◌, ◌++◌, false}
use Rattle.fcp_model.specs.declared.names.Sym.{Sym}
use Rattle.fcp_model.specs.declared.source.Export.{Export}
use Rattle.fcp_model.specs.declared.term.ArithOp.TheVariants.{Div}
use Rattle.fcp_grammar.specs.declared.terminals.StringForm.TheVariants as F
use Rattle.fcp_grammar.specs.declared.terminals.Terminal.{Terminal}
use Rattle.fcp_grammar.specs.declared.terminals.Terminal.TheVariants as terminal
use Rattle.fcp_reader.specs.declared.attributes.NameAt.{NameAt}
use Rattle.fcp_reader.specs.declared.attributes.NameAt.TheVariants as M
use Rattle.fcp_reader.specs.declared.attributes.ListAt.{ListAt}
use Rattle.fcp_reader.specs.declared.attributes.ListAt.TheVariants as X
use Rattle.fcp_reader.specs.declared.attributes.AttributeAt.{AttributeAt}
use Rattle.fcp_reader.specs.declared.attributes.AttributeAt.TheVariants as A
use Rattle.fcp_reader.specs.declared.attributes.AttributeStep.{AttributeStep}
use Rattle.fcp_reader.specs.declared.attributes.AttributeStep.TheVariants.{Goes, Ends, Refused}
use Rattle.fcp_reader.specs.declared.attributes.Said.TheVariants as Says
use Rattle.fcp_reader.specs.ModuleValues.{is_no_arity, export_of}

-- a `-module` goes on
abbrev pub names : NameAt → AttributeStep
names at = Goes (A.Name at) false

-- a terminal of a `-module`
unfoldable pub step_name : NameAt → Terminal → AttributeStep
step_name M.Open (terminal.RoundOpen at) = names M.Name
step_name M.Name (terminal.Str s form at) = names (M.Close s)
step_name (M.Close s) terminal.RoundClose = names (M.End s)
step_name (M.End s) (terminal.Dot n) = Ends (Says.Name s)
step_name _ _ = Refused

-- an `-export` goes on
abbrev pub lists : ListAt → AttributeStep
lists at = Goes (A.List at) false

-- the terminal behind an element of an `-export`
abbrev pub behind_export : List Export → Terminal → AttributeStep
behind_export es terminal.Comma = lists (X.Next es)
behind_export es terminal.SquareClose = lists (X.Close es)
behind_export es _ = Refused

-- the number of an element
abbrev pub step_arity : List Export → ℕ → Sym → Terminal → AttributeStep
step_arity es at s (terminal.Int n i) = Goes (A.List (X.More (es ++ export_of at s n ∷ []))) (is_no_arity n)
step_arity es at s _ = Refused

-- a terminal of an `-export`
unfoldable pub step_list : ListAt → Terminal → AttributeStep
step_list (X.Arity es at s) w = step_arity es at s w
step_list (X.More es) w = behind_export es w
step_list X.Open (terminal.RoundOpen at) = lists X.Square
step_list X.Square (terminal.SquareOpen at) = lists X.First
step_list X.First (terminal.Str s form at) = lists (X.Slash [] at s)
step_list X.First terminal.SquareClose = lists (X.Close [])
step_list (X.Next es) (terminal.Str s form at) = lists (X.Slash es at s)
step_list (X.Slash es at s) (terminal.Operator Div d) = lists (X.Arity es at s)
step_list (X.Close es) terminal.RoundClose = lists (X.End es)
step_list (X.End es) (terminal.Dot n) = Ends (Says.List es)
step_list _ _ = Refused

-- the terminal behind the `-`
abbrev pub step_dash : Terminal → AttributeStep
step_dash (terminal.Str s F.Module at) = names M.Open
step_dash (terminal.Str s F.Export at) = lists X.Open
step_dash (terminal.Str s F.Quoted at) = Refused
step_dash (terminal.Str s _ at) = Goes A.Unknown false
step_dash _ = Refused

-- a terminal of an attribute that is neither
abbrev pub step_unknown : Terminal → AttributeStep
step_unknown (terminal.Dot n) = Ends Says.Unknown
step_unknown _ = Goes A.Unknown false

-- a terminal of an attribute, behind its `-`
unfoldable pub step_attribute : AttributeAt → Terminal → AttributeStep
step_attribute A.Dash w = step_dash w
step_attribute (A.Name at) w = step_name at w
step_attribute (A.List at) w = step_list at w
step_attribute A.Unknown w = step_unknown w
