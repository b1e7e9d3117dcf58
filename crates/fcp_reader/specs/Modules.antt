-- Not believed, for the machine alone: reading a module: what one more terminal does, and where it may end.
use Rattle.std.specs.Prelude.{ℕ, Bool, Option, Some, None}
use Rattle.fcp_model.specs.declared.source.Module.{Module}
use Rattle.fcp_model.specs.declared.term.ArithOp.TheVariants.{Sub}
use Rattle.fcp_grammar.specs.declared.terminals.Terminal.{Terminal}
use Rattle.fcp_grammar.specs.declared.terminals.Terminal.TheVariants as terminal
use Rattle.fcp_reader.specs.declared.attributes.AttributeAt.{AttributeAt}
use Rattle.fcp_reader.specs.declared.attributes.AttributeAt.TheVariants as A
use Rattle.fcp_reader.specs.declared.attributes.AttributeStep.{AttributeStep}
use Rattle.fcp_reader.specs.declared.attributes.AttributeStep.TheVariants as T
use Rattle.fcp_reader.specs.declared.state.Part.{Part}
use Rattle.fcp_reader.specs.declared.state.Part.TheVariants as Q
use Rattle.fcp_reader.specs.declared.state.State.{State}
use Rattle.fcp_reader.specs.ModuleValues.{nothing, with_said}
use Rattle.fcp_reader.specs.Attributes.{step_attribute}
use Rattle.fcp_reader.specs.Clauses.{state, goes, behind_head, in_args, in_body, named}

-- a terminal within an attribute, by what it comes to there
abbrev pub attribute_turn : Module → ℕ → AttributeStep → Option (State × Bool)
attribute_turn m dash (T.Goes at mark) = Some (state m (Q.Attribute dash at), mark)
attribute_turn m dash (T.Ends said) = goes (state (with_said m dash said) Q.Between)
attribute_turn m dash T.Refused = None

-- a terminal within an attribute
unfoldable pub in_attribute : Module → ℕ → AttributeAt → Terminal → Option (State × Bool)
in_attribute m dash at w = attribute_turn m dash (step_attribute at w)

-- the first terminal of a clause or an attribute
abbrev pub between : Module → Terminal → Option (State × Bool)
between m (terminal.Str s form at) = goes (state m (Q.Named at s))
between m (terminal.Operator Sub at) = goes (state m (Q.Attribute at A.Dash))
between m _ = None

-- one terminal, by where the clause or the attribute stands
abbrev pub step_part : Module → Part → Terminal → Option (State × Bool)
step_part m Q.Between w = between m w
step_part m (Q.Attribute dash at) w = in_attribute m dash at w
step_part m (Q.Named at s) w = named m at s w
step_part m (Q.Args at s done x) w = in_args m at s done x w
step_part m (Q.Called h) w = behind_head m h w
step_part m (Q.Body h guard items side) w = in_body m h guard items side w

-- one terminal, and whether it is one too many
unfoldable pub step : State → Terminal → Option (State × Bool)
step s w = step_part s.read s.part w

-- before the first terminal
abbrev pub beginning : State
beginning = state nothing Q.Between

-- the module, where the terminals may end here
abbrev pub whole_by : Module → Part → Option Module
whole_by m Q.Between = Some m
whole_by m _ = None

-- the module, where no clause and no attribute is open
abbrev pub whole : State → Option Module
whole s = whole_by s.read s.part
