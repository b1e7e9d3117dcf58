-- Not believed, for the machine alone: reading clauses, and what one more terminal does.
use Rattle.std.specs.Prelude.{ℕ, List, [], ◌∷◌, ◌++◌, Bool, false, Option, Some, None}
use Rattle.fcp_model.specs.declared.term.Term.{Term}
use Rattle.fcp_model.specs.declared.source.Item.{Item}
use Rattle.fcp_model.specs.declared.source.Module.{Module}
use Rattle.fcp_model.specs.declared.names.Sym.{Sym}
use Rattle.fcp_grammar.specs.declared.terminals.Terminal.{Terminal}
use Rattle.fcp_grammar.specs.declared.terminals.Terminal.TheVariants as terminal
use Rattle.fcp_grammar.specs.declared.terms.TermAt.{TermAt}
use Rattle.fcp_grammar.specs.declared.terms.Told.{Told}
use Rattle.fcp_grammar.specs.declared.terms.Told.TheVariants as R
use Rattle.fcp_grammar.specs.declared.sides.Side.{Side}
use Rattle.fcp_grammar.specs.declared.sides.Side.TheVariants.{Start}
use Rattle.fcp_grammar.specs.declared.sides.ItemStep.{ItemStep}
use Rattle.fcp_grammar.specs.declared.sides.ItemStep.TheVariants as N
use Rattle.fcp_reader.specs.declared.state.Head.{Head}
use Rattle.fcp_reader.specs.declared.state.Part.{Part}
use Rattle.fcp_reader.specs.declared.state.Part.TheVariants as Q
use Rattle.fcp_reader.specs.declared.state.State.{State}
use Rattle.fcp_grammar.specs.Terms.{over, is_large, start, term_of}
use Rattle.fcp_grammar.specs.Terms as terms
use Rattle.fcp_grammar.specs.Items.{step_side}
use Rattle.fcp_grammar.specs.ItemGrammar.{over_items}
use Rattle.fcp_reader.specs.ModuleValues.{head_of, clause_of, with_clause}

-- the module so far, and where the next clause or attribute stands
abbrev pub state : Module → Part → State
state m part = record { read = m; part = part }

-- the clause ends
abbrev pub ended : Module → Head → Option (List Item) → List Item → ℕ → State
ended m h guard body vars = state (with_clause m (clause_of h guard body vars)) Q.Between

-- a further terminal that is not too many
abbrev pub goes : State → Option (State × Bool)
goes s = Some (s, false)

-- the terminal behind a head
unfoldable pub behind_head : Module → Head → Terminal → Option (State × Bool)
behind_head m h terminal.If = goes (state m (Q.Body h None [] Start))
behind_head m h (terminal.Dot n) = goes (ended m h None [] n)
behind_head m h _ = None

-- the terminal behind an argument of the head
abbrev pub behind_arg : Module → ℕ → Sym → List Term → Terminal → Option (State × Bool)
behind_arg m at s done terminal.Comma = goes (state m (Q.Args at s done start))
behind_arg m at s done terminal.RoundClose = goes (state m (Q.Called (head_of at s done)))
behind_arg m at s done _ = None

-- a terminal within a head's argument, by what it comes to within its term
abbrev pub args_told : Module → ℕ → Sym → List Term → TermAt → Terminal → Told → Option (State × Bool)
args_told m at s done x w (R.Read y) = Some (state m (Q.Args at s done y), is_large (over done) x w)
args_told m at s done x w (R.Whole phase) = behind_arg m at s (done ++ term_of phase ∷ []) w
args_told m at s done x w R.Refused = None

-- a terminal of an argument of the head
unfoldable pub in_args : Module → ℕ → Sym → List Term → TermAt → Terminal → Option (State × Bool)
in_args m at s done x w = args_told m at s done x w (terms.step x w)

-- behind the `|` the items so far are the guard; there is one at most
abbrev pub barred : Module → Head → Option (List Item) → List Item → Option (State × Bool)
barred m h None items = goes (state m (Q.Body h (Some items) [] Start))
barred m h (Some _) items = None

-- the terminal behind an item
unfoldable pub behind_item : Module → Head → Option (List Item) → List Item → Terminal → Option (State × Bool)
behind_item m h guard items terminal.Comma = goes (state m (Q.Body h guard items Start))
behind_item m h guard items terminal.Bar = barred m h guard items
behind_item m h guard items (terminal.Dot n) = goes (ended m h guard items n)
behind_item m h guard items _ = None

-- a terminal within an item, by what it comes to there
abbrev pub body_turn : Module → Head → Option (List Item) → List Item → Terminal → ItemStep → Option (State × Bool)
body_turn m h guard items w (N.Goes side mark) = Some (state m (Q.Body h guard items side), mark)
body_turn m h guard items w (N.Ends item) = behind_item m h guard (items ++ item ∷ []) w
body_turn m h guard items w N.Refused = None

-- a terminal of an item
unfoldable pub in_body : Module → Head → Option (List Item) → List Item → Side → Terminal → Option (State × Bool)
in_body m h guard items side w = body_turn m h guard items w (step_side (over_items items) side w)

-- the terminal behind the first string
abbrev pub named : Module → ℕ → Sym → Terminal → Option (State × Bool)
named m at s (terminal.RoundOpen o) = goes (state m (Q.Args at s [] start))
named m at s w = behind_head m (head_of at s []) w
