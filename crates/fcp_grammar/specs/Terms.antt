-- Not believed, for the machine alone: reading a term, and what one more terminal does.
use Rattle.std.specs.Prelude.{ℕ, List, [], ◌∷◌, ◌++◌, Bool, true, false, nat_lt, ◌||◌, ◌&&◌}
use Rattle.fcp_model.specs.declared.term.Term.{Term}
use Rattle.fcp_model.specs.declared.term.Term.TheVariants as T
use Rattle.fcp_grammar.specs.declared.terminals.Terminal.{Terminal}
use Rattle.fcp_grammar.specs.declared.terminals.Terminal.TheVariants as terminal
use Rattle.fcp_grammar.specs.declared.terms.Frame.{Frame}
use Rattle.fcp_grammar.specs.declared.terms.Frame.TheVariants as F
use Rattle.fcp_grammar.specs.declared.terms.Phase.{Phase}
use Rattle.fcp_grammar.specs.declared.terms.Phase.TheVariants as P
use Rattle.fcp_grammar.specs.declared.terms.TermAt.{TermAt}
use Rattle.fcp_grammar.specs.declared.terms.Told.{Told}
use Rattle.fcp_grammar.specs.declared.terms.Told.TheVariants.{Read, Whole, Refused}
use Rattle.fcp_grammar.specs.Values.{listed, tuple_of, is_empty}
pub use Rattle.fcp_grammar.specs.Values.{over}
use Rattle.fcp_grammar.specs.Limits.{most_variables}

-- the term goes on
abbrev pub reads : List Frame → Phase → Told
reads stack phase = Read (record { stack = stack; phase = phase })

-- the first terminal of a term
unfoldable pub begin : List Frame → Terminal → Told
begin stack (terminal.Int n at) = reads stack (P.Have at (T.Int n))
begin stack (terminal.Str s form at) = reads stack (P.Named at s)
begin stack (terminal.Var k at) = reads stack (P.Variable at k)
begin stack (terminal.SquareOpen at) = reads stack (P.Opened at)
begin stack (terminal.CurlyOpen at) = reads (F.Braces at [] ∷ stack) P.Want
begin stack _ = Refused

-- the term that is whole where this phase is the last
unfoldable pub term_of : Phase → Term
term_of (P.Named at s) = T.Str s
term_of (P.Called at s ts) = tuple_of s ts
term_of (P.Variable at k) = T.Var k
term_of (P.Have at t) = t
term_of _ = T.Nil

-- a terminal behind a whole term within brackets
unfoldable pub in_frame : Frame → List Frame → Term → Terminal → Told
in_frame (F.Call at s done) stack t terminal.Comma = reads (F.Call at s (done ++ t ∷ []) ∷ stack) P.Want
in_frame (F.Call at s done) stack t terminal.RoundClose = reads stack (P.Called at s (done ++ t ∷ []))
in_frame (F.List at done) stack t terminal.Comma = reads (F.List at (done ++ t ∷ []) ∷ stack) P.Want
in_frame (F.List at done) stack t terminal.Bar = reads (F.Rest at (done ++ t ∷ []) ∷ stack) P.Want
in_frame (F.List at done) stack t terminal.SquareClose = reads stack (P.Have at (listed (done ++ t ∷ []) T.Nil))
in_frame (F.Rest at done) stack t terminal.SquareClose = reads stack (P.Have at (listed done t))
in_frame (F.Braces at done) stack t terminal.Comma = reads (F.Braces at (done ++ t ∷ []) ∷ stack) P.Want
in_frame (F.Braces at done) stack t terminal.CurlyClose = reads stack (P.Have at (T.Tuple (done ++ t ∷ [])))
in_frame _ stack t _ = Refused

-- a terminal behind a whole term
unfoldable pub behind : List Frame → Phase → Terminal → Told
behind [] phase w = Whole phase
behind (frame ∷ stack) phase w = in_frame frame stack (term_of phase) w

-- one terminal, by the phase
unfoldable pub step_by : List Frame → Phase → Terminal → Told
step_by stack P.Want w = begin stack w
step_by stack (P.Opened at) terminal.SquareClose = reads stack (P.Have at T.Nil)
step_by stack (P.Opened at) w = begin (F.List at [] ∷ stack) w
step_by stack (P.Named at s) (terminal.RoundOpen _) = reads (F.Call at s [] ∷ stack) P.Want
step_by stack (P.Variable at k) terminal.Question = reads stack (P.Have at (T.Ro k))
step_by stack phase w = behind stack phase w

-- one terminal
abbrev pub step : TermAt → Terminal → Told
step at w = step_by at.stack at.phase w

-- ---- what is one too many

-- the next term is one too many; `outside` says so of a term in no bracket
unfoldable pub full : Bool → List Frame → Bool
full outside [] = outside
full outside (F.Call at s done ∷ stack) = over done
full outside (F.Braces at done ∷ stack) = over done
full outside (_ ∷ stack) = false

-- a term is still to begin
abbrev pub is_wanted : Phase → Bool
is_wanted P.Want = true
is_wanted _ = false

-- a variable past the last is one too many too
abbrev pub large_by : Bool → Terminal → Bool
large_by m (terminal.Var k at) = m || nat_lt most_variables k
large_by m _ = m

-- the terminal is one too many
unfoldable pub is_large : Bool → TermAt → Terminal → Bool
is_large outside at w = large_by (is_wanted at.phase && full outside at.stack) w

-- the place of the term that was begun last
abbrev pub place_of : Phase → ℕ
place_of P.Want = 0
place_of (P.Opened at) = at
place_of (P.Named at s) = at
place_of (P.Called at s ts) = at
place_of (P.Variable at k) = at
place_of (P.Have at t) = at

-- a term of which nothing was read
abbrev pub start : TermAt
start = record { stack = []; phase = P.Want }

-- the terminal opens parentheses around an expression
abbrev pub opens_group : TermAt → Terminal → Bool
opens_group at (terminal.RoundOpen o) = is_wanted at.phase && is_empty at.stack
opens_group at _ = false
