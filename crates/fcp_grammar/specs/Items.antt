-- Not believed, for the machine alone: reading an item, and what one more terminal does.
use Rattle.std.specs.Prelude.{ℕ, List, [], ◌∷◌, Bool, false, ◌&&◌, if◌then◌else◌}
use Rattle.fcp_model.specs.declared.term.Term.{Term}
use Rattle.fcp_model.specs.declared.term.Expr.TheVariants as E
use Rattle.fcp_model.specs.declared.source.Call.TheVariants.{User}
use Rattle.fcp_model.specs.declared.source.Item.{Item}
use Rattle.fcp_grammar.specs.declared.terminals.Terminal.{Terminal}
use Rattle.fcp_grammar.specs.declared.terminals.Terminal.TheVariants as terminal
use Rattle.fcp_grammar.specs.declared.terms.Phase.{Phase}
use Rattle.fcp_grammar.specs.declared.terms.Phase.TheVariants as P
use Rattle.fcp_grammar.specs.declared.terms.TermAt.{TermAt}
use Rattle.fcp_grammar.specs.declared.terms.Told.{Told}
use Rattle.fcp_grammar.specs.declared.terms.Told.TheVariants as R
use Rattle.fcp_grammar.specs.declared.expressions.Level.{Level}
use Rattle.fcp_grammar.specs.declared.sides.TermSign.{TermSign}
use Rattle.fcp_grammar.specs.declared.sides.TermSign.TheVariants.{Equals, Same, NotSame}
use Rattle.fcp_grammar.specs.declared.sides.Equation.{Equation}
use Rattle.fcp_grammar.specs.declared.sides.LeftSide.{LeftSide}
use Rattle.fcp_grammar.specs.declared.sides.LeftSide.TheVariants as L
use Rattle.fcp_grammar.specs.declared.sides.Sums.{Sums}
use Rattle.fcp_grammar.specs.declared.sides.Side.{Side}
use Rattle.fcp_grammar.specs.declared.sides.Side.TheVariants as S
use Rattle.fcp_grammar.specs.declared.sides.ItemStep.{ItemStep}
use Rattle.fcp_grammar.specs.declared.sides.ItemStep.TheVariants.{Goes, Ends, Refused}
use Rattle.fcp_grammar.specs.ItemGrammar.{sign_call}
use Rattle.fcp_grammar.specs.Terms.{step, term_of, place_of, start, is_large, opens_group}
use Rattle.fcp_grammar.specs.Expressions.{nothing, is_nothing}
use Rattle.fcp_grammar.specs.Operands.{ends_item, sums_of, behind_operand}

-- nothing stands before the operand
abbrev pub fresh_by : List Level → LeftSide → Level → Bool
fresh_by [] L.Nothing level = is_nothing level
fresh_by _ _ level = false

-- nothing of the item stands before the operand that is read now
abbrev pub is_fresh : Sums → Bool
is_fresh s = fresh_by s.groups s.left s.level

-- an item of which nothing was read, at this place
abbrev pub fresh_at : ℕ → Sums
fresh_at at = sums_of at L.Nothing [] nothing 0

-- ---- behind a term in no bracket

-- the call of a procedure
unfoldable pub call_item : ℕ → Phase → ItemStep
call_item at (P.Named a s) = Ends (record { at = at; call = User s [] })
call_item at (P.Called a s ts) = Ends (record { at = at; call = User s ts })
call_item at _ = Refused

-- the left side and the sign of two terms that are made equal or compared
abbrev pub equation : ℕ → Term → TermSign → Equation
equation at t sign = record { at = at; left = t; sign = sign }

-- a sign between two terms
abbrev pub equate : ℕ → Phase → TermSign → ItemStep
equate at phase sign = Goes (S.Equal (equation at (term_of phase) sign) start) false

-- a `:=`
abbrev pub assign : ℕ → Phase → ItemStep
assign at phase = Goes (S.Sum (sums_of at (L.Assigned (term_of phase)) [] nothing 0) start) false

-- the term is an operand
abbrev pub behind_leaf : Sums → Phase → Terminal → ItemStep
behind_leaf s phase w = behind_operand s (E.Leaf (term_of phase) (place_of phase)) w

-- the term is the first of its item, which goes on
abbrev pub behind_left : Sums → Phase → Terminal → ItemStep
behind_left s phase terminal.Equals = equate s.at phase Equals
behind_left s phase terminal.Same = equate s.at phase Same
behind_left s phase terminal.NotSame = equate s.at phase NotSame
behind_left s phase terminal.Assign = assign s.at phase
behind_left s phase w = behind_leaf s phase w

-- the term is the first of its item
unfoldable pub behind_first : Sums → Phase → Terminal → ItemStep
behind_first s phase w = if ends_item w then call_item s.at phase else behind_left s phase w

-- a terminal behind a whole term of an expression
unfoldable pub behind_whole : Sums → Phase → Terminal → ItemStep
behind_whole s phase w = if is_fresh s then behind_first s phase w else behind_leaf s phase w

-- ---- one more terminal

-- inside a parenthesis more
abbrev pub inside : Sums → Sums
inside s = sums_of s.at s.left (s.level ∷ s.groups) nothing s.operators

-- what a terminal within an expression comes to, by what it comes to within its term
unfoldable pub sum_told : Bool → Sums → TermAt → Terminal → Told → ItemStep
sum_told first s x w (R.Read y) = Goes (S.Sum s y) (is_large first x w)
sum_told first s x w (R.Whole phase) = behind_whole s phase w
sum_told first s x w R.Refused = if opens_group x w then Goes (S.Sum (inside s) start) first else Refused

-- one terminal within an expression
unfoldable pub step_sum : Bool → Sums → TermAt → Terminal → ItemStep
step_sum mark s x w = sum_told (is_fresh s && mark) s x w (step x w)

-- the item, once its right side is read
abbrev pub equation_item : Equation → Term → Item
equation_item e u = record { at = e.at; call = sign_call e.sign e.left u }

-- what a terminal within a right side comes to, by what it comes to within its term
abbrev pub equal_told : Equation → TermAt → Terminal → Told → ItemStep
equal_told e x w (R.Read y) = Goes (S.Equal e y) (is_large false x w)
equal_told e x w (R.Whole phase) = if ends_item w then Ends (equation_item e (term_of phase)) else Refused
equal_told e x w R.Refused = Refused

-- one terminal within the right side of a sign between terms
unfoldable pub step_equal : Equation → TermAt → Terminal → ItemStep
step_equal e x w = equal_told e x w (step x w)

-- the place of a terminal that may begin an item
abbrev pub place : Terminal → ℕ
place (terminal.Int n at) = at
place (terminal.Str s form at) = at
place (terminal.Var k at) = at
place (terminal.RoundOpen at) = at
place (terminal.SquareOpen at) = at
place (terminal.CurlyOpen at) = at
place _ = 0

-- `mark` says that the item is one too many
unfoldable pub step_side : Bool → Side → Terminal → ItemStep
step_side mark S.Start w = step_sum mark (fresh_at (place w)) start w
step_side mark (S.Equal e x) w = step_equal e x w
step_side mark (S.Sum s x) w = step_sum mark s x w
step_side mark (S.Closed s e) w = behind_operand s e w
