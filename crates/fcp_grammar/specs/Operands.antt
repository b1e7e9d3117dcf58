-- Not believed, for the machine alone: what a terminal does behind an operand.
use Rattle.std.specs.Prelude.{ℕ, List, [], ◌∷◌, Bool, true, false, if◌then◌else◌}
use Rattle.fcp_model.specs.declared.term.Expr.{Expr}
use Rattle.fcp_model.specs.declared.term.ArithOp.{ArithOp}
use Rattle.fcp_model.specs.declared.term.ArithOp.TheVariants.{Mod}
use Rattle.fcp_model.specs.declared.term.CompareOp.{CompareOp}
use Rattle.fcp_model.specs.declared.source.Call.TheVariants.{Assign, Compare}
use Rattle.fcp_grammar.specs.declared.terminals.StringForm.TheVariants as F
use Rattle.fcp_grammar.specs.declared.terminals.Terminal.{Terminal}
use Rattle.fcp_grammar.specs.declared.terminals.Terminal.TheVariants as terminal
use Rattle.fcp_grammar.specs.declared.expressions.Level.{Level}
use Rattle.fcp_grammar.specs.declared.sides.LeftSide.{LeftSide}
use Rattle.fcp_grammar.specs.declared.sides.LeftSide.TheVariants as L
use Rattle.fcp_grammar.specs.declared.sides.Sums.{Sums}
use Rattle.fcp_grammar.specs.declared.sides.Side.TheVariants as S
use Rattle.fcp_grammar.specs.declared.sides.ItemStep.{ItemStep}
use Rattle.fcp_grammar.specs.declared.sides.ItemStep.TheVariants.{Goes, Ends, Refused}
use Rattle.fcp_grammar.specs.Terms.{start}
use Rattle.fcp_grammar.specs.Expressions.{nothing, whole, before}
use Rattle.fcp_grammar.specs.ExpressionGrammar.{over_operators}
pub use Rattle.fcp_grammar.specs.ExpressionGrammar.{more}

-- a terminal that ends an item
abbrev pub ends_item : Terminal → Bool
ends_item terminal.Comma = true
ends_item terminal.Bar = true
ends_item (terminal.Dot n) = true
ends_item _ = false

-- where the reading of an expression stands
abbrev pub sums_of : ℕ → LeftSide → List Level → Level → ℕ → Sums
sums_of at left groups level n = record { at = at; left = left; groups = groups; level = level; operators = n }

-- an operator
abbrev pub after_operator : Sums → ArithOp → Expr → ItemStep
after_operator s op e =
    Goes (S.Sum (sums_of s.at s.left s.groups (before s.level op e) (more s.operators)) start) (over_operators s.operators)

-- a `)`: the parenthesis is an operand of what stood before it
abbrev pub closes : ℕ → LeftSide → List Level → Expr → ℕ → ItemStep
closes at left [] e n = Refused
closes at left (outer ∷ groups) e n = Goes (S.Closed (sums_of at left groups outer n) e) false

-- an operand with a `)` behind it
abbrev pub behind_close : Sums → Expr → ItemStep
behind_close s e = closes s.at s.left s.groups (whole s.level e) s.operators

-- a comparison: one in an item, in no parenthesis, and none behind a `:=`
abbrev pub compares : ℕ → LeftSide → List Level → CompareOp → Expr → ℕ → ItemStep
compares at L.Nothing [] op e n = Goes (S.Sum (sums_of at (L.Compared e op) [] nothing n) start) false
compares at _ _ op e n = Refused

-- an operand with a comparison behind it
abbrev pub behind_comparison : Sums → CompareOp → Expr → ItemStep
behind_comparison s op e = compares s.at s.left s.groups op (whole s.level e) s.operators

-- the item that ends with an operand
abbrev pub ends : ℕ → LeftSide → List Level → Expr → ItemStep
ends at (L.Compared l op) [] e = Ends (record { at = at; call = Compare op l e })
ends at (L.Assigned t) [] e = Ends (record { at = at; call = Assign t e })
ends at _ _ e = Refused

-- an operand with which the item ends
abbrev pub behind_item : Sums → Expr → ItemStep
behind_item s e = ends s.at s.left s.groups (whole s.level e)

-- a terminal behind an operand, where the item goes on
abbrev pub behind_part : Sums → Expr → Terminal → ItemStep
behind_part s e (terminal.Operator Mod at) = Refused
behind_part s e (terminal.Operator op at) = after_operator s op e
behind_part s e (terminal.Str name F.Mod at) = after_operator s Mod e
behind_part s e terminal.RoundClose = behind_close s e
behind_part s e (terminal.Compare op) = behind_comparison s op e
behind_part s e _ = Refused

-- a terminal behind an operand
unfoldable pub behind_operand : Sums → Expr → Terminal → ItemStep
behind_operand s e w = if ends_item w then behind_item s e else behind_part s e w
