-- The terminals of the marks.
use Rattle.std.specs.Prelude.{ℕ, ◌==◌, List, [], ◌∷◌, find, Option, Some, None}
use Rattle.fcp_model.specs.declared.term.ArithOp.TheVariants.{Add, Sub, Mul, Div}
use Rattle.fcp_model.specs.declared.term.CompareOp.TheVariants as compare
use Rattle.fcp_grammar.specs.declared.terminals.Terminal.{Terminal}
use Rattle.fcp_grammar.specs.declared.terminals.Terminal.TheVariants as terminal
use Rattle.fcp_text.specs.Signs as signs

-- each mark's number and its terminal, for a mark at `at` with this many variables before it
abbrev pub mark_terminals : ℕ → ℕ → List (ℕ × Terminal)
mark_terminals at variables =
    (signs.round_open, terminal.RoundOpen at) ∷ (signs.round_close, terminal.RoundClose)
    ∷ (signs.square_open, terminal.SquareOpen at) ∷ (signs.square_close, terminal.SquareClose)
    ∷ (signs.curly_open, terminal.CurlyOpen at) ∷ (signs.curly_close, terminal.CurlyClose)
    ∷ (signs.bar, terminal.Bar) ∷ (signs.comma, terminal.Comma) ∷ (signs.dot, terminal.Dot variables)
    ∷ (signs.question, terminal.Question) ∷ (signs.if_sign, terminal.If) ∷ (signs.assign, terminal.Assign)
    ∷ (signs.equals, terminal.Equals) ∷ (signs.same, terminal.Same) ∷ (signs.not_same, terminal.NotSame)
    ∷ (signs.less, terminal.Compare compare.Less) ∷ (signs.at_most, terminal.Compare compare.AtMost)
    ∷ (signs.greater, terminal.Compare compare.Greater) ∷ (signs.at_least, terminal.Compare compare.AtLeast)
    ∷ (signs.equal, terminal.Compare compare.Equal) ∷ (signs.not_equal, terminal.Compare compare.NotEqual)
    ∷ (signs.plus, terminal.Operator Add at) ∷ (signs.minus, terminal.Operator Sub at)
    ∷ (signs.times, terminal.Operator Mul at) ∷ (signs.divide, terminal.Operator Div at)
    ∷ (signs.colon, terminal.Other) ∷ (signs.hash, terminal.Other) ∷ []

-- the terminal of a mark that was found; the others have no use in the grammar
abbrev pub terminal_in : Option (ℕ × Terminal) → Terminal
terminal_in (Some w) = w.1
terminal_in None = terminal.Other

-- the terminal of a mark by its number
unfoldable pub mark_terminal : ℕ → ℕ → ℕ → Terminal
mark_terminal at variables m = terminal_in (find (λ w. w.0 == m) (mark_terminals at variables))
