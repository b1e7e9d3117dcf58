-- Terminals whose numbers have 64 bits and whose variables are numbered in their order.
use Rattle.std.specs.Prelude.{ℕ, Bool, true, ◌&&◌, nat_eq, nat_le, List, [], ◌∷◌}
use Rattle.std.specs.List.{list_all}
use Rattle.fcp_grammar.specs.declared.terminals.Terminal.{Terminal}
use Rattle.fcp_grammar.specs.declared.terminals.Terminal.TheVariants as terminal
use Rattle.text_laws.specs.Writable.{is_int}
use Rattle.reading_laws.specs.PieceTerminals.{with_number, is_next}
use Rattle.fcp_grammar.specs.Limits.{most_variables}

-- the terminal may stand behind n variables of its clause; a `.` carries their number
abbrev pub terminal_fits : ℕ → Terminal → Bool
terminal_fits n (terminal.Int i at) = is_int i
terminal_fits n (terminal.Var k at) = is_next n k
terminal_fits n (terminal.Dot j) = nat_eq j n
terminal_fits n _ = true

-- the number of variables behind a terminal; a `.` forgets them
abbrev pub count_after : ℕ → Terminal → ℕ
count_after n (terminal.Var k at) = with_number n k
count_after n (terminal.Dot j) = 0
count_after n _ = n

-- each terminal may stand where it does
abbrev pub terminals_fit : ℕ → List Terminal → Bool
terminals_fit n [] = true
terminals_fit n (w ∷ ws) = terminal_fits n w && terminals_fit (count_after n w) ws

-- no variable is one of too many
abbrev pub is_few : Terminal → Bool
is_few (terminal.Var k at) = nat_le k most_variables
is_few _ = true

-- none of the terminals is that of a variable too many
abbrev pub are_few : List Terminal → Bool
are_few ws = list_all is_few ws
