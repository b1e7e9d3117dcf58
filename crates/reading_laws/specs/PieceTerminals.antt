-- The terminals of pieces, where variables are numbered as they are written.
use Rattle.std.specs.Prelude.{ℕ, ◌+◌, ◌==◌, nat_le, nat_lt, Bool, true, ◌&&◌, List, [], ◌∷◌, length, if◌then◌else◌}
use Rattle.fcp_model.specs.NameList.{noted}
use Rattle.fcp_model.specs.Spelling.{is_name}
use Rattle.fcp_text.specs.Bytes.{Text}
use Rattle.fcp_grammar.specs.declared.terminals.StringForm.{StringForm}
use Rattle.fcp_grammar.specs.declared.terminals.StringForm.TheVariants as form
use Rattle.fcp_grammar.specs.declared.terminals.Terminal.{Terminal}
use Rattle.fcp_grammar.specs.declared.terminals.Terminal.TheVariants as terminal
use Rattle.fcp_terminals.specs.MarkTerminals.{mark_terminal}
use Rattle.fcp_terminals.specs.Numbering.{name_form, string_terminal}
use Rattle.text_laws.specs.Spellings.{Spelling, string, number, variable, mark, space, line_feed, spelling_text}
use Rattle.fcp_text.specs.Signs as signs
use Rattle.fcp_grammar.specs.Limits.{most_variables}

-- how a string is written
abbrev pub string_form : Text → StringForm
string_form bs = if is_name bs then name_form bs else form.Quoted

-- how many variables there are behind an occurrence of the k-th, where there are n before it
abbrev pub with_number : ℕ → ℕ → ℕ
with_number n k = if nat_lt n k then k else n

-- how many there are behind a mark: a `.` forgets them all
abbrev pub behind_sign : ℕ → ℕ → ℕ
behind_sign m n = if m == signs.dot then 0 else n

-- where a reader stands: the place, the number of variables of the clause so far, and the strings so far
pub record Position : Type 0 where
  pub at : ℕ
  pub count : ℕ
  pub names : List Text

-- a place in the text, so many variables numbered, and the strings so far
abbrev pub position : ℕ → ℕ → List Text → Position
position at count names = record { at = at; count = count; names = names }

-- where it stands behind a piece
abbrev pub behind_piece : Position → Spelling → Position
behind_piece p (string bs) = position (p.at + length (spelling_text (string bs))) p.count (noted p.names bs)
behind_piece p (number i) = position (p.at + length (spelling_text (number i))) p.count p.names
behind_piece p (variable k) = position (p.at + length (spelling_text (variable k))) (with_number p.count k) p.names
behind_piece p (mark m) = position (p.at + length (spelling_text (mark m))) (behind_sign m p.count) p.names
behind_piece p space = position (p.at + length (spelling_text space)) p.count p.names
behind_piece p line_feed = position (p.at + length (spelling_text line_feed)) p.count p.names

-- the terminals of a piece, one or none, and then the rest
abbrev pub piece_terminal : Position → Spelling → List Terminal → List Terminal
piece_terminal p (string bs) ws = string_terminal p.names p.at bs (string_form bs) ∷ ws
piece_terminal p (number i) ws = terminal.Int i p.at ∷ ws
piece_terminal p (variable k) ws = terminal.Var k p.at ∷ ws
piece_terminal p (mark m) ws = mark_terminal p.at p.count m ∷ ws
piece_terminal p space ws = ws
piece_terminal p line_feed ws = ws

-- the terminals of pieces
abbrev pub piece_terminals : Position → List Spelling → List Terminal
piece_terminals p [] = []
piece_terminals p (x ∷ ps) = piece_terminal p x (piece_terminals (behind_piece p x) ps)

-- where the reader stands behind pieces
abbrev pub behind_pieces : Position → List Spelling → Position
behind_pieces p [] = p
behind_pieces p (x ∷ ps) = behind_pieces (behind_piece p x) ps

-- ---- the order of variables

-- the k-th variable may stand behind n: it is one of them, or the next, and there are not too many
abbrev pub is_next : ℕ → ℕ → Bool
is_next n k = nat_le 1 k && nat_le k (n + 1) && nat_le k most_variables

-- a piece is a variable that may stand behind n, or no variable
abbrev pub may_stand : ℕ → Spelling → Bool
may_stand n (variable k) = is_next n k
may_stand n _ = true

-- the variables of pieces are numbered in their order, in each clause anew
abbrev pub in_order : Position → List Spelling → Bool
in_order p [] = true
in_order p (x ∷ ps) = may_stand p.count x && in_order (behind_piece p x) ps
