-- What is read up to the end of a clause or an attribute.
use Rattle.std.proofs.Common.{◌≡◌, ℕ, true, List, [], ◌∷◌, refl, ap, ◌∙◌}
use Rattle.fcp_grammar.specs.declared.terminals.Terminal.TheVariants as terminal
use Rattle.fcp_grammar.specs.Grammar.{Marked, plain}
use Rattle.fcp_terminals.specs.Numbering.{Grows}
use Rattle.fcp_reader.specs.Texts.{clean}
use Rattle.text_laws.specs.Spellings.{Spelling, mark, line_feed}
use Rattle.text_laws.specs.TermSpellings.{Writing}
use Rattle.text_laws.specs.SourceSpellings.{closing_line}
use Rattle.reading_laws.specs.PieceTerminals.{Position, behind_piece, piece_terminals, behind_pieces, in_order}
use Rattle.reading_laws.specs.Variables.{are_next}
use Rattle.reading_laws.proofs.Following.{Follows, grows-same, grows-on}
use Rattle.reading_laws.proofs.TreePieces.{mark-follows}
use Rattle.reading_laws.proofs.ClausePieces.{round_close-terminal, dot-terminal}
use Rattle.fcp_text.specs.Signs as signs

-- The pieces of `w` are the terminals of `spelled`, and behind them no variables are counted. `ks` are the variables in them.
pub record Closes (w : Writing) (ks : List ℕ) (spelled : List Marked → List Marked) (p q : Position) : Type 0 where
  pub terminals : (ps : List Spelling) (rest : List Marked)
      → clean (piece_terminals p (w ps)) rest ≡ spelled (clean (piece_terminals q ps) rest)
  pub behind : (ps : List Spelling) → behind_pieces p (w ps) ≡ behind_pieces q ps
  pub grows : Grows p.names q.names
  pub count : q.count ≡ 0
  pub order : (ps : List Spelling) → are_next p.count ks ≡ true → in_order p (w ps) ≡ in_order q ps

-- a `.` carries the number of the variables before it
pub dot-closes : (n : ℕ) (p : Position) → p.count ≡ n
    → Closes (λ ps. mark signs.dot ∷ ps) [] (λ rest. plain (terminal.Dot n) ∷ rest) p (behind_piece p (mark signs.dot))
dot-closes n p e = record {
  terminals =
      λ ps rest. ap (λ x. plain x ∷ clean (piece_terminals (behind_piece p (mark signs.dot)) ps) rest)
      (dot-terminal p.at p.count ∙ ap (λ k. terminal.Dot k) e);
  behind = λ ps. refl;
  grows = grows-same p.names;
  count = refl;
  order = λ ps h. refl;
}

-- where none are counted, a line feed leaves that so
pub line_feed-closes : (p : Position) → p.count ≡ 0 → Closes (λ ps. line_feed ∷ ps) [] (λ rest. rest) p (behind_piece p line_feed)
line_feed-closes p e =
    record { terminals = λ ps rest. refl; behind = λ ps. refl; grows = grows-same p.names; count = e; order = λ ps h. refl }

-- so do no pieces
pub nothing-closes : (p : Position) → p.count ≡ 0 → Closes (λ ps. ps) [] (λ rest. rest) p p
nothing-closes p e =
    record { terminals = λ ps rest. refl; behind = λ ps. refl; grows = grows-same p.names; count = e; order = λ ps h. refl }

-- what follows, and then an end
pub then-closes : (v w : Writing) (ks : List ℕ) (s t : List Marked → List Marked) (p q r : Position) → Follows v ks s p q
    → Closes w [] t q r
    → Closes (λ ps. v (w ps)) ks (λ rest. s (t rest)) p r
then-closes v w ks s t p q r f g = record {
  terminals = λ ps rest. f.terminals (w ps) rest ∙ ap s (g.terminals ps rest);
  behind = λ ps. f.behind (w ps) ∙ g.behind ps;
  grows = grows-on p.names q.names r.names f.grows g.grows;
  count = g.count;
  order = λ ps e. f.order (w ps) e ∙ g.order ps refl;
}

-- one end behind the other
pub closes-on : (v w : Writing) (ks : List ℕ) (s t : List Marked → List Marked) (p q r : Position) → Closes v ks s p q → Closes w [] t q r
    → Closes (λ ps. v (w ps)) ks (λ rest. s (t rest)) p r
closes-on v w ks s t p q r f g = record {
  terminals = λ ps rest. f.terminals (w ps) rest ∙ ap s (g.terminals ps rest);
  behind = λ ps. f.behind (w ps) ∙ g.behind ps;
  grows = grows-on p.names q.names r.names f.grows g.grows;
  count = g.count;
  order = λ ps e. f.order (w ps) e ∙ g.order ps refl;
}

-- where the variables are in their order
pub settled : (w : Writing) (ks : List ℕ) (s : List Marked → List Marked) (p q : Position) → are_next p.count ks ≡ true → Closes w ks s p q
    → Closes w [] s p q
settled w ks s p q e f =
    record { terminals = f.terminals; behind = f.behind; grows = f.grows; count = f.count; order = λ ps h. f.order ps e }

-- the same terminals in another form
pub closes-as : (w : Writing) (ks : List ℕ) (s t : List Marked → List Marked) (p q : Position) → ((rest : List Marked) → s rest ≡ t rest)
    → Closes w ks s p q → Closes w ks t p q
closes-as w ks s t p q e f =
    record {
      terminals = λ ps rest. f.terminals ps rest ∙ e (clean (piece_terminals q ps) rest);
      behind = f.behind;
      grows = f.grows;
      count = f.count;
      order = f.order;
    }

-- where the reader stands behind the end of an attribute
abbrev pub behind_closing : Position → Position
behind_closing p = behind_piece (behind_piece (behind_piece p (mark signs.round_close)) (mark signs.dot)) line_feed

-- the end of an attribute
pub closing-closes : (n : ℕ) (p : Position) → p.count ≡ n
    → Closes closing_line [] (λ rest. plain terminal.RoundClose ∷ plain (terminal.Dot n) ∷ rest) p (behind_closing p)
closing-closes n p e =
    let a : Position = behind_piece p (mark signs.round_close) in
    let b : Position = behind_piece a (mark signs.dot) in
    then-closes (λ ps. mark signs.round_close ∷ ps) (λ ps. mark signs.dot ∷ line_feed ∷ ps) [] (λ rest. plain terminal.RoundClose ∷ rest)
    (λ rest. plain (terminal.Dot n) ∷ rest) p a (behind_piece b line_feed)
    (mark-follows p signs.round_close terminal.RoundClose (round_close-terminal p.at p.count) refl)
    (closes-on (λ ps. mark signs.dot ∷ ps) (λ ps. line_feed ∷ ps) [] (λ rest. plain (terminal.Dot n) ∷ rest) (λ rest. rest) a b
    (behind_piece b line_feed) (dot-closes n a e) (line_feed-closes b refl))
