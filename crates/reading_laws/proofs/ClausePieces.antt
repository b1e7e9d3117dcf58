-- The terminals of the marks of clauses, and pieces between marks.
use Rattle.std.proofs.Common.{◌≡◌, ℕ, List, [], ◌∷◌, append-nil, refl, ◌∙◌, subst}
use Rattle.fcp_grammar.specs.Grammar.{Marked, plain}
use Rattle.fcp_grammar.specs.declared.terminals.Terminal.{Terminal}
use Rattle.fcp_grammar.specs.declared.terminals.Terminal.TheVariants as terminal
use Rattle.fcp_terminals.specs.MarkTerminals.{mark_terminal}
use Rattle.fcp_reader.specs.Texts.{clean}
use Rattle.text_laws.specs.Spellings.{mark, space}
use Rattle.text_laws.specs.TermSpellings.{Writing}
use Rattle.reading_laws.specs.PieceTerminals.{Position, behind_piece, behind_sign, piece_terminals}
use Rattle.reading_laws.proofs.Following.{Follows, then}
use Rattle.reading_laws.proofs.TreePieces.{mark-follows, space-follows}
use Rattle.fcp_text.specs.Signs as signs

-- ---- the terminals of the marks

pub round_open-terminal : (at n : ℕ) → mark_terminal at n signs.round_open ≡ terminal.RoundOpen at
unfolding mark_terminal
round_open-terminal at n = refl

pub round_close-terminal : (at n : ℕ) → mark_terminal at n signs.round_close ≡ terminal.RoundClose
unfolding mark_terminal
round_close-terminal at n = refl

pub square_open-terminal : (at n : ℕ) → mark_terminal at n signs.square_open ≡ terminal.SquareOpen at
unfolding mark_terminal
square_open-terminal at n = refl

pub square_close-terminal : (at n : ℕ) → mark_terminal at n signs.square_close ≡ terminal.SquareClose
unfolding mark_terminal
square_close-terminal at n = refl

pub bar-terminal : (at n : ℕ) → mark_terminal at n signs.bar ≡ terminal.Bar
unfolding mark_terminal
bar-terminal at n = refl

pub comma-terminal : (at n : ℕ) → mark_terminal at n signs.comma ≡ terminal.Comma
unfolding mark_terminal
comma-terminal at n = refl

pub dot-terminal : (at n : ℕ) → mark_terminal at n signs.dot ≡ terminal.Dot n
unfolding mark_terminal
dot-terminal at n = refl

pub if-terminal : (at n : ℕ) → mark_terminal at n signs.if_sign ≡ terminal.If
unfolding mark_terminal
if-terminal at n = refl

-- ---- one behind the other, where one of them has no variables

pub then-none : (v w : Writing) (ks : List ℕ) (s t : List Marked → List Marked) (p q r : Position) → Follows v ks s p q → Follows w [] t q r
    → Follows (λ ps. v (w ps)) ks (λ rest. s (t rest)) p r
then-none v w ks s t p q r f g =
    subst (λ ls. Follows (λ ps. v (w ps)) ls (λ rest. s (t rest)) p r) (append-nil ks) ((then) v w ks [] s t p q r f g)

-- between two marks
pub between : (w : Writing) (ks : List ℕ) (t : List Marked → List Marked) (m n : ℕ) (x y : Terminal) (p r : Position)
    → mark_terminal p.at p.count m ≡ x → behind_sign m p.count ≡ p.count → mark_terminal r.at r.count n ≡ y
    → behind_sign n r.count ≡ r.count
    → Follows w ks t (behind_piece p (mark m)) r
    → Follows (λ ps. mark m ∷ w (mark n ∷ ps)) ks (λ rest. plain x ∷ t (plain y ∷ rest)) p (behind_piece r (mark n))
between w ks t m n x y p r e f g h b =
    (then) (λ ps. mark m ∷ ps) (λ ps. w (mark n ∷ ps)) [] ks (λ rest. plain x ∷ rest) (λ rest. t (plain y ∷ rest)) p
    (behind_piece p (mark m)) (behind_piece r (mark n))
    (mark-follows p m x e f)
    (then-none w (λ ps. mark n ∷ ps) ks t (λ rest. plain y ∷ rest) (behind_piece p (mark m)) r (behind_piece r (mark n)) b
    (mark-follows r n y g h))

-- a mark with spaces
pub spaced-follows : (m : ℕ) (w : Terminal) (p : Position) → mark_terminal (behind_piece p space).at p.count m ≡ w
    → behind_sign m p.count ≡ p.count
    → Follows (λ ps. space ∷ mark m ∷ space ∷ ps) [] (λ rest. plain w ∷ rest) p
    (behind_piece (behind_piece (behind_piece p space) (mark m)) space)
spaced-follows m w p e n =
    let a : Position = behind_piece p space in
    let b : Position = behind_piece a (mark m) in
    (then) (λ ps. space ∷ ps) (λ ps. mark m ∷ space ∷ ps) [] [] (λ rest. rest) (λ rest. plain w ∷ rest) p a (behind_piece b space)
    (space-follows p)
    ((then) (λ ps. mark m ∷ ps) (λ ps. space ∷ ps) [] [] (λ rest. plain w ∷ rest) (λ rest. rest) a b (behind_piece b space)
    (mark-follows a m w e n) (space-follows b))

-- the same terminals in another form
pub follows-as : (w : Writing) (ks : List ℕ) (s t : List Marked → List Marked) (p q : Position) → ((rest : List Marked) → s rest ≡ t rest)
    → Follows w ks s p q → Follows w ks t p q
follows-as w ks s t p q e f =
    record {
      terminals = λ ps rest. f.terminals ps rest ∙ e (clean (piece_terminals q ps) rest);
      behind = f.behind;
      grows = f.grows;
      count = f.count;
      order = f.order;
    }
