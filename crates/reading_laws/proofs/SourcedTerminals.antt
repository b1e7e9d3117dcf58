-- The terminals of a text's tokens are in order.
use Rattle.std.proofs.Common.{◌≡◌, ℕ, ◌+◌, ◌≤◌, ◌<◌, Bool, true, false, List, [], ◌∷◌, ◌++◌, length, length-append, refl, ◌∙◌, sym, subst, arith, Option, Some, None}
use Rattle.std.specs.Prelude.{Ok, ◌&&◌, ◌||◌, ◌==◌, nat_le, nat_lt, find, position, codes}
use Rattle.std.specs.List.{list_all}
use Rattle.std.specs.Str.{bytes_eq}
use Rattle.std.proofs.lemmas.List.Quantifiers.{position-Some}
use Rattle.std.proofs.lemmas.Bool.Decides.{nat_tests}
use Rattle.fcp_text.specs.declared.pieces.Kind.{Kind}
use Rattle.fcp_text.specs.declared.pieces.Kind.TheVariants as kind
use Rattle.fcp_text.specs.declared.lexer.Token.{Token}
use Rattle.fcp_text.specs.Bytes.{Text}
use Rattle.fcp_text.specs.Tokens.{tokens_of}
use Rattle.fcp_text.proofs.Choices.{by_test, and-first, and-second, taken, passed}
use Rattle.fcp_grammar.specs.declared.terminals.Terminal.{Terminal}
use Rattle.fcp_grammar.specs.declared.terminals.Terminal.TheVariants as terminal
use Rattle.fcp_terminals.specs.declared.variables.Form.TheVariants as form
use Rattle.fcp_terminals.specs.declared.variables.Variable.{Variable}
use Rattle.fcp_terminals.specs.Lexemes.{Lexeme, lexemes}
use Rattle.fcp_terminals.specs.MarkTerminals.{mark_terminals, terminal_in, mark_terminal}
use Rattle.fcp_terminals.specs.Numbering.{Env, env, number_by, number, with_variable, variable_by, behind_mark, terminal_by, env_by, terminals_from}
use Rattle.fcp_terminals.specs.Numbering.{find as known}
use Rattle.fcp_reader.specs.Sources.{terminals_of}
use Rattle.reading_laws.specs.PieceTerminals.{is_next, with_number}
use Rattle.reading_laws.specs.TerminalOrder.{terminal_fits, count_after, terminals_fit, is_few, are_few}
use Rattle.reading_laws.proofs.SourcedTokens.{both, IsSound, AreSourced, tokens-sourced}
use Rattle.fcp_text.specs.Signs as signs

-- ---- marks

-- the terminal is no number, no variable and no `.`
abbrev is_plain : Terminal → Bool
is_plain (terminal.Int i at) = false
is_plain (terminal.Var k at) = false
is_plain (terminal.Dot j) = false
is_plain _ = true

-- such a terminal may stand behind n variables, and leaves them as many
plain-fits : (n : ℕ) (w : Terminal) → is_plain w ≡ true → (terminal_fits n w ≡ true) × (count_after n w ≡ n)
plain-fits n (terminal.Int i at) h = absurd (cc)
plain-fits n (terminal.Var k at) h = absurd (cc)
plain-fits n (terminal.Dot j) h = absurd (cc)
plain-fits n _ h = (refl, refl)

-- the rows of the table but that of `.`
abbrev is_plain_row : ℕ × Terminal → Bool
is_plain_row r = r.0 == signs.dot || is_plain r.1

or-second : (a b : Bool) → (a || b) ≡ true → a ≡ false → b ≡ true
or-second true b h g = absurd (cc)
or-second false b h g = h

other-number : (k m : ℕ) → (k == m) ≡ true → (m == signs.dot) ≡ false → (k == signs.dot) ≡ false
other-number k m h g = grind (arith, nat_tests)

found-plain : (m : ℕ) (rs : List (ℕ × Terminal)) → (m == signs.dot) ≡ false → list_all is_plain_row rs ≡ true
    → is_plain (terminal_in (find (λ w. w.0 == m) rs)) ≡ true
found-plain m [] h k = refl
found-plain m (r ∷ rs) h k =
    by_test (λ o. is_plain (terminal_in o) ≡ true) (r.0 == m) (Some r) (find (λ w. w.0 == m) rs)
    (λ e. or-second (r.0 == signs.dot) (is_plain r.1) (and-first (is_plain_row r) _ k) (other-number r.0 m e h))
    (λ e. found-plain m rs h (and-second (is_plain_row r) _ k))

mark-plain : (at n m : ℕ) → (m == signs.dot) ≡ false → is_plain (mark_terminal at n m) ≡ true
unfolding mark_terminal
mark-plain at n m h = found-plain m (mark_terminals at n) h refl

mark-dot : (at n : ℕ) → mark_terminal at n signs.dot ≡ terminal.Dot n
unfolding mark_terminal
mark-dot at n = refl

-- ---- one terminal

-- The terminal w may stand behind the variables vs, it leaves those of ws, and these are no more than 250.
abbrev Steps : List Variable → Terminal → List Variable → Type 0
Steps vs w ws = (terminal_fits (length vs) w ≡ true) × (count_after (length vs) w ≡ length ws) × (length ws ≤ 250)

same : (n : ℕ) → (n == n) ≡ true
same n = grind (arith, nat_tests)

is-dot : (m : ℕ) → (m == signs.dot) ≡ true → signs.dot ≡ m
is-dot m h = grind (arith, nat_tests)

choose : {A : Type 0} (b : Bool) → (b ≡ true → A) → (b ≡ false → A) → A
choose true f g = f refl
choose false f g = g refl

dot-steps : (vs : List Variable) (at : ℕ) → Steps vs (mark_terminal at (length vs) signs.dot) []
dot-steps vs at = subst (λ w. Steps vs w []) (sym (mark-dot at (length vs))) (same (length vs), refl, omega arith)

mark-steps : (vs : List Variable) (at m : ℕ) → length vs ≤ 250 → Steps vs (mark_terminal at (length vs) m) (behind_mark form.Module m vs)
mark-steps vs at m l =
    choose (m == signs.dot)
    (λ h. subst (λ k. Steps vs (mark_terminal at (length vs) k) (behind_mark form.Module k vs)) (is-dot m h) (dot-steps vs at))
    (λ h. let p : (terminal_fits (length vs) (mark_terminal at (length vs) m) ≡ true)
    × (count_after (length vs) (mark_terminal at (length vs) m) ≡ length vs) = plain-fits (length vs) _
    (mark-plain at (length vs) m h) in
    subst (Steps vs (mark_terminal at (length vs) m)) (sym (passed (m == signs.dot) [] vs vs h refl)) (p.0, p.1, l))

known-next : (n i : ℕ) → n ≤ 250 → i < n → is_next n (i + 1) ≡ true
known-next n i l h =
    both (nat_le 1 (i + 1) && nat_le (i + 1) (n + 1)) (nat_le (i + 1) 250)
    (both (nat_le 1 (i + 1)) (nat_le (i + 1) (n + 1)) (grind (arith, nat_tests)) (grind (arith, nat_tests))) (grind (arith, nat_tests))

known-number : (n i : ℕ) → i < n → with_number n (i + 1) ≡ n
known-number n i h = by_test (λ k. k ≡ n) (nat_lt n (i + 1)) (i + 1) n (λ g. grind (arith, nat_tests)) (λ g. refl)

new-next : (n : ℕ) → nat_le (n + 1) 250 ≡ true → is_next n (n + 1) ≡ true
new-next n h =
    both (nat_le 1 (n + 1) && nat_le (n + 1) (n + 1)) (nat_le (n + 1) 250)
    (both (nat_le 1 (n + 1)) (nat_le (n + 1) (n + 1)) (grind (arith, nat_tests)) (grind (arith, nat_tests))) h

new-number : (n : ℕ) → with_number n (n + 1) ≡ n + 1
new-number n = by_test (λ k. k ≡ n + 1) (nat_lt n (n + 1)) (n + 1) n (λ g. refl) (λ g. grind (arith, nat_tests))

below-limit : (n : ℕ) → nat_le (n + 1) 250 ≡ true → nat_lt n 250 ≡ true
below-limit n h = grind (arith, nat_tests)

le-limit : (n : ℕ) → nat_le (n + 1) 250 ≡ true → n + 1 ≤ 250
le-limit n h = grind (arith, nat_tests)

known-within : (vs : List Variable) (t : Text) (i : ℕ) (v : Variable) → known vs t ≡ Some i → i < length vs
known-within vs t i v =
    by_test (λ o. o ≡ Some i → i < length vs) (bytes_eq t (codes "_")) None (position (λ (v : Variable). bytes_eq v.text t) vs)
    (λ h e. absurd (cc))
    (λ h e. (position-Some (λ (v : Variable). bytes_eq v.text t) vs i v e).0)

-- the variable that is put last
abbrev new : Text → Variable
new t = record { text = t; name = None }

variable-steps : (e : Env) (at : ℕ) (t : Text) (o : Option ℕ) → known e.variables t ≡ o → length e.variables ≤ 250
    → is_few (terminal.Var (number_by e.variables o) at) ≡ true
    → Steps e.variables (terminal.Var (number_by e.variables o) at) (variable_by form.Module e t o).variables
variable-steps e at t (Some i) h l f =
    let w : i < length e.variables = known-within e.variables t i (new t) h in
    (known-next (length e.variables) i l w, known-number (length e.variables) i w, l)
variable-steps e at t None h l f =
    let vs : List Variable = e.variables in
    let long : length (vs ++ new t ∷ []) ≡ length vs + 1 = length-append vs (new t ∷ []) in
    let m : length vs + 1 ≤ 250 = le-limit (length vs) f in
    subst (λ (b : Env). Steps vs (terminal.Var (length vs + 1) at) b.variables)
    (sym (taken (nat_lt (length vs) 250) (env e.names (vs ++ new t ∷ [])) e (below-limit (length vs) f)))
    (new-next (length vs) f, new-number (length vs) ∙ sym long, omega arith)

var-steps : (e : Env) (at : ℕ) (t : Text) → length e.variables ≤ 250 → is_few (terminal.Var (number e.variables t) at) ≡ true
    → Steps e.variables (terminal.Var (number e.variables t) at) (with_variable form.Module e t).variables
unfolding number with_variable
var-steps e at t l f = variable-steps e at t (known e.variables t) refl l f

terminal-steps : (e : Env) (at : ℕ) (t : Text) (k : Kind) → IsSound k t → length e.variables ≤ 250 → is_few (terminal_by e at t k) ≡ true
    → Steps e.variables (terminal_by e at t k) (env_by form.Module e t k).variables
terminal-steps e at t kind.Name s l f = (refl, refl, l)
terminal-steps e at t kind.Quoted s l f = (refl, refl, l)
terminal-steps e at t kind.Variable s l f = var-steps e at t l f
terminal-steps e at t (kind.Int n) s l f = (s, refl, l)
terminal-steps e at t (kind.Mark m) s l f = mark-steps e.variables at m l

-- ---- all terminals

terminals-fit : (e : Env) (ls : List Lexeme) → AreSourced ls → length e.variables ≤ 250 → are_few (terminals_from form.Module e ls) ≡ true
    → terminals_fit (length e.variables) (terminals_from form.Module e ls) ≡ true
terminals-fit e [] s l f = refl
terminals-fit e (x ∷ ls) s l f =
    let w : Terminal = terminal_by e x.at x.text x.kind in
    let b : Env = env_by form.Module e x.text x.kind in
    let h : Steps e.variables w b.variables = terminal-steps e x.at x.text x.kind s.0 l (and-first (is_few w) _ f) in
    both (terminal_fits (length e.variables) w) _ h.0
    (subst (λ n. terminals_fit n (terminals_from form.Module b ls) ≡ true) (sym h.1)
    (terminals-fit b ls s.2 h.2 (and-second (is_few w) _ f)))

-- the terminals of a text are in order, where no variable is one of too many
pub terminals-in-order : (ns : List Text) (z : Text) (ts : List Token) → tokens_of z ≡ Ok ts
    → are_few (terminals_of form.Module ns z ts) ≡ true
    → terminals_fit 0 (terminals_of form.Module ns z ts) ≡ true
terminals-in-order ns z ts h f = terminals-fit (env ns []) (lexemes z ts) (tokens-sourced z ts h) (omega arith) f
