-- Terminals that some tokens have, whatever is numbered so far: with these a text can be completed.
use Rattle.std.proofs.Common.{◌≡◌, ℕ, List, [], ◌∷◌, refl, ap, ◌∙◌, length, false}
use Rattle.std.specs.Prelude.{ℤ, ◌==◌, if◌then◌else◌}
use Rattle.fcp_model.specs.declared.term.ArithOp.TheVariants.{Div}
use Rattle.fcp_model.specs.declared.term.CompareOp.TheVariants.{Less}
use Rattle.fcp_model.specs.NameList.{noted}
use Rattle.fcp_grammar.specs.declared.terminals.Terminal.{Terminal}
use Rattle.fcp_grammar.specs.declared.terminals.Terminal.TheVariants as terminal
use Rattle.fcp_text.specs.declared.pieces.Kind.TheVariants as kind
use Rattle.fcp_text.specs.Bytes.{Text}
use Rattle.fcp_terminals.specs.declared.variables.Form.{Form}
use Rattle.fcp_terminals.specs.declared.variables.Form.TheVariants.{Module, Goal}
use Rattle.fcp_terminals.specs.Lexemes.{Lexeme}
use Rattle.fcp_terminals.specs.MarkTerminals.{mark_terminal}
use Rattle.fcp_terminals.specs.Numbering.{Env, env, name_form, string_terminal, terminal_of, env_after, terminals_from}
use Rattle.fcp_text.specs.Signs as signs

-- some token has the terminal, and changes no number
pub record IsSteady (w : Terminal) : Type 0 where
  pub lexeme : Lexeme
  pub is : (f : Form) (e : Env) → terminal_of f e lexeme ≡ w
  pub stays : (f : Form) (e : Env) → env_after f e lexeme ≡ e

-- steady terminals, and perhaps the `.` behind k variables last
pub data Simple (k : ℕ) : List Terminal → Type 0 where
  done : Simple k []
  dot : Simple k (terminal.Dot k ∷ [])
  steady : (w : Terminal) (ws : List Terminal) → IsSteady w → Simple k ws → Simple k (w ∷ ws)

-- some tokens have the terminals
abbrev pub HasTokens : Form → Env → List Terminal → Type 0
HasTokens f e ws = (ls : List Lexeme) × (terminals_from f e ls ≡ ws)

abbrev mark : ℕ → ℕ → Lexeme
mark m at = record { kind = kind.Mark m; at = at; text = [] }

pub steady-terminal : (f : Form) (e : Env) (w : Terminal) (ws : List Terminal) → IsSteady w → HasTokens f e ws → HasTokens f e (w ∷ ws)
steady-terminal f e w ws s h = (
  s.lexeme ∷ h.0,
  ap (λ v. v ∷ terminals_from f (env_after f e s.lexeme) h.0) (s.is f e)
      ∙ ap (λ v. w ∷ terminals_from f v h.0) (s.stays f e) ∙ ap (λ v. w ∷ v) h.1,
)

dot-terminal : (f : Form) (e : Env) → HasTokens f e (terminal.Dot (length e.variables) ∷ [])
unfolding mark_terminal
dot-terminal f e = (mark signs.dot 0 ∷ [], refl)

pub simple-terminals : (f : Form) (e : Env) (ws : List Terminal) → Simple (length e.variables) ws → HasTokens f e ws
simple-terminals f e _ done = ([], refl)
simple-terminals f e _ dot = dot-terminal f e
simple-terminals f e _ (steady w ws s h) = steady-terminal f e w ws s (simple-terminals f e ws h)

-- a name may stand before them
pub name-terminals : (f : Form) (e : Env) (t : Text) (at : ℕ) (ws : List Terminal) → Simple (length e.variables) ws
    → HasTokens f e (string_terminal e.names at t (name_form t) ∷ ws)
name-terminals f e t at ws s =
    let h : HasTokens f (env (noted e.names t) e.variables) ws = simple-terminals f (env (noted e.names t) e.variables) ws s in
    (record { kind = kind.Name; at = at; text = t } ∷ h.0, ap (λ v. string_terminal e.names at t (name_form t) ∷ v) h.1)

-- ---- the steady terminals

pub int-steady : (n : ℤ) (at : ℕ) → IsSteady (terminal.Int n at)
int-steady n at = record { lexeme = record { kind = kind.Int n; at = at; text = [] }; is = λ f e. refl; stays = λ f e. refl }

-- a mark other than the `.` is steady
mark-steady : (m at : ℕ) (w : Terminal) → (m == signs.dot) ≡ false → ((k : ℕ) → mark_terminal at k m ≡ w) → IsSteady w
mark-steady m at w other is =
    let s : (f : Form) (e : Env) → env_after f e (mark m at) ≡ e =
    λ f e. elim f as (λ f. env_after f e (mark m at)
    ≡ e) [ Module ↦ ap (λ b. env e.names (if b then [] else e.variables)) other | Goal ↦ refl ] in
    record { lexeme = mark m at; is = λ f e. is (length e.variables); stays = s }

module _ (at : ℕ) where
  pub round_open-steady : IsSteady (terminal.RoundOpen at)
  unfolding mark_terminal
  round_open-steady = mark-steady signs.round_open at (terminal.RoundOpen at) refl (λ k. refl)

  pub square_open-steady : IsSteady (terminal.SquareOpen at)
  unfolding mark_terminal
  square_open-steady = mark-steady signs.square_open at (terminal.SquareOpen at) refl (λ k. refl)

  pub slash-steady : IsSteady (terminal.Operator Div at)
  unfolding mark_terminal
  slash-steady = mark-steady signs.divide at (terminal.Operator Div at) refl (λ k. refl)

pub round_close-steady : IsSteady terminal.RoundClose
unfolding mark_terminal
round_close-steady = mark-steady signs.round_close 0 terminal.RoundClose refl (λ k. refl)

pub square_close-steady : IsSteady terminal.SquareClose
unfolding mark_terminal
square_close-steady = mark-steady signs.square_close 0 terminal.SquareClose refl (λ k. refl)

pub curly_close-steady : IsSteady terminal.CurlyClose
unfolding mark_terminal
curly_close-steady = mark-steady signs.curly_close 0 terminal.CurlyClose refl (λ k. refl)

pub equals-steady : IsSteady terminal.Equals
unfolding mark_terminal
equals-steady = mark-steady signs.equals 0 terminal.Equals refl (λ k. refl)

pub less-steady : IsSteady (terminal.Compare Less)
unfolding mark_terminal
less-steady = mark-steady signs.less 0 (terminal.Compare Less) refl (λ k. refl)
