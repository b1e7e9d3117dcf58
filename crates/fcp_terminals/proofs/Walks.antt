-- The terminals of tokens, one part behind the other.
use Rattle.std.proofs.Common.{◌≡◌, ℕ, zero, suc, List, [], ◌∷◌, ◌++◌, refl, ap, length, take, Some}
use Rattle.std.specs.Prelude.{slice_get}
use Rattle.fcp_grammar.specs.declared.terminals.Terminal.{Terminal}
use Rattle.fcp_text.specs.declared.lexer.Token.{Token}
use Rattle.fcp_text.specs.Bytes.{Text}
use Rattle.fcp_terminals.specs.declared.variables.Form.{Form}
use Rattle.fcp_terminals.specs.Lexemes.{Lexeme, lexeme, lexemes, place_at}
use Rattle.fcp_terminals.specs.Numbering.{Env, terminal_of, env_after, terminals_from, env_from}

pub terminals-append : (f : Form) (e : Env) (a b : List Lexeme)
    → terminals_from f e (a ++ b) ≡ terminals_from f e a ++ terminals_from f (env_from f e a) b
terminals-append f e [] b = refl
terminals-append f e (l ∷ a) b = ap (λ ws. terminal_of f e l ∷ ws) (terminals-append f (env_after f e l) a b)

pub env-append : (f : Form) (e : Env) (a b : List Lexeme) → env_from f e (a ++ b) ≡ env_from f (env_from f e a) b
env-append f e [] b = refl
env-append f e (l ∷ a) b = env-append f (env_after f e l) a b

pub terminals-length : (f : Form) (e : Env) (ls : List Lexeme) → length (terminals_from f e ls) ≡ length ls
terminals-length f e [] = refl
terminals-length f e (l ∷ ls) = ap suc (terminals-length f (env_after f e l) ls)

pub lexemes-length : (z : Text) (ts : List Token) → length (lexemes z ts) ≡ length ts
lexemes-length z [] = refl
lexemes-length z (t ∷ ts) = ap suc (lexemes-length z ts)

pub lexemes-append : (z : Text) (a b : List Token) → lexemes z (a ++ b) ≡ lexemes z a ++ lexemes z b
lexemes-append z [] b = refl
lexemes-append z (t ∷ a) b = ap (λ ls. lexeme z t ∷ ls) (lexemes-append z a b)

-- ---- the terminals and the tokens before one

pub terminals-take : (f : Form) (e : Env) (n : ℕ) (ls : List Lexeme) → take n (terminals_from f e ls) ≡ terminals_from f e (take n ls)
terminals-take f e zero ls = refl
terminals-take f e (suc n) [] = refl
terminals-take f e (suc n) (l ∷ ls) = ap (λ ws. terminal_of f e l ∷ ws) (terminals-take f (env_after f e l) n ls)

pub lexemes-take : (z : Text) (n : ℕ) (ts : List Token) → take n (lexemes z ts) ≡ lexemes z (take n ts)
lexemes-take z zero ts = refl
lexemes-take z (suc n) [] = refl
lexemes-take z (suc n) (t ∷ ts) = ap (λ ls. lexeme z t ∷ ls) (lexemes-take z n ts)

-- the n-th terminal is that of the n-th token
pub terminal-at : (f : Form) (e : Env) (n : ℕ) (ls : List Lexeme) (w : Terminal) → slice_get (terminals_from f e ls) n ≡ Some w
    → (l : Lexeme) × (slice_get ls n ≡ Some l) × (terminal_of f (env_from f e (take n ls)) l ≡ w)
terminal-at f e n [] w h = absurd (cc)
terminal-at f e zero (l ∷ ls) w h = (l, refl, cc)
terminal-at f e (suc n) (l ∷ ls) w h = terminal-at f (env_after f e l) n ls w h

-- ---- places

-- the place of a terminal is that of its token
pub place-within : (z : Text) (ts : List Token) (n : ℕ) (l : Lexeme) → slice_get (lexemes z ts) n ≡ Some l → place_at z ts n ≡ l.at
place-within z [] n l h = absurd (cc)
place-within z (t ∷ ts) zero l h = let e : lexeme z t ≡ l = cc in ap (λ k. k.at) e
place-within z (t ∷ ts) (suc n) l h = place-within z ts n l h

-- behind all terminals it is the text's length
pub place-end : (z : Text) (ts : List Token) → place_at z ts (length ts) ≡ length z
place-end z [] = refl
place-end z (t ∷ ts) = place-end z ts
