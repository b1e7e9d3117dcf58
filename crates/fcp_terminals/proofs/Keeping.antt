-- What the loop over a text's tokens keeps.
use Rattle.std.proofs.Common.{◌≡◌, suc, ◌+◌, ◌≤◌, List, [], ◌∷◌, ◌++◌, refl, sym, arith, append-nil, length}
use Rattle.std.specs.Prelude.{All, Ok}
use Rattle.fcp_text.specs.declared.lexer.Token.{Token}
use Rattle.fcp_text.specs.Bytes.{Text}
use Rattle.fcp_text.specs.Tokens.{text_of, tokens_of}
use Rattle.fcp_text.specs.TokenLaws.{IsSpelledWell}
use Rattle.fcp_text.proofs.Standing.{IsTokenOf, tokens-of, tokens_are_spelled_well}
use Rattle.fcp_grammar.specs.declared.terminals.Terminal.{Terminal}
use Rattle.fcp_terminals.specs.declared.variables.Form.{Form}
use Rattle.fcp_terminals.specs.declared.variables.Variable.{Variable}
use Rattle.fcp_terminals.specs.Lexemes.{lexemes}
use Rattle.fcp_terminals.specs.Numbering.{env, Grows, terminals_from, env_from}

-- the token lies within the text, and its bytes are those of its kind
pub record IsCut (z : Text) (t : Token) : Type 0 where
  pub within : t.at + t.len ≤ length z
  pub spelled : IsSpelledWell t.kind (text_of z t)

abbrev pub AreCut : Text → List Token → Type 0
AreCut z [] = Unit {0}
AreCut z (t ∷ ts) = IsCut z t × AreCut z ts

pub record Kept (f : Form) (old : List Text) (z : Text) (all : List Token) (names : List Text) (vs : List Variable) (found : List Terminal)
    (rest : List Token) : Type 0 where
  pub terminals : terminals_from f (env old []) (lexemes z all) ≡ found ++ terminals_from f (env names vs) (lexemes z rest)
  pub after : env_from f (env old []) (lexemes z all) ≡ env_from f (env names vs) (lexemes z rest)
  pub few : length vs ≤ 250
  pub grows : Grows old names
  pub cut : AreCut z rest

each-cut : (z : Text) (ts : List Token) → All (IsTokenOf z) ts → All (λ t. IsSpelledWell t.kind (text_of z t)) ts → AreCut z ts
each-cut z [] h g = tt
each-cut z (t ∷ ts) h g =
    let at : IsTokenOf z t = h 0 t (omega arith) in (
      record { within = at.within; spelled = g 0 t (omega arith) },
      each-cut z ts (λ k d l. h (suc k) d (omega arith)) (λ k d l. g (suc k) d (omega arith)),
    )

-- before the first token
pub starts : (f : Form) (old : List Text) (z : Text) (ts : List Token) → tokens_of z ≡ Ok ts → Kept f old z ts old [] [] ts
starts f old z ts h = record {
  terminals = refl;
  after = refl;
  few = omega arith;
  grows = ([], sym (append-nil old));
  cut = each-cut z ts (tokens-of z ts h) (tokens_are_spelled_well z ts h);
}
