-- The strings of a text are on one line, and UTF-8.
use Rattle.std.proofs.Common.{◌≡◌, ℕ, zero, suc, Bool, true, List, [], ◌∷◌, ◌++◌, length, refl, arith, Option, Some, None}
use Rattle.std.specs.Prelude.{Ok, Err, ◌&&◌, nat_lt}
use Rattle.std.specs.List.{list_all, list_any}
use Rattle.std.specs.Str.{bytes_eq}
use Rattle.std.proofs.lemmas.List.Elements.{All-append}
use Rattle.std.proofs.lemmas.Str.{IsUtf8-from_ascii}
use Rattle.fcp_model.specs.NameList.{noted, reserved_names}
use Rattle.fcp_text.specs.declared.pieces.Kind.{Kind}
use Rattle.fcp_text.specs.declared.pieces.Kind.TheVariants as kind
use Rattle.fcp_text.specs.Bytes.{Text}
use Rattle.fcp_text.specs.QuotedStrings.{unquoted}
use Rattle.fcp_text.specs.TokenLaws.{IsSpelledWell}
use Rattle.fcp_text.specs.Tokens.{Outcome, tokens_of}
use Rattle.fcp_text.proofs.Choices.{by_test, and-first, and-second}
use Rattle.fcp_terminals.specs.declared.variables.Form.TheVariants as form
use Rattle.fcp_terminals.specs.Lexemes.{Lexeme, lexemes}
use Rattle.fcp_terminals.specs.Numbering.{Env, env, variable_by, with_variable, env_by, env_from}
use Rattle.fcp_terminals.specs.Numbering.{find as known}
use Rattle.fcp_reader.specs.Sources.{names_by, names_behind_module}
use Rattle.text_laws.specs.Fitting.{IsOneLine, is_line}
use Rattle.text_laws.specs.Writable.{AreWritableNames}
use Rattle.text_laws.proofs.Characters.{ascii-IsUtf8}
use Rattle.reading_laws.proofs.SourcedTokens.{IsSound, AreSourced, tokens-sourced, unquoted-is_line}

-- ---- the strings behind one token

one : (t : Text) → IsOneLine t → AreWritableNames (t ∷ [])
one t h zero d l = h
one t h (suc k) d l = absurd (omega arith)

noted-one_line : (ns : List Text) (t : Text) → AreWritableNames ns → IsOneLine t → AreWritableNames (noted ns t)
noted-one_line ns t h o =
    by_test AreWritableNames (list_any (bytes_eq t) ns) ns (ns ++ t ∷ []) (λ g. h) (λ g. All-append IsOneLine ns (t ∷ []) h (one t o))

-- no variable of a module has a name
variable_by-names : (e : Env) (t : Text) (o : Option ℕ) → AreWritableNames e.names → AreWritableNames (variable_by form.Module e t o).names
variable_by-names e t (Some i) h = h
variable_by-names e t None h =
    by_test (λ (b : Env). AreWritableNames b.names) (nat_lt (length e.variables) 250)
    (env e.names (e.variables ++ record { text = t; name = None } ∷ [])) e (λ g. h) (λ g. h)

variable-names : (e : Env) (t : Text) → AreWritableNames e.names → AreWritableNames (with_variable form.Module e t).names
unfolding with_variable
variable-names e t h = variable_by-names e t (known e.variables t) h

names-step : (e : Env) (t : Text) (k : Kind) → IsSound k t → IsSpelledWell k t → AreWritableNames e.names
    → AreWritableNames (env_by form.Module e t k).names
names-step e t kind.Name s u h = noted-one_line e.names t h (s, IsUtf8-from_ascii t u)
names-step e t kind.Quoted s u h = noted-one_line e.names (unquoted t) h (unquoted-is_line t s, u)
names-step e t kind.Variable s u h = variable-names e t h
names-step e t (kind.Int n) s u h = h
names-step e t (kind.Mark m) s u h = h

-- ---- the strings behind a text

names-behind : (e : Env) (ls : List Lexeme) → AreSourced ls → AreWritableNames e.names → AreWritableNames (env_from form.Module e ls).names
names-behind e [] s h = h
names-behind e (l ∷ ls) s h = names-behind (env_by form.Module e l.text l.kind) ls s.2 (names-step e l.text l.kind s.0 s.1 h)

names-by : (ns : List Text) (z : Text) (o : Outcome) → tokens_of z ≡ o → AreWritableNames ns
    → AreWritableNames (names_by form.Module ns z o)
names-by ns z (Ok ts) e h = names-behind (env ns []) (lexemes z ts) (tokens-sourced z ts e) h
names-by ns z (Err f) e h = h

-- the strings behind a text are on one line each, where those before it are
pub strings-one-line : (ns : List Text) (z : Text) → AreWritableNames ns → AreWritableNames (names_behind_module ns z)
strings-one-line ns z h = names-by ns z (tokens_of z) refl h

-- ---- the reserved names

-- the text is on one line, and ASCII
abbrev is_plain_line : Text → Bool
is_plain_line t = is_line t && list_all (λ b. nat_lt b 128) t

plain-one_line : (t : Text) → is_plain_line t ≡ true → IsOneLine t
plain-one_line t h = (and-first (is_line t) _ h, ascii-IsUtf8 t (and-second (is_line t) _ h))

plain-one_lines : (ns : List Text) → list_all is_plain_line ns ≡ true → AreWritableNames ns
plain-one_lines [] h k d l = absurd (omega arith)
plain-one_lines (t ∷ ns) h zero d l = plain-one_line t (and-first (is_plain_line t) _ h)
plain-one_lines (t ∷ ns) h (suc k) d l = plain-one_lines ns (and-second (is_plain_line t) _ h) k d (omega arith)

pub reserved-one-line : AreWritableNames reserved_names
reserved-one-line = plain-one_lines reserved_names refl
