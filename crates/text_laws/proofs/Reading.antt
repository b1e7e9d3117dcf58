-- The tokens of pieces that fit say what the pieces say.
use Rattle.std.proofs.Common.{◌≡◌, ◌+◌, Bool, true, false, List, [], ◌∷◌, ◌++◌, take, length, length-append, append_assoc, refl, ap, ◌∙◌, sym}
use Rattle.std.specs.Prelude.{if◌then◌else◌, decimal}
use Rattle.std.proofs.lemmas.List.{take_at, drop_at}
use Rattle.std.proofs.lemmas.Fmt.{digits_value-decimal}
use Rattle.fcp_model.specs.Spelling.{is_name, string_text}
use Rattle.fcp_text.specs.declared.pieces.Kind.{Kind}
use Rattle.fcp_text.specs.declared.pieces.Kind.TheVariants as kind
use Rattle.fcp_text.specs.declared.lexer.Token.{Token}
use Rattle.fcp_text.specs.Bytes.{Text}
use Rattle.fcp_text.specs.Tokens.{text_of, sign_after}
use Rattle.fcp_text.proofs.Digits.{decimal-numerals}
use Rattle.fcp_text.proofs.WrittenQuotes.{between_quotes, unquoted-between_quotes}
use Rattle.text_laws.specs.Spellings.{Spelling, string, number, variable, mark, space, line_feed, mark_text, spelling_text, spellings_text, tokens_at}
use Rattle.text_laws.specs.Fitting.{Fits, sign_behind}
use Rattle.text_laws.specs.Readings.{meant, read_in, without_gaps}
use Rattle.text_laws.specs.TextLaws.{WhatIsWrittenIsRead}

-- a token of some kind with all bytes of a text, behind others
abbrev token : Kind → Text → Text → Token
token k before text = record { kind = k; at = length before; len = length text }

-- the bytes of such a token
its-text : (k : Kind) (before text rest : Text) → text_of (before ++ (text ++ rest)) (token k before text) ≡ text
its-text k before text rest =
    ap (take (length text)) (drop_at before (text ++ rest) (length before) refl) ∙ take_at text rest (length text) refl

-- what is read behind some bytes more
abbrev after : Text → Text → List Spelling → List Spelling
after before text ps = read_in (before ++ (text ++ spellings_text ps)) (tokens_at (length before + length text) ps)

moved : (before text : Text) (ps : List Spelling)
    → after before text ps ≡ read_in ((before ++ text) ++ spellings_text ps) (tokens_at (length (before ++ text)) ps)
moved before text ps =
    ap (λ z. read_in z (tokens_at (length before + length text) ps)) (sym (append_assoc before text (spellings_text ps)))
    ∙ ap (λ n. read_in ((before ++ text) ++ spellings_text ps) (tokens_at n ps)) (sym (length-append before text))

one : (k : Kind) (before text : Text) (p : Spelling) (ps qs : List Spelling) → meant k text ≡ p
    → read_in ((before ++ text) ++ spellings_text ps) (tokens_at (length (before ++ text)) ps) ≡ qs
    → read_in (before ++ (text ++ spellings_text ps)) (token k before text ∷ tokens_at (length before + length text) ps) ≡ p ∷ qs
one k before text p ps qs e f =
    ap (λ x. meant k x ∷ after before text ps) (its-text k before text (spellings_text ps))
    ∙ ap (λ x. x ∷ after before text ps) e ∙ ap (λ l. p ∷ l) (moved before text ps ∙ f)

string-meant : (c : Bool) (bs : Text) → meant (if c then kind.Name else kind.Quoted) (if c then bs else between_quotes bs) ≡ string bs
string-meant true bs = refl
string-meant false bs = ap string (unquoted-between_quotes bs)

read-behind : (s : Bool) (before : Text) (ps : List Spelling) → Fits s ps
    → read_in (before ++ spellings_text ps) (tokens_at (length before) ps) ≡ without_gaps ps
read-behind s before [] f = refl
read-behind s before (string bs ∷ ps) f =
    one (if is_name bs then kind.Name else kind.Quoted) before (string_text bs) (string bs) ps (without_gaps ps)
    (string-meant (is_name bs) bs) (read-behind (sign_behind bs) (before ++ string_text bs) ps f.2)
read-behind s before (number i ∷ ps) f =
    one (kind.Int i) before (spelling_text (number i)) (number i) ps (without_gaps ps) refl
    (read-behind false (before ++ spelling_text (number i)) ps f.2)
read-behind s before (variable k ∷ ps) f =
    one kind.Variable before (86 ∷ decimal k) (variable k) ps (without_gaps ps) (ap variable (digits_value-decimal decimal-numerals k f.0))
    (read-behind false (before ++ 86 ∷ decimal k) ps f.2)
read-behind s before (mark n ∷ ps) f =
    one (kind.Mark n) before (mark_text n) (mark n) ps (without_gaps ps) refl
    (read-behind (sign_after (mark_text n) (kind.Mark n)) (before ++ mark_text n) ps f.2)
read-behind s before (space ∷ ps) f = moved before (spelling_text space) ps ∙ read-behind s (before ++ spelling_text space) ps f
read-behind s before (line_feed ∷ ps) f = moved before (spelling_text line_feed) ps ∙ read-behind s (before ++ spelling_text line_feed) ps f

pub written_is_read : WhatIsWrittenIsRead
written_is_read ps f = read-behind true [] ps f
