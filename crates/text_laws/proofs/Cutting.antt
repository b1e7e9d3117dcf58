-- The text of pieces that fit is cut into their tokens.
use Rattle.std.proofs.Common.{◌≡◌, ℕ, ◌+◌, Bool, true, false, List, [], ◌∷◌, length, refl, ap, ◌∙◌, Some}
use Rattle.std.specs.Prelude.{Ok, Err, slice_get, ℤ, pos, negsuc, if◌then◌else◌}
use Rattle.std.specs.Bool.{OnTrue}
use Rattle.std.specs.Str.Lossy.{utf8_valid_len}
use Rattle.std.proofs.lemmas.Str.{is_utf8-from_IsUtf8}
use Rattle.fcp_model.specs.declared.fault.Code.TheVariants.{NotUtf8}
use Rattle.fcp_model.specs.Spelling.{is_name, string_text}
use Rattle.fcp_text.specs.declared.pieces.Kind.TheVariants as kind
use Rattle.fcp_text.specs.Marks.{marks}
use Rattle.fcp_text.specs.Tokens.{lex_from, front, sign_after, tokens_in}
use Rattle.fcp_text.proofs.WrittenWords.{lex-numbered, lex-space, lex-line_feed}
use Rattle.fcp_text.proofs.WrittenNumbers.{lex-number, MayStand}
use Rattle.fcp_text.proofs.WrittenQuotes.{lex-string}
use Rattle.fcp_text.proofs.WrittenMarks.{lex-mark, EndsMark}
use Rattle.text_laws.specs.Spellings.{Spelling, string, number, variable, mark, space, line_feed, mark_text, spelling_text, spellings_text, tokens_at}
use Rattle.text_laws.specs.Fitting.{EndsSign, StandsThere, Fits, begins_more, sign_behind}
use Rattle.text_laws.specs.TextLaws.{SpelledTextsAreCut}
use Rattle.text_laws.proofs.Characters.{fits-IsUtf8}
use Rattle.text_laws.proofs.Endings.{mark-row, Ends, ends-token, ends-sign}

-- a number's place, in the words of the lemma on it
stands : (s : Bool) (i : ℤ) → StandsThere s i → MayStand s i
stands s (pos n) h = h
stands s (negsuc n) h = h

-- what follows a mark, in the words of the lemma on it
follows : (c : Bool) (ps : List Spelling) → OnTrue c (EndsSign ps) → OnTrue c (EndsMark (spellings_text ps))
follows true ps h = ends-sign ps h
follows false ps h = tt

pub cut : (s : Bool) (at : ℕ) (ps : List Spelling) → Fits s ps → lex_from s at 0 (spellings_text ps) ≡ Ok (tokens_at at ps)
cut s at [] f = refl
cut s at (string bs ∷ ps) f =
    let e : Ends (spellings_text ps) = ends-token (sign_behind bs) ps f.1 f.2 in
    lex-string s at bs (spellings_text ps) f.0.0 e.word e.quote
    ∙ ap (front (record { kind = if is_name bs then kind.Name else kind.Quoted; at = at; len = length (string_text bs) } ∷ []))
    (cut (sign_behind bs) (at + length (string_text bs)) ps f.2)
cut s at (number i ∷ ps) f =
    let e : Ends (spellings_text ps) = ends-token false ps f.1 f.2 in
    lex-number s at i (spellings_text ps) (stands s i f.0) e.digits
    ∙ ap (front (record { kind = kind.Int i; at = at; len = length (spelling_text (number i)) } ∷ []))
    (cut false (at + length (spelling_text (number i))) ps f.2)
cut s at (variable k ∷ ps) f =
    let e : Ends (spellings_text ps) = ends-token false ps f.1 f.2 in
    lex-numbered s at k (spellings_text ps) f.0 e.word
    ∙ ap (front (record { kind = kind.Variable; at = at; len = length (spelling_text (variable k)) } ∷ []))
    (cut false (at + length (spelling_text (variable k))) ps f.2)
cut s at (mark n ∷ ps) f =
    let r : (k : ℕ) × (slice_get marks k ≡ Some (mark_text n, n)) = mark-row n f.0 in
    let t : Bool = sign_after (mark_text n) (kind.Mark n) in
    lex-mark s at r.0 n (mark_text n) (spellings_text ps) r.1 (follows (begins_more n) ps f.1)
    ∙ ap (front (record { kind = kind.Mark n; at = at; len = length (mark_text n) } ∷ [])) (cut t (at + length (mark_text n)) ps f.2)
cut s at (space ∷ ps) f = lex-space s at (spellings_text ps) ∙ cut s (at + 1) ps f
cut s at (line_feed ∷ ps) f = lex-line_feed s at (spellings_text ps) ∙ cut s (at + 1) ps f

pub spelled_texts : SpelledTextsAreCut
unfolding tokens_in
spelled_texts ps f =
    ap (λ c. if c then tokens_in (spellings_text ps) else Err (record { code = NotUtf8; at = utf8_valid_len (spellings_text ps) }))
    (is_utf8-from_IsUtf8 (spellings_text ps) (fits-IsUtf8 true ps f))
    ∙ cut true 0 ps f
