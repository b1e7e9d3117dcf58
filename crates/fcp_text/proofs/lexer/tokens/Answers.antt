use Rattle.std.proofs.Common.{◌≡◌, ◌∙◌, ap, sym, subst, refl, Bool, true, false, Err}
use Rattle.std.specs.Prelude.{if◌then◌else◌}
use Rattle.std.specs.Str.{is_utf8}
use Rattle.std.specs.Str.Lossy.{utf8_valid_len}
use Rattle.std.proofs.lemmas.Str.{is_utf8-from_IsUtf8, IsUtf8-from_is_utf8}
use Rattle.fcp_model.specs.declared.fault.Code.TheVariants.{NotUtf8}
use Rattle.fcp_text.specs.Tokens.{tokens_in, Lexes, Outcome}
use Rattle.fcp_text.proofs.lexer.tokens.Goals as goal

untrue : (b : Bool) → (b ≡ true → ⊥) → b ≡ false
untrue true h = absurd (h refl)
untrue false h = refl

pub returns-in-Ok : goal.returns-in-Ok
returns-in-Ok c =
    let e : is_utf8 c.args.bytes.now ≡ true = is_utf8-from_IsUtf8 c.args.bytes.now c.in-Ok.ensures.cases.1 in
    let Q : Bool → Type 0 =
    λ b. Lexes (if b then tokens_in c.args.bytes.now else Err
    (record { code = NotUtf8; at = utf8_valid_len c.args.bytes.now })) c.tokens_in.result in
    subst Q (sym e) c.tokens_in.ensures

pub returns-in-Err : goal.returns-in-Err
returns-in-Err c =
    let e : is_utf8 c.args.bytes.now ≡ false =
    untrue (is_utf8 c.args.bytes.now) (λ h. c.in-Err.ensures.cases.0 (IsUtf8-from_is_utf8 c.args.bytes.now h)) in
    let choice : Bool → Outcome =
    λ b. (if b then tokens_in c.args.bytes.now else Err (record { code = NotUtf8; at = utf8_valid_len c.args.bytes.now })) in
    ap choice e ∙ ap (λ n. Err (record { code = NotUtf8; at = n })) (sym c.in-Err.ensures.valid_len ∙ sym c.valid_up_to.ensures)
