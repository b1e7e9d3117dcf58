use Rattle.std.proofs.Common.{rules, List, ℕ, [], ◌∷◌, ◌++◌, ◌≡◌, ap, ◌∙◌, false}
use Rattle.fcp_model.specs.Spelling.{is_name, string_text, doubled, name_at}
use Rattle.fcp_text.proofs.Progress.{begin_as, go_on, stop, end}
use Rattle.fcp_text.proofs.QuotedRuns.{in_quotes}
use Rattle.fcp_text.proofs.write_bytes.write_string.Goals as goal

quoted : (string bytes : List ℕ) → string ≡ bytes → is_name string ≡ false → string_text string ≡ 39 ∷ doubled bytes ++ 39 ∷ []
quoted string bytes e not_name = in_quotes string not_name ∙ ap (λ bs. 39 ∷ doubled bs ++ 39 ∷ []) e

pub returns-in_err-put : goal.returns-in_err-put
returns-in_err-put g c =
    let bytes : name_at c.args.names.now c.args.string.0 ≡ c.as_bytes-bytes.result.now = search rules in
    let e : is_name (name_at c.args.names.now c.args.string.0) ≡ false = search rules in
    stop _ _ _ c.from_residual.ensures.0 c.in_err-put.ensures _ (begin_as (quoted _ _ bytes e))

pub returns-in_err-write_doubled : goal.returns-in_err-write_doubled
returns-in_err-write_doubled g c =
    let bytes : name_at c.args.names.now c.args.string.0 ≡ c.as_bytes-bytes.result.now = search rules in
    let e : is_name (name_at c.args.names.now c.args.string.0) ≡ false = search rules in
    stop _ _ _ c.from_residual-in_err-write_doubled.ensures.0 c.in_err-write_doubled.ensures _
    (go_on c.in_ok-put.ensures (begin_as (quoted _ _ bytes e)))

pub returns : goal.returns
returns g c =
    let bytes : name_at c.args.names.now c.args.string.0 ≡ c.as_bytes-bytes.result.now = search rules in
    let e : is_name (name_at c.args.names.now c.args.string.0) ≡ false = search rules in
    end _ _ _ _ (go_on c.in_ok-write_doubled.ensures (go_on c.in_ok-put.ensures (begin_as (quoted _ _ bytes e)))) c.put-3.ensures
