use Rattle.std.proofs.Common.{◌∙◌, ap, length}
use Rattle.std.specs.Prelude.{◌==◌, ◌||◌, unwrap_or}
use Rattle.control_texts.proofs.Cutting.{before-first}
use Rattle.control_texts.proofs.pieces.word_len.Goals as goal

pub returns : goal.returns
returns c =
    c.unwrap_or.ensures ∙ ap (λ o. unwrap_or o (length c.args.text.now)) c.first_behind_word.ensures
    ∙ before-first (λ b. b == 32 || b == 59) c.args.text.now
