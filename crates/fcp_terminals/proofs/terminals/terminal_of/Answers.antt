use Rattle.std.proofs.Common.{sym, subst}
use Rattle.std.specs.Str.{IsUtf8}
use Rattle.std.proofs.lemmas.Str.{IsUtf8-from_ascii}
use Rattle.fcp_text.specs.TokenLaws.{IsSpelledWell}
use Rattle.fcp_text.specs.Tokens.{text_of}
use Rattle.fcp_terminals.proofs.terminals.terminal_of.Goals as goal

pub as_text-name-requires : goal.as_text-name-requires
as_text-name-requires c =
    subst IsUtf8 (sym c.bytes_of.ensures)
    (IsUtf8-from_ascii _ (subst (λ k. IsSpelledWell k (text_of c.args.text.now c.args.token)) c.in-Name.is c.requires.spelled))

pub as_text-name-requires-in-Variable : goal.as_text-name-requires-in-Variable
as_text-name-requires-in-Variable c =
    subst IsUtf8 (sym c.bytes_of-in-Variable.ensures)
    (IsUtf8-from_ascii _ (subst (λ k. IsSpelledWell k (text_of c.args.text.now c.args.token)) c.in-Variable.is c.requires.spelled))
