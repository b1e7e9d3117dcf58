use Rattle.std.proofs.Common.{map, sym, ◌∙◌}
use Rattle.std.specs.String.{string_bytes}
use Rattle.std.proofs.lemmas.Result.{err_from_is_err_and}
use Rattle.command_words.proofs.Answering.{answered, mapped-allowed, not-allowed, refused}
use Rattle.command_words.proofs.ProperWords.{read-proper}
use Rattle.command_words.proofs.read_words.Goals as goal

pub returns-then-not-are_allowed-clause-reads : goal.returns-then-not-are_allowed-clause-reads
returns-then-not-are_allowed-clause-reads c =
    not-allowed (map string_bytes c.args.words.now)
    (sym (mapped-allowed string_bytes c.args.words.now) ∙ sym c.are_allowed.ensures ∙ c.if-not-are_allowed.true)

pub returns-in_err-matches-clause-reads : goal.returns-in_err-matches-clause-reads
returns-in_err-matches-clause-reads c =
    let p = err_from_is_err_and c.from_residual.result c.from_residual.ensures.1 in
    rw (p.1, p.2) (refused (map string_bytes c.args.words.now) c.in_err-matches.field-0.0 c.in_err-matches.ensures)

pub returns-clause-reads : goal.returns-clause-reads
returns-clause-reads c =
    answered (map string_bytes c.args.words.now) c.in_ok-matches.matches c.order_in.result
    (sym (mapped-allowed string_bytes c.args.words.now) ∙ sym c.are_allowed.ensures ∙ c.if-not-are_allowed.false)
    c.in_ok-matches.ensures c.order_in.ensures

pub returns-clause-proper : goal.returns-clause-proper
returns-clause-proper c =
    read-proper (map string_bytes c.args.words.now) c.order_in.result
    (answered (map string_bytes c.args.words.now) c.in_ok-matches.matches c.order_in.result
    (sym (mapped-allowed string_bytes c.args.words.now) ∙ sym c.are_allowed.ensures ∙ c.if-not-are_allowed.false)
    c.in_ok-matches.ensures c.order_in.ensures)
