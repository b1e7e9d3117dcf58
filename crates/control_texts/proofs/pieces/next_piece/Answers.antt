use Rattle.std.proofs.Common.{sym, ◌∙◌, ap, subst}
use Rattle.control_texts.specs.Cuts.{IsNext, piece_len}
use Rattle.control_texts.proofs.Cutting.{spaces-alone, first-piece, slice-behind}
use Rattle.control_texts.proofs.pieces.next_piece.Goals as goal

pub returns-in_err-start : goal.returns-in_err-start
returns-in_err-start c =
    subst (IsNext c.args.text.now) (sym c.from_residual.ensures)
    (spaces-alone c.args.text.now (sym c.first_of_piece.ensures ∙ c.in_err-start.was))

pub returns : goal.returns
returns c =
    first-piece c.args.text.now c.in_ok-start.start c.piece_len.result (sym c.first_of_piece.ensures ∙ c.in_ok-start.was)
    (c.piece_len.ensures ∙ ap piece_len (slice-behind c.in_ok-start.start c.args.text.now))
