use Rattle.std.proofs.Common.{◌+◌, length, sym, ap, ◌∙◌}
use Rattle.try_desk.proofs.Cutting.{put_end}
use Rattle.try_desk.proofs.pieces.Pieces.end.Goals as goal

pub returns : goal.returns
returns c =
    ap (λ l. 4000000000 + length l) c.as_slice.ensures.value
    ∙ sym (put_end c.self.inside.words.items c.self.inside.sizes.items c.args.self.now c.self.invariant.0 c.self.view_is)
