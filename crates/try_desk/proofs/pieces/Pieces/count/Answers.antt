use Rattle.std.proofs.Common.{length, ap, ◌∙◌}
use Rattle.try_desk.proofs.Sizes.{pieces_count}
use Rattle.try_desk.proofs.pieces.Pieces.count.Goals as goal

pub returns : goal.returns
returns c =
    ap length c.as_slice.ensures.value
    ∙ pieces_count c.self.inside.sizes.items c.self.inside.words.items c.args.self.now c.self.view_is
