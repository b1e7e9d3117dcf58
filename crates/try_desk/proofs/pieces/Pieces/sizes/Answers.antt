use Rattle.std.proofs.Common.{ap, ◌∙◌}
use Rattle.std.specs.List.{concat}
use Rattle.try_desk.specs.Cuts.{cut, total}
use Rattle.try_desk.proofs.Sizes.{cut_again, total_all}
use Rattle.try_desk.proofs.pieces.Pieces.sizes.Goals as goal

pub returns-clause-cuts : goal.returns-clause-cuts
returns-clause-cuts c =
    ap (cut (concat c.args.self.now)) c.as_slice.ensures.value
    ∙ cut_again c.self.inside.sizes.items c.self.inside.words.items c.args.self.now c.self.invariant.0 c.self.view_is

pub returns-clause-whole : goal.returns-clause-whole
returns-clause-whole c =
    ap total c.as_slice.ensures.value
    ∙ total_all c.self.inside.sizes.items c.self.inside.words.items c.args.self.now c.self.invariant.0 c.self.view_is
