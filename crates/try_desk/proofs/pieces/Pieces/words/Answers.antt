use Rattle.std.proofs.Common.{length, ap, ◌∙◌, arith}
use Rattle.beside_words.specs.Besides.{own_at}
use Rattle.try_desk.proofs.Cutting.{flat}
use Rattle.try_desk.proofs.Sizes.{words_all}
use Rattle.try_desk.proofs.pieces.Pieces.words.Goals as goal

pub returns-clause-all : goal.returns-clause-all
returns-clause-all c =
    c.as_slice.ensures.value
    ∙ words_all c.self.inside.sizes.items c.self.inside.words.items c.args.self.now c.self.invariant.0 c.self.view_is

pub returns-clause-few : goal.returns-clause-few
returns-clause-few c = omega (arith, ap length c.as_slice.ensures.value, c.self.invariant.1)

pub returns-clause-placed : goal.returns-clause-placed
returns-clause-placed c a =
    ap (λ l. own_at l a) c.as_slice.ensures.value
    ∙ flat c.self.inside.sizes.items c.self.inside.words.items c.args.self.now c.self.invariant.0 c.self.view_is a
