use Rattle.std.proofs.Common.{◌-◌, ◌<◌, length, rules, arith}
use Rattle.try_desk.proofs.Filling.{is_filled, place_inside}
use Rattle.try_desk.proofs.pieces.Pieces.fill.Goals as goal

pub index_mut-requires : goal.index_mut-requires
index_mut-requires c =
    let inside : c.args.addr - 4000000000 < length c.self.inside.words.items =
    place_inside c.self.inside.sizes.items c.self.inside.words.items c.args.self.now c.args.addr c.self.invariant.0 c.self.view_is
    c.requires.above c.requires.place in
    search rules

pub returns : goal.returns
returns c =
    is_filled c.self.inside.sizes.items c.self.inside.words.items c.args.self.now (c.args.addr - 1) (c.args.addr - 4000000000) c.args.word
    c.self.invariant.0 c.self.view_is (omega (arith, c.requires.above)) c.requires.formed c.requires.place
