use Rattle.std.proofs.Common.{◌-◌, ◌<◌, length, rules}
use Rattle.try_desk.proofs.Filling.{place_inside}
use Rattle.try_desk.proofs.Settling.{place_settled}
use Rattle.try_desk.proofs.pieces.Pieces.settle_place.Goals as goal

pub index_mut-requires : goal.index_mut-requires
index_mut-requires c =
    let inside : c.args.addr - 4000000000 < length c.self.inside.words.items =
    place_inside c.self.inside.sizes.items c.self.inside.words.items c.args.self.now c.args.addr c.self.invariant.0 c.self.view_is
    c.requires.above c.requires.place in
    search rules

pub returns : goal.returns
returns c =
    place_settled c.self.inside.sizes.items c.self.inside.words.items c.args.self.now c.args.addr c.args.word c.self.invariant.0
    c.self.view_is c.requires.above c.requires.place
