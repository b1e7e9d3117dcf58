use Rattle.std.proofs.Common.{◌∙◌, slice_index_or}
use Rattle.trial_machine.proofs.Loading.{loads_on}
use Rattle.move_plans.proofs.Reading.{is_there, place_known, places_more}
use Rattle.move_plans.proofs.places.put_places.Goals as goal

pub put_place-requires-clause-known : goal.put_place-requires-clause-known
put_place-requires-clause-known g c =
    let place = slice_index_or c.args.places.now c.loop-place.place-index 0 in
    g.met.W.Words.laws.stays_known c.args.words.now c.loop-place.words place c.loop-place.invariant.between
    (place_known g.met.W.Words.laws c.args.trail.now.kept c.args.words.now place c.requires.stored
    (c.requires.opened place (is_there c.args.places.now c.loop-place.place-index c.loop-place-test.true)))

pub loop-place-preserved : goal.loop-place-preserved
loop-place-preserved g c =
    let inv = c.loop-place.invariant in
    record {
      between = g.met.W.Words.laws.twice c.args.words.now c.loop-place.words c.put_place.new.words inv.between c.put_place.ensures.between;
      loaded = loads_on g.met.W.Words.laws c.args.trail.now.kept c.loop-place.trail.kept c.put_place.new.trail.kept c.args.words.now
          c.loop-place.words c.put_place.new.words inv.between c.put_place.ensures.between inv.loaded c.in_ok-put_place.ensures.loaded;
      binds = c.put_place.ensures.binds ∙ inv.binds;
      places = places_more c.loop-place.trail.kept c.put_place.new.trail.kept c.args.places.now c.loop-place.lists.items
          c.put_place.new.lists.items c.loop-place.place-index c.in_ok-put_place.ensures.loaded.grows c.loop-place-test.true inv.places
          c.in_ok-put_place.ensures.puts;
    }
