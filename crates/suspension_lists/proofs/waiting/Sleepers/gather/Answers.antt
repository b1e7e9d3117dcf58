use Rattle.std.proofs.Common.{◌∙◌, slice_index_or}
use Rattle.heap_words.proofs.Keeps.{loaded_twice}
use Rattle.suspension_lists.proofs.Gathering.{in_there, waiting_next}
use Rattle.suspension_lists.proofs.waiting.Sleepers.gather.Goals as goal

pub add_place-requires-clause-known : goal.add_place-requires-clause-known
add_place-requires-clause-known g c =
    g.met.W.Words.laws.stays_known c.args.words.now c.loop-place.words (slice_index_or c.args.places.now c.loop-place.place-index 0)
    c.loop-place.invariant.loaded.went.between
    (c.requires.known (slice_index_or c.args.places.now c.loop-place.place-index 0)
    (in_there c.args.places.now c.loop-place.place-index c.loop-place-test.true))

pub loop-place-preserved : goal.loop-place-preserved
loop-place-preserved g c = record {
  loaded = loaded_twice g.met.W.Words.laws c.loop-place.invariant.loaded c.in_ok-add_place.ensures.loaded;
  binds = c.add_place.ensures.binds ∙ c.loop-place.invariant.binds;
  reads = c.add_place.ensures.reads ∙ c.loop-place.invariant.reads;
  waiting = waiting_next c.in_ok-add_place.ensures.loaded.went.grows c.args.places.now c.loop-place.place-index
      c.loop-place.self.list.items c.add_place.new.self.list.items c.loop-place-test.true c.loop-place.invariant.waiting
      c.in_ok-add_place.ensures.adds;
}
