use Rattle.std.proofs.Common.{◌≡◌, [], ◌∷◌, ◌++◌, ◌∙◌, arith}
use Rattle.std.proofs.lemmas.Grind.{common_steps}
use Rattle.heap_words.proofs.Keeps.{loaded_twice}
use Rattle.entry_lines.proofs.Agreeing.{reads_later}
use Rattle.entry_lines.proofs.LinesOfEntries.{in_list, named_more}
use Rattle.entry_lines.proofs.hangs.put_places.Goals as goal

pub place_name-requires-clause-reads : goal.place_name-requires-clause-reads
place_name-requires-clause-reads g c =
    reads_later g.met.W.Words.laws c.loop-address.invariant.loaded c.loop-address.invariant.binds c.requires.reads

pub place_name-requires-clause-known : goal.place_name-requires-clause-known
place_name-requires-clause-known g c =
    let k = c.requires.known _ (in_list c.args.addresses.now c.loop-address.address-index 0 c.loop-address-test.true) in
    (k.0, g.met.W.Words.laws.stays_known _ _ _ c.loop-address.invariant.loaded.went.between k.1)

pub loop-address-preserved : goal.loop-address-preserved
loop-address-preserved g c =
    let more : c.push.new.self.items ≡ c.loop-address.places.items ++ c.in_ok-name.name ∷ [] = grind (arith, common_steps) in
    record {
      loaded = loaded_twice g.met.W.Words.laws c.loop-address.invariant.loaded c.in_ok-name.ensures.loaded;
      binds = c.place_name.ensures.binds ∙ c.loop-address.invariant.binds;
      named = rw more
          (named_more _ _ c.in_ok-name.ensures.loaded.went.grows c.args.addresses.now c.loop-address.address-index 0 _ c.in_ok-name.name
          c.loop-address-test.true c.loop-address.invariant.named c.in_ok-name.ensures.name);
    }
