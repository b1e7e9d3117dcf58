use Rattle.std.proofs.Common.{◌≡◌, take}
use Rattle.std.specs.List.{AllZip}
use Rattle.heap_words.specs.Trails.{KeepsLoads}
use Rattle.entry_lines.specs.Reading.{NamesPlace}
use Rattle.entry_lines.proofs.hangs.put_places.Given as goal

abbrev pub invariant-loop-address : goal.invariant-loop-address
invariant-loop-address g l = record {
  loaded : KeepsLoads g.W.Words.sound g.W.Words.had g.W.Words.leads g.W.Words.later g.W.Words.gave l.fn.trail.kept l.fn.trail.binds
      l.fn.words l.trail.kept l.trail.binds l.words;
  binds : l.trail.binds ≡ l.fn.trail.binds;
  named : AllZip (NamesPlace l.trail.kept) (take l.address-index l.addresses) l.places.items;
}
