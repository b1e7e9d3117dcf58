use Rattle.std.proofs.Common.{◌∙◌, Some, get_or}
use Rattle.heap_words.proofs.Keeps.{loaded_twice}
use Rattle.suspension_lists.specs.Cells.{process_of}
use Rattle.suspension_lists.specs.declared.entries.Entry.{Entry}
use Rattle.suspension_lists.proofs.Lists.{tells_on}
use Rattle.suspension_lists.proofs.Knowing.{still_leads}
use Rattle.suspension_lists.proofs.Gathering.{one_there, adds_next}
use Rattle.suspension_lists.proofs.sleepers.put_sleepers.Goals as goal

pub sleeper_by-requires-clause-leads : goal.sleeper_by-requires-clause-leads
sleeper_by-requires-clause-leads g c =
    let d : Entry = record { at = 0; process = 0 } in
    let a : Entry = get_or c.args.entries.now c.loop-entry.entry-index d in
    still_leads g.met.W.Words.laws a.at c.loop-entry.invariant.loaded.went.between
    (c.requires.leads a (one_there c.args.entries.now c.loop-entry.entry-index d c.loop-entry-test.true))

pub sleeper_by-requires-clause-process : goal.sleeper_by-requires-clause-process
sleeper_by-requires-clause-process g c =
    let d : Entry = record { at = 0; process = 0 } in
    let a : Entry = get_or c.args.entries.now c.loop-entry.entry-index d in
    tells_on c.loop-entry.invariant.loaded.went.grows process_of a.at (Some a.process)
    (c.requires.process a (one_there c.args.entries.now c.loop-entry.entry-index d c.loop-entry-test.true))

pub loop-entry-preserved : goal.loop-entry-preserved
loop-entry-preserved g c = record {
  loaded = loaded_twice g.met.W.Words.laws c.loop-entry.invariant.loaded c.in_ok-found.ensures.loaded;
  binds = c.sleeper_by.ensures.binds ∙ c.loop-entry.invariant.binds;
  reads = c.sleeper_by.ensures.reads ∙ c.loop-entry.invariant.reads;
  adds = rw c.in_ok-push_found.ensures
      (adds_next c.in_ok-found.ensures.loaded.went.grows c.args.entries.now c.loop-entry.entry-index _ c.args.sleepers.now.items
      c.loop-entry.sleepers.items c.in_ok-found.found c.loop-entry-test.true c.loop-entry.invariant.adds c.in_ok-found.ensures.judges);
}
