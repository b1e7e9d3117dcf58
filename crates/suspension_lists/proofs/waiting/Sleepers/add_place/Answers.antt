use Rattle.std.proofs.Common.{sym}
use Rattle.heap_words.specs.Trails.{word_at}
use Rattle.heap_words.proofs.Keeps.{loaded_twice}
use Rattle.suspension_lists.proofs.Lists.{path_process, list_on}
use Rattle.suspension_lists.proofs.Knowing.{list_leads}
use Rattle.suspension_lists.proofs.waiting.Sleepers.add_place.Goals as goal

pub walk-requires-clause-leads : goal.walk-requires-clause-leads
walk-requires-clause-leads g c =
    rw c.list_in.ensures
    (list_leads g.met.W.Words.laws c.args.place c.in_ok-word.word c.in_ok-word.ensures.loaded.sound c.in_ok-word.ensures.loaded.holds
    c.in_ok-word.ensures.kept)

pub put_sleepers-requires-clause-leads : goal.put_sleepers-requires-clause-leads
put_sleepers-requires-clause-leads g c a i = c.in_ok-walk.ensures.leads a (rw c.as_slice.ensures.value at i)

pub put_sleepers-requires-clause-process : goal.put_sleepers-requires-clause-process
put_sleepers-requires-clause-process g c a i =
    let l = c.in_ok-walk.ensures.entries in
    path_process (word_at c.walk.new.trail.kept) c.list_in.result _ l.0 l.1 a (rw c.as_slice.ensures.value at i)

pub returns-clause-loaded : goal.returns-clause-loaded
returns-clause-loaded g c =
    loaded_twice g.met.W.Words.laws c.in_ok-word.ensures.loaded
    (loaded_twice g.met.W.Words.laws c.in_ok-walk.ensures.loaded c.in_ok-put_sleepers.ensures.loaded)

pub returns-clause-adds : goal.returns-clause-adds
returns-clause-adds g c = record {
  entries = c.walk.new.entries.items;
  list = list_on c.in_ok-put_sleepers.ensures.loaded.went.grows c.args.place c.walk.new.entries.items (
    c.list_in.result,
    (c.in_ok-word.word, c.in_ok-walk.ensures.loaded.went.grows _ _ c.in_ok-word.ensures.kept, sym c.list_in.ensures),
    c.in_ok-walk.ensures.entries,
  );
  adds = rw c.as_slice.ensures.value at c.in_ok-put_sleepers.ensures.adds;
}
