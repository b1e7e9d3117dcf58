use Rattle.std.proofs.Common.{◌≡◌, take}
use Rattle.trial_machine.specs.Stores.{Loads}
use Rattle.move_plans.specs.Places.{HasPlaces}
use Rattle.move_plans.proofs.places.put_places.Given as goal

abbrev pub invariant-loop-place : goal.invariant-loop-place
invariant-loop-place g l = record {
  between : g.W.Words.later l.fn.words l.words;
  loaded : Loads g.W.Words.addresses g.W.Words.sound g.W.Words.had g.W.Words.shown g.W.Words.later g.W.Words.gave l.fn.trail.kept l.fn.words
      l.trail.kept l.words;
  binds : l.trail.binds ≡ l.fn.trail.binds;
  places : HasPlaces l.trail.kept (take l.place-index l.places) l.lists.items;
}
