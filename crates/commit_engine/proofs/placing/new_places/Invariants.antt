use Rattle.std.proofs.Common.{drop}
use Rattle.commit_engine.proofs.NewPlaces.{PlacedBefore}
use Rattle.commit_engine.proofs.placing.new_places.Given as goal

abbrev pub invariant-loop-at : goal.invariant-loop-at
invariant-loop-at l = PlacedBefore l.read.kept l.writes (drop l.at l.writes) l.places.items
