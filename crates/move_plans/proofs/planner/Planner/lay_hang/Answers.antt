use Rattle.std.proofs.Common.{◌≡◌, ◌∙◌, ℕ, List, length, vec_len, ap, subst, arith}
use Rattle.page_layout.specs.Hangs.{threes}
use Rattle.trial_machine.proofs.Loading.{loads_on}
use Rattle.move_plans.specs.Places.{HasPlaces}
use Rattle.move_plans.proofs.Laying.{lays_hang}
use Rattle.move_plans.proofs.Reading.{are_reads}
use Rattle.move_plans.proofs.planner.Planner.lay_hang.Goals as goal

pub returns-clause-loaded : goal.returns-clause-loaded
returns-clause-loaded g c =
    loads_on g.met.W.Words.laws c.args.self.now.machine.trail.kept c.put_places.new.trail.kept c.find_room.new.trail.kept
    c.args.words.now c.put_places.new.words c.find_room.new.words c.put_places.ensures.between c.find_room.ensures.between
    c.in_ok-put_places.ensures.loaded c.in_ok-laid.ensures.loaded

pub returns-clause-lays : goal.returns-clause-lays
returns-clause-lays g c t =
    let size : vec_len c.put_places.new.lists ≡ length c.put_places.new.lists.items = omega (arith, c.put_places.new.lists.ok.0) in
    let three : c.as_slice-2.result.now ≡ threes (length c.put_places.new.lists.items) =
    c.as_slice-2.ensures.value ∙ c.in_ok-put_threes.ensures ∙ ap threes (c.len.ensures ∙ size) in
    lays_hang c.args.self.now.machine.trail.kept c.put_places.new.trail.kept _ c.args.process c.as_slice-2.result.now
    c.in_ok-put_places.ensures.loaded.grows c.in_ok-laid.ensures.loaded.grows
    (are_reads g.met.W.Words.laws c.find_room.new.trail.kept c.find_room.new.words c.in_ok-laid.ensures.loaded.stored c.once.ensures.kept)
    c.requires.wait
    (subst (λ (ps : List ℕ). HasPlaces c.put_places.new.trail.kept ps c.put_places.new.lists.items) c.as_slice.ensures.places
    c.in_ok-put_places.ensures.places)
    three (c.in_ok-laid.ensures.room t) (let low = c.ranges.process.fits in omega arith)
