use Rattle.std.proofs.Common.{sym, ap, ◌∙◌}
use Rattle.std.proofs.lemmas.Option.{slice_get-get_or}
use Rattle.std.proofs.lemmas.List.{take_more, take_all}
use Rattle.trial_laws.specs.Endings.{settled}
use Rattle.try_desk.proofs.Settling.{none_settled, own_more, other_more, place_of}
use Rattle.try_desk.proofs.pieces.Pieces.settle.Goals.{then-addr-ge-OWN, else-addr-ge-OWN}
use Rattle.try_desk.proofs.pieces.Pieces.settle.Goals as goal

pub loop-bind-init : goal.loop-bind-init
loop-bind-init c = sym (none_settled 4000000000 c.args.self.now)

pub settle_place-requires-clause-above : goal.settle_place-requires-clause-above
settle_place-requires-clause-above c =
    (place_of c.args.binds.now c.loop-bind.bind-index _ c.args.self.now c.loop-bind.self c.requires.once
    (slice_get-get_or c.args.binds.now c.loop-bind.bind-index (0, 0) c.loop-bind-test.true) c.if-addr-ge-OWN.true c.requires.places
    c.loop-bind.invariant).0

pub settle_place-requires-clause-place : goal.settle_place-requires-clause-place
settle_place-requires-clause-place c =
    (place_of c.args.binds.now c.loop-bind.bind-index _ c.args.self.now c.loop-bind.self c.requires.once
    (slice_get-get_or c.args.binds.now c.loop-bind.bind-index (0, 0) c.loop-bind-test.true) c.if-addr-ge-OWN.true c.requires.places
    c.loop-bind.invariant).1

pub loop-bind-preserved : goal.loop-bind-preserved
loop-bind-preserved c =
    let at = slice_get-get_or c.args.binds.now c.loop-bind.bind-index (0, 0) c.loop-bind-test.true in
    let more = sym (take_more c.args.binds.now c.loop-bind.bind-index (0, 0) c.loop-bind-test.true) in
    elim c.if-addr-ge-OWN.branch [
      | then-addr-ge-OWN w ↦ own_more c.args.binds.now c.loop-bind.bind-index _ c.args.self.now c.loop-bind.self c.if-addr-ge-OWN.self
          c.requires.once at c.loop-bind.invariant (w.self-is ∙ w.settle_place.ensures)
          ∙ ap (λ l. settled l 4000000000 c.args.self.now) more
      | else-addr-ge-OWN w ↦ w.self-is ∙ (other_more c.args.binds.now c.loop-bind.bind-index _ c.args.self.now c.loop-bind.self
          c.requires.once at w.if-addr-ge-OWN.false c.loop-bind.invariant
          ∙ ap (λ l. settled l 4000000000 c.args.self.now) more)
    ]

pub returns : goal.returns
returns c =
    c.loop-bind.invariant ∙ ap (λ l. settled l 4000000000 c.args.self.now) (take_all c.loop-bind.bind-index c.args.binds.now c.loop-bind-test.false)
