use Rattle.std.proofs.Common.{◌<◌, length, sym, ap, ◌∙◌, subst}
use Rattle.try_desk.specs.Held.{Kept, held_by, held_with}
use Rattle.try_desk.proofs.SlotWords.{slot_put, later_put}
use Rattle.try_desk.proofs.slots.Slots.hold.Goals as goal

pub invariant_of-self : goal.invariant_of-self
invariant_of-self c = later_put c.self.inside.slots.items c.self.inside.stamp c.args.slot c.args.word c.args.operation c.self.invariant

pub returns-clause-held : goal.returns-clause-held
returns-clause-held c =
    slot_put c.self.inside.slots.items c.self.inside.args.items c.self.inside.stamp c.args.slot c.args.word c.args.operation
    (subst (λ (k : Kept). c.args.slot < length k.slots) (sym c.self.view_is) c.requires)
    ∙ ap (λ (k : Kept). held_with (held_by k.slots k.stamp k.args) c.args.slot c.args.word c.args.operation) c.self.view_is
