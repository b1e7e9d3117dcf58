use Rattle.std.proofs.Common.{ap, ◌∙◌}
use Rattle.try_desk.specs.Held.{Kept, held_anew}
use Rattle.try_desk.proofs.SlotWords.{later_more, slots_anew}
use Rattle.try_desk.proofs.slots.Slots.renew.Goals as goal

pub invariant_of-self : goal.invariant_of-self
invariant_of-self c = later_more c.self.inside.slots.items c.self.inside.stamp c.self.invariant

pub returns-clause-held : goal.returns-clause-held
returns-clause-held c =
    slots_anew c.self.inside.slots.items c.self.inside.args.items c.self.inside.stamp c.self.invariant
    ∙ ap held_anew (ap (λ (k : Kept). k.args) c.self.view_is ∙ c.begin_stamps.ensures.keeps.args)
