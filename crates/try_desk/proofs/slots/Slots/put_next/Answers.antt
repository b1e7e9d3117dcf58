use Rattle.std.proofs.Common.{ℕ, List, length, sym, ap, ap₂, ◌∙◌, subst, arith}
use Rattle.std.specs.Prelude.{slice_get, unwrap_or}
use Rattle.try_desk.specs.declared.slots.Slot.{Slot}
use Rattle.try_desk.specs.Held.{Kept, held, NoneLater}
use Rattle.try_desk.proofs.SlotWords.{later_last, slot_last}
use Rattle.try_desk.proofs.slots.Slots.put_next.Goals as goal

pub invariant_of-self-2 : goal.invariant_of-self-2
invariant_of-self-2 c =
    subst (λ (l : List Slot). NoneLater l c.self.inside.stamp) (sym c.in_ok-put_slot.ensures)
    (later_last c.self.inside.slots.items _ c.self.inside.stamp c.self.invariant (omega arith))

pub returns-clause-held : goal.returns-clause-held
returns-clause-held c =
    slot_last c.self.inside.slots.items c.put_slot.new.slots.items c.self.inside.stamp c.argument_at.result c.self.inside.args.items
    c.in_ok-put_slot.ensures
    (c.argument_at.ensures
    ∙ ap₂ (λ (l : List ℕ) (i : ℕ). unwrap_or (slice_get l i) 6) c.as_slice.ensures.value
    (c.count-at.ensures ∙ ap (λ (k : Kept). length k.slots) (sym c.self.view_is)))
    ∙ ap held c.self.view_is
