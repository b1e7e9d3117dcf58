use Rattle.std.proofs.Common.{◌≡◌, ◌++◌, ◌∷◌, [], length, false, sym, ap, ◌∙◌, subst, arith}
use Rattle.std.proofs.lemmas.List.{length-append}
use Rattle.try_desk.specs.declared.slots.Slot.{Slot}
use Rattle.std.proofs.Common.{List}
use Rattle.try_desk.specs.Held.{held_by, NoneLater}
use Rattle.try_desk.proofs.SlotWords.{later_last, later_more, slots_anew}
use Rattle.try_desk.proofs.slots.Slots.make.Goals as goal

pub loop-i-preserved : goal.loop-i-preserved
loop-i-preserved c =
    let put : c.put_slot.new.slots.items ≡ c.loop-i.slots.items ++ (record { word = 6; stamp = 0; operation = false }) ∷ [] =
    c.in_ok-put_slot.ensures in (
      omega (
        arith,
        ap length put,
        length-append c.loop-i.slots.items ((record { word = 6; stamp = 0; operation = false }) ∷ []),
        c.loop-i.invariant.0,
      ),
      subst (λ (l : List Slot). NoneLater l 0) (sym put) (later_last c.loop-i.slots.items _ 0 c.loop-i.invariant.1 (omega arith)),
    )

pub invariant_of-result : goal.invariant_of-result
invariant_of-result c = later_more c.loop-i.slots.items 0 c.loop-i.invariant.1

pub returns-clause-held : goal.returns-clause-held
returns-clause-held c =
    ap (held_by c.loop-i.slots.items 1) c.new.ensures.items ∙ slots_anew c.loop-i.slots.items [] 0 c.loop-i.invariant.1
