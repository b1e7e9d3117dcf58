use Rattle.std.proofs.Common.{◌+◌, ◌∷◌, [], ◌≡◌, ◌∙◌, ap, pos, refl, length, to_z, w64, arith}
use Rattle.std.proofs.lemmas.Int.{ints}
use Rattle.heap_words.specs.Cells.{encoded}
use Rattle.heap_words.specs.declared.cell.Cell.TheVariants.{Small}
use Rattle.goal_layout.proofs.Filling.{fills_four, fills_next}
use Rattle.goal_layout.proofs.processes.lay_process.Goals as goal

pub loop-place-init : goal.loop-place-init
loop-place-init c =
    let small : to_z w64 c.args.number ≡ pos c.args.number = omega (arith, ints) in
    fills_four c.args.words.now c.take.new.words (length c.args.args.now) c.in_ok-at.at _ _ _ _ c.encode.result c.encode-2.result
    c.encode-3.result c.encode-4.result c.in_ok-at.ensures.taken c.encode.ensures.value
    (c.encode-2.ensures.value ∙ ap (λ z. encoded (Small z)) small) c.encode-3.ensures.value
    c.encode-4.ensures.value

pub loop-place-preserved : goal.loop-place-preserved
loop-place-preserved c =
    fills_next c.args.words.now c.loop-place.words c.in_ok-at.at _ _ c.loop-place.place (_ ∷ _ ∷ _ ∷ _ ∷ []) c.args.args.now refl
    c.loop-place-test.true refl (λ i. c.in_ok-at.at + 4 + c.loop-place.place) c.loop-place.invariant
