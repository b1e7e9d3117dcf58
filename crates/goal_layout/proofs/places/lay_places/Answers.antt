use Rattle.std.proofs.Common.{◌≡◌, ◌∙◌, ◌+◌, ◌-◌, ◌*◌, pos, set, sym, ap, subst, arith, to_z, w64}
use Rattle.std.proofs.lemmas.Int.{ints}
use Rattle.heap_words.specs.Cells.{encoded}
use Rattle.heap_words.specs.declared.cell.Cell.TheVariants.{Small}
use Rattle.goal_layout.specs.Goals.{LaysPlaces}
use Rattle.goal_layout.proofs.Placing.{IsNaming, no_places, naming_step, places_laid}
use Rattle.goal_layout.proofs.places.lay_places.Goals as goal

pub returns-then-vars-eq0-clause-laid : goal.returns-then-vars-eq0-clause-laid
returns-then-vars-eq0-clause-laid c =
    subst (λ k. LaysPlaces k c.args.words.now c.args.words.now) (omega arith) (no_places c.args.words.now c.requires.new)

pub loop-number-preserved : goal.loop-number-preserved
loop-number-preserved c =
    let small : to_z w64 c.loop-number.number ≡ pos c.loop-number.number = omega (arith, ints) in
    naming_step c.args.words.now c.loop-number.words c.loop-number.number c.encode.result _ (omega arith) (omega arith)
    (λ i. 2 * c.loop-number.number - 1) (c.encode.ensures.value ∙ ap (λ z. encoded (Small z)) small) c.loop-number.invariant

pub returns-clause-laid : goal.returns-clause-laid
returns-clause-laid c =
    let last : c.loop-number.number ≡ c.args.vars + 1 = omega arith in
    subst (λ x. LaysPlaces c.args.vars c.args.words.now (set c.loop-number.words 0 x)) (sym c.encode-2.ensures.value)
    (places_laid c.args.words.now c.loop-number.words c.args.vars c.requires.new c.requires.few (omega arith)
    (subst (IsNaming c.args.words.now c.loop-number.words) last c.loop-number.invariant))
