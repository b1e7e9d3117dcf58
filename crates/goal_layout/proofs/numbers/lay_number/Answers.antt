use Rattle.std.proofs.Common.{◌≡◌, [], Some, sym, ap, ◌∙◌, rules, w64, to_z, of_z, to_z-of_z}
use Rattle.heap_words.specs.declared.cell.Cell.TheVariants.{Small}
use Rattle.word_states.specs.Numbers.{bits}
use Rattle.goal_layout.specs.PieceSizes.{is_small}
use Rattle.goal_layout.proofs.Leaves.{wide_laid}
use Rattle.goal_layout.proofs.numbers.lay_number.Goals as goal

pub returns-clause-laid : goal.returns-clause-laid
returns-clause-laid c vs =
    let same : to_z w64 (of_z w64 c.args.value) ≡ c.args.value = to_z-of_z {w = w64} {z = c.args.value} (search rules) in
    let low : to_z w64 (of_z w64 c.split-low.result.0) ≡ c.split-low.result.0 =
    to_z-of_z {w = w64} {z = c.split-low.result.0} (search rules) in
    wide_laid vs c.args.words.now c.take.new.words c.in_ok-at.at c.split-low.result.1 c.encode-3.result c.encode-2.result c.args.value
    c.split-low.result.0 (ap is_small (sym same) ∙ sym c.is_small.ensures ∙ c.if-is_small.false) c.ranges.value c.in_ok-at.ensures.taken
    (c.encode-2.ensures.back ∙ ap (λ z. Some (Small z)) low) c.encode-3.ensures.back (ap bits (sym same) ∙ c.split-low.ensures.value)

pub returns-clause-pages : goal.returns-clause-pages
returns-clause-pages c = (returns-clause-laid c []).0.pages
