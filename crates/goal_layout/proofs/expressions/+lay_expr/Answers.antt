use Rattle.std.proofs.Common.{◌+◌, ◌∙◌, ap, Some, rules}
use Rattle.heap_words.specs.declared.cell.Cell.TheVariants.{Raw}
use Rattle.goal_layout.proofs.Listing.{none_if}
use Rattle.goal_layout.proofs.Operating.{left_next, right_next, left_finds_none, right_finds_none, whole_laid}
use Rattle.goal_layout.proofs.expressions.+lay_expr.Goals as goal

pub lay_expr-requires : goal.lay_expr-requires
lay_expr-requires t c =
    let next = left_next c.args.expr.now _ _ c.get.result.now c.in-Op.right _ c.in-Op.is c.get.ensures
    (λ i. c.in-Op.right) c.requires.narrow
    c.args.words.now c.take.new.words c.in_ok-at-in-Op.at c.encode.result c.in_ok-at-in-Op.ensures.taken
    (c.encode.ensures.back ∙ ap (λ k. Some (Raw (66 + k))) c.operator.ensures) c.requires.numbered in
    let small = next.3 in
    (search rules, (next.0, (next.1, next.2)))

pub returns-in_err-first-in-Op-clause-none : goal.returns-in_err-first-in-Op-clause-none
returns-in_err-first-in-Op-clause-none t c =
    none_if _ _ (left_finds_none c.args.expr.now _ _ c.get.result.now c.in-Op.right _ c.in-Op.is c.get.ensures
    (λ i. c.in-Op.right) c.requires.narrow
    c.args.words.now c.take.new.words c.in_ok-at-in-Op.at c.encode.result c.in_ok-at-in-Op.ensures.taken
    (c.encode.ensures.back ∙ ap (λ k. Some (Raw (66 + k))) c.operator.ensures) c.in_err-first-in-Op.ensures.none)

pub lay_expr-requires-in-Op : goal.lay_expr-requires-in-Op
lay_expr-requires-in-Op t c =
    let next = right_next c.args.expr.now _ _ c.get.result.now c.get-in-Op.result.now _ c.in-Op.is c.get.ensures c.get-in-Op.ensures
    c.requires.narrow
    c.args.words.now c.take.new.words c.in_ok-at-in-Op.at c.encode.result c.in_ok-at-in-Op.ensures.taken
    (c.encode.ensures.back ∙ ap (λ k. Some (Raw (66 + k))) c.operator.ensures) c.lay_expr.new.words
    c.in_ok-first-in-Op.first c.in_ok-first-in-Op.ensures.laid c.requires.numbered in
    let small = next.3 in
    (search rules, (next.0, (next.1, next.2)))

pub returns-in_err-second-in-Op-clause-none : goal.returns-in_err-second-in-Op-clause-none
returns-in_err-second-in-Op-clause-none t c =
    none_if _ _ (right_finds_none c.args.expr.now _ _ c.get.result.now c.get-in-Op.result.now _ c.in-Op.is c.get.ensures
    c.get-in-Op.ensures c.requires.narrow
    c.args.words.now c.take.new.words c.in_ok-at-in-Op.at c.encode.result c.in_ok-at-in-Op.ensures.taken
    (c.encode.ensures.back ∙ ap (λ k. Some (Raw (66 + k))) c.operator.ensures) c.lay_expr.new.words
    c.in_ok-first-in-Op.first c.in_ok-first-in-Op.ensures.laid c.requires.numbered c.in_err-second-in-Op.ensures.none)

pub returns-in_ok-second-in-Op-clause-laid : goal.returns-in_ok-second-in-Op-clause-laid
returns-in_ok-second-in-Op-clause-laid t c =
    whole_laid c.args.expr.now _ _ c.get.result.now c.get-in-Op.result.now _ c.in-Op.is c.get.ensures c.get-in-Op.ensures c.requires.narrow
    c.args.words.now c.take.new.words c.in_ok-at-in-Op.at c.encode.result c.in_ok-at-in-Op.ensures.taken
    (c.encode.ensures.back ∙ ap (λ k. Some (Raw (66 + k))) c.operator.ensures) c.lay_expr.new.words
    c.in_ok-first-in-Op.first c.in_ok-first-in-Op.ensures.laid c.lay_expr-in-Op.new.words c.in_ok-second-in-Op.second c.encode-in-Op.result
    c.in_ok-second-in-Op.ensures.laid c.encode-in-Op.ensures.back

pub returns-in_ok-second-in-Op-clause-pages : goal.returns-in_ok-second-in-Op-clause-pages
returns-in_ok-second-in-Op-clause-pages t c =
    (returns-in_ok-second-in-Op-clause-laid t c c.requires.numbered.0 c.requires.numbered.1).lays.pages
