use Rattle.std.proofs.Common.{◌≡◌, ◌+◌, ◌∙◌, sym, ap, arith, rules, length, w64, to_z, of_z, to_z-of_z}
use Rattle.fcp_model.specs.declared.term.Term.{Int}
use Rattle.goal_layout.proofs.Leaves.{number_laid, variable_laid, read_only_laid}
use Rattle.goal_layout.proofs.Listing.{listing_begins, listing_step, listing_ends, head_misses, item_misses, none_if}
use Rattle.goal_layout.proofs.Tupling.{tupling_begins, tupling_step, tupling_ends, part_misses, few_parts, tuple_misses}
use Rattle.goal_layout.proofs.terms.+terms.Goals as goal

pub lay_list-loop-rest-init : goal.lay_list-loop-rest-init
lay_list-loop-rest-init t c =
    listing_begins c.args.list.now _ _ _ _ c.in-Cons.is c.get.ensures c.get-rest.ensures c.requires.narrow c.args.words.now c.take.new.words
    c.lay_term.new.words c.in_ok-first.first c.in_ok-word.word c.encode-result.result _ c.requires.numbered c.in_ok-first.ensures.taken
    c.in_ok-word.ensures.laid c.encode-result.ensures.back (λ i. c.in_ok-first.first + 1)

pub lay_list-loop-rest-preserved : goal.lay_list-loop-rest-preserved
lay_list-loop-rest-preserved t c =
    listing_step c.args.list.now c.loop-rest.rest.now _ _ _ _ c.args.words.now c.loop-rest.words c.encode-result.result c.loop-rest.second
    c.loop-rest.invariant c.in-Cons-rest.is c.get-in-Cons-rest.ensures c.get-rest-in-Cons-rest.ensures c.take-in-Cons-rest.new.words
    c.lay_term-in-Cons-rest.new.words c.in_ok-pair.pair c.in_ok-word-2.word c.encode.result _ c.requires.numbered
    c.in_ok-pair.ensures.taken c.in_ok-word-2.ensures.laid c.encode.ensures.back (λ i. c.in_ok-pair.pair + 1)

pub lay_list-returns : goal.lay_list-returns
lay_list-returns t c =
    let laid = listing_ends c.args.list.now c.loop-rest.rest.now c.args.words.now c.loop-rest.words c.lay_term-2.new.words
    c.encode-result.result c.loop-rest.second c.in_ok-last.last c.loop-rest.invariant c.in_ok-last.ensures.laid in
    record { none = tt; pages = (laid c.requires.numbered.0 c.requires.numbered.1).lays.pages; laid = laid }

pub lay_list-returns-in_err-word-clause-none : goal.lay_list-returns-in_err-word-clause-none
lay_list-returns-in_err-word-clause-none t c =
    none_if _ _ (head_misses c.args.list.now _ _ _ c.in-Cons.tail c.in-Cons.is c.get.ensures (λ i. c.in-Cons.tail) c.requires.narrow
    c.args.words.now c.take.new.words c.in_ok-first.first c.in_ok-first.ensures.taken c.in_err-word.ensures.none)

pub lay_list-returns-in_err-word-2-clause-none : goal.lay_list-returns-in_err-word-2-clause-none
lay_list-returns-in_err-word-2-clause-none t c =
    none_if _ _ (item_misses c.args.list.now c.loop-rest.rest.now _ _ _ c.in-Cons-rest.next c.args.words.now c.loop-rest.words
    c.encode-result.result c.loop-rest.second c.loop-rest.invariant c.in-Cons-rest.is c.get-in-Cons-rest.ensures (λ i. c.in-Cons-rest.next)
    c.take-in-Cons-rest.new.words c.in_ok-pair.pair c.in_ok-pair.ensures.taken c.in_err-word-2.ensures.none)

pub lay_term-returns-in-Int-clause-laid : goal.lay_term-returns-in-Int-clause-laid
lay_term-returns-in-Int-clause-laid t c =
    let same : to_z w64 (of_z w64 c.in-Int.number) ≡ c.in-Int.number = to_z-of_z {w = w64} {z = c.in-Int.number} (search rules) in
    number_laid c.args.term.now (to_z w64 (of_z w64 c.in-Int.number)) c.lay_number.result c.args.words.now c.lay_number.new.words
    (c.in-Int.is ∙ ap Int (sym same)) c.lay_number.ensures.laid

pub lay_term-returns-in-Var-clause-laid : goal.lay_term-returns-in-Var-clause-laid
lay_term-returns-in-Var-clause-laid t c =
    variable_laid c.args.term.now _ c.encode-in-Var.result c.args.words.now c.in-Var.is c.requires.pages c.encode-in-Var.ensures.back

pub lay_term-returns-in-Ro-clause-laid : goal.lay_term-returns-in-Ro-clause-laid
lay_term-returns-in-Ro-clause-laid t c =
    read_only_laid c.args.term.now _ c.encode-in-Ro.result c.args.words.now c.in-Ro.is c.requires.pages c.encode-in-Ro.ensures.back

pub lay_tuple-loop-place-init : goal.lay_tuple-loop-place-init
lay_tuple-loop-place-init t c =
    tupling_begins c.args.parts.now c.args.words.now c.take.new.words c.in_ok-at.at _ c.encode.result c.requires.narrow c.requires.numbered
    (λ i. length c.args.parts.now) c.in_ok-at.ensures.taken c.encode.ensures.back

pub lay_tuple-overflow_cast-count : goal.lay_tuple-overflow_cast-count
lay_tuple-overflow_cast-count t c = let few = few_parts c.args.parts.now c.requires.narrow in omega (arith, few)

pub lay_tuple-overflow_add-count : goal.lay_tuple-overflow_add-count
lay_tuple-overflow_add-count t c = let few = few_parts c.args.parts.now c.requires.narrow in omega (arith, few)

pub lay_tuple-returns-in_err-at-clause-none : goal.lay_tuple-returns-in_err-at-clause-none
lay_tuple-returns-in_err-at-clause-none t c =
    none_if _ _ (tuple_misses c.args.parts.now c.args.words.now c.in_err-at.ensures.none)

pub lay_tuple-returns-in_err-word-clause-none : goal.lay_tuple-returns-in_err-word-clause-none
lay_tuple-returns-in_err-word-clause-none t c =
    none_if _ _ (part_misses c.args.parts.now c.loop-place.place c.args.words.now c.loop-place.words c.in_ok-at.at _ c.loop-place-test.true
    c.index-parts-place.is c.in_err-word.ensures.none c.loop-place.invariant)

pub lay_tuple-loop-place-preserved : goal.lay_tuple-loop-place-preserved
lay_tuple-loop-place-preserved t c =
    tupling_step c.args.parts.now c.loop-place.place c.args.words.now c.loop-place.words c.lay_term.new.words c.in_ok-at.at _
    c.in_ok-word.word _ c.requires.numbered c.loop-place-test.true c.index-parts-place.is (λ i. c.in_ok-at.at + 1 + c.loop-place.place)
    c.in_ok-word.ensures.laid c.loop-place.invariant

pub lay_tuple-returns-clause-laid : goal.lay_tuple-returns-clause-laid
lay_tuple-returns-clause-laid t c =
    tupling_ends c.args.parts.now c.loop-place.place c.args.words.now c.loop-place.words c.in_ok-at.at c.encode-2.result
    c.loop-place-test.false c.requires.narrow c.encode-2.ensures.back c.loop-place.invariant
