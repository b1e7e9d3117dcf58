use Rattle.std.proofs.Common.{[], ◌∷◌, ◌+◌, ◌-◌, length, sym, ap, subst, ◌∙◌}
use Rattle.machine_code.specs.Instructions.{GetTuple}
use Rattle.head_code.specs.Emitting.{Emits}
use Rattle.fcp_model.specs.Translation.{term_of}
use Rattle.head_code.specs.OpenCode.{open_size, tuple_part}
use Rattle.head_code.proofs.OpenLoops.{pair_open, tuple_open, tuple_ends, parts_open, rest_open, rest_opened, shut_step}
use Rattle.head_code.proofs.heads.+heads.Goals as goal

pub open-returns-in_ok-shut-in-Cons-clause-code : goal.open-returns-in_ok-shut-in-Cons-clause-code
open-returns-in_ok-shut-in-Cons-clause-code t c =
    pair_open _ _ _ _ _ _ _ _ _ _ _ _ _ _ _ _ c.in-Cons.is c.get-in-Cons.ensures c.get-in-Cons-2.ensures c.requires
    (c.in_ok-first_size-in-Cons.ensures ∙ ap (λ x. open_size (term_of x)) (c.get.ensures ∙ sym c.get-in-Cons.ensures))
    c.in_ok-left-in-Cons.ensures.first c.in_ok-right-in-Cons.ensures c.in_ok-first-in-Cons.ensures.behind
    c.in_ok-first-in-Cons.ensures.met c.in_ok-left-in-Cons.ensures.code c.in_ok-first-in-Cons.ensures.code
    c.in_ok-rest-in-Cons.ensures.code c.in_ok-shut-in-Cons.ensures

pub open-returns-in_ok-shut-in-Tuple-clause-code : goal.open-returns-in_ok-shut-in-Tuple-clause-code
open-returns-in_ok-shut-in-Tuple-clause-code t c =
    tuple_open _ _ _ _ _ _ _ _ _ _ c.in-Tuple.is c.as_slice-in-Tuple.ensures c.requires
    (c.in_ok-first-in-Tuple.ensures.first
    ∙ ap (λ l. tuple_part (length l) c.args.at) (c.as_slice.ensures ∙ sym c.as_slice-in-Tuple.ensures))
    (subst (λ l. Emits c.args.code.now c.open_tuple.new.code
    (GetTuple c.args.at.slot c.args.at.next (length l) (length c.args.code.now.instrs.items + (c.args.size - 1)) ∷ []))
    (c.as_slice.ensures ∙ sym c.as_slice-in-Tuple.ensures) c.in_ok-first-in-Tuple.ensures.code) c.in_ok-rest-in-Tuple.ensures.code
    c.in_ok-shut-in-Tuple.ensures

pub open-returns-in_ok-shut-in-Tuple-clause-behind : goal.open-returns-in_ok-shut-in-Tuple-clause-behind
open-returns-in_ok-shut-in-Tuple-clause-behind t c =
    tuple_ends c.args.at c.in_ok-first-in-Tuple.first _ _ _ _ c.in-Tuple.is c.as_slice-in-Tuple.ensures
    (c.in_ok-first-in-Tuple.ensures.first
    ∙ ap (λ l. tuple_part (length l) c.args.at) (c.as_slice.ensures ∙ sym c.as_slice-in-Tuple.ensures))
    c.in_ok-rest-in-Tuple.ensures.behind

pub open_parts-loop-term-preserved : goal.open_parts-loop-term-preserved
open_parts-loop-term-preserved t c =
    parts_open _ _ _ _ _ _ _ _ _ _ _ _ c.loop-term-test.true c.term-item.is c.in_ok-here.ensures c.in_ok-opened.ensures.behind
    c.in_ok-opened.ensures.met c.in_ok-opened.ensures.code c.loop-term.invariant

pub open_rest-loop-rest-preserved : goal.open_rest-loop-rest-preserved
open_rest-loop-rest-preserved t c =
    rest_open _ _ _ _ _ _ _ _ _ _ _ _ _ _ _ _ _ _ _ c.loop-rest.pairs.items _ c.in-Cons.is c.get-in-Cons.ensures c.get-rest.ensures
    (c.in_ok-first_size.ensures ∙ ap (λ x. open_size (term_of x)) (c.get.ensures ∙ sym c.get-in-Cons.ensures))
    c.in_ok-inner.ensures.first c.in_ok-here.ensures c.in_ok-first.ensures.behind c.in_ok-first.ensures.met c.in-Ok.ensures.items
    c.in_ok-inner.ensures.code c.in_ok-first.ensures.code c.loop-rest.invariant

pub open_rest-loop-pair-init : goal.open_rest-loop-pair-init
open_rest-loop-pair-init t c =
    rest_opened _ _ _ _ _ _ _ _ _ _ _ _ c.loop-rest.pairs.items c.in_ok-end.ensures.code c.in_ok-end.ensures.behind
    c.in_ok-end.ensures.met c.loop-rest.invariant

pub open_rest-loop-pair-preserved : goal.open_rest-loop-pair-preserved
open_rest-loop-pair-preserved t c = (
  shut_step _ _ _ _ _ c.pop.new.self.items _ c.in-Some.ensures.items c.in_ok-shut.ensures c.loop-pair.invariant.0,
  c.loop-pair.invariant.1,
  c.loop-pair.invariant.2,
)
