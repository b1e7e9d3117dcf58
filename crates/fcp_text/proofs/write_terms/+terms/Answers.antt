use Rattle.std.proofs.Common.{rules, w64, to_z-of_z, ◌∙◌, ap, sym, refl, codes, arith}
use Rattle.std.specs.Fmt.{signed_decimal}
use Rattle.fcp_text.specs.SourceTerms.{term_text, rest_text}
use Rattle.fcp_text.proofs.Progress.{begin_as, go_on, stop, end, finish, moved}
use Rattle.fcp_text.proofs.Depths.{no_deeper}
use Rattle.fcp_text.proofs.PartedTexts.{parted_first, behind_step, behind_here, behind_none}
use Rattle.fcp_text.proofs.TermTexts.{text-Int, text-Str, text-Nil, text-Var, text-Ro, text-Cons, rest-Nil, rest_other, text_of_pair, rest_of_pair, text_in_braces, text_as_call}
use Rattle.fcp_text.proofs.write_terms.+terms.Goals as goal

pub write_parts-returns-in_err-write_term : goal.write_parts-returns-in_err-write_term
write_parts-returns-in_err-write_term g t c =
    stop _ _ _ c.from_residual.ensures.0 c.in_err-write_term.ensures _
    (begin_as (parted_first (term_text c.args.names.now) (codes ",") c.args.parts.now c.args.from c.index-parts-from.result
    (omega arith) c.index-parts-from.is))

pub write_parts-loop-at-init : goal.write_parts-loop-at-init
write_parts-loop-at-init g t c =
    go_on c.in_ok-write_term.ensures
    (begin_as (parted_first (term_text c.args.names.now) (codes ",") c.args.parts.now c.args.from c.index-parts-from.result
    (omega arith) c.index-parts-from.is))

pub write_parts-returns-in_err-put : goal.write_parts-returns-in_err-put
write_parts-returns-in_err-put g t c =
    stop _ _ _ c.from_residual-in_err-put.ensures.0 c.in_err-put.ensures _
    (moved (behind_here (term_text c.args.names.now) (codes ",") c.args.parts.now c.loop-at.at c.index-parts-from.result
    (omega arith)) c.loop-at.invariant)

pub write_parts-returns-in_err-write_term-2 : goal.write_parts-returns-in_err-write_term-2
write_parts-returns-in_err-write_term-2 g t c =
    stop _ _ _ c.from_residual-in_err-write_term-2.ensures.0 c.in_err-write_term-2.ensures _
    (go_on c.in_ok-put.ensures
    (moved (behind_step (term_text c.args.names.now) (codes ",") c.args.parts.now c.loop-at.at c.index-parts-at.result
    (omega arith) c.index-parts-at.is) c.loop-at.invariant))

pub write_parts-loop-at-preserved : goal.write_parts-loop-at-preserved
write_parts-loop-at-preserved g t c =
    go_on c.in_ok-write_term-2.ensures (go_on c.in_ok-put.ensures
    (moved (behind_step (term_text c.args.names.now) (codes ",") c.args.parts.now c.loop-at.at c.index-parts-at.result
    (omega arith) c.index-parts-at.is) c.loop-at.invariant))

pub write_parts-returns : goal.write_parts-returns
write_parts-returns g t c =
    finish (moved (behind_none (term_text c.args.names.now) (codes ",") c.args.parts.now c.loop-at.at (omega arith)) c.loop-at.invariant)

pub write_rest-returns-in_err-put : goal.write_rest-returns-in_err-put
write_rest-returns-in_err-put g t c =
    stop _ _ _ c.from_residual.ensures.0 c.in_err-put.ensures _
    (moved
    (rest_of_pair c.args.names.now c.loop-rest.rest.now c.in-Cons.head c.in-Cons.tail c.in-Cons.head c.in-Cons.tail c.in-Cons.is refl refl)
    c.loop-rest.invariant.0)

pub write_rest-returns-in_err-write_term : goal.write_rest-returns-in_err-write_term
write_rest-returns-in_err-write_term g t c =
    stop _ _ _ c.from_residual-in_err-write_term.ensures.0 c.in_err-write_term.ensures _
    (go_on c.in_ok-put.ensures (moved
    (rest_of_pair c.args.names.now c.loop-rest.rest.now c.in-Cons.head c.in-Cons.tail c.get.result.now c.in-Cons.tail c.in-Cons.is
    c.get.ensures refl) c.loop-rest.invariant.0))

pub write_rest-loop-rest-preserved : goal.write_rest-loop-rest-preserved
write_rest-loop-rest-preserved g t c = (
  go_on c.in_ok-write_term.ensures
      (go_on c.in_ok-put.ensures (moved
      (rest_of_pair c.args.names.now c.loop-rest.rest.now c.in-Cons.head c.in-Cons.tail c.get.result.now c.get-rest.result.now c.in-Cons.is
      c.get.ensures c.get-rest.ensures) c.loop-rest.invariant.0)),
  no_deeper c.loop-rest.rest.now c.in-Cons.head c.in-Cons.tail c.get-rest.result.now c.args.list.now c.in-Cons.is c.get-rest.ensures
      c.loop-rest.invariant.1,
)

pub write_rest-returns-in_err-put-2 : goal.write_rest-returns-in_err-put-2
write_rest-returns-in_err-put-2 g t c =
    stop _ _ _ c.from_residual-in_err-put-2.ensures.0 c.in_err-put-2.ensures _
    (moved (rest_other c.args.names.now c.loop-rest.rest.now c.in_default-rest.not-Nil c.in_default.not-Cons) c.loop-rest.invariant.0)

pub write_rest-returns-in_err-write_term-2 : goal.write_rest-returns-in_err-write_term-2
write_rest-returns-in_err-write_term-2 g t c =
    stop _ _ _ c.from_residual-in_err-write_term-2.ensures.0 c.in_err-write_term-2.ensures _
    (go_on c.in_ok-put-2.ensures (moved
    (rest_other c.args.names.now c.loop-rest.rest.now c.in_default-rest.not-Nil c.in_default.not-Cons) c.loop-rest.invariant.0))

pub write_rest-returns-in_default-rest : goal.write_rest-returns-in_default-rest
write_rest-returns-in_default-rest g t c =
    end _ _ _ _
    (go_on c.in_ok-write_term-2.ensures
    (go_on c.in_ok-put-2.ensures (moved
    (rest_other c.args.names.now c.loop-rest.rest.now c.in_default-rest.not-Nil c.in_default.not-Cons) c.loop-rest.invariant.0)))
    c.put-in_default-rest-2.ensures

pub write_rest-returns : goal.write_rest-returns
write_rest-returns g t c =
    end _ _ _ _ (moved (ap (rest_text c.args.names.now) c.in-Nil.is ∙ rest-Nil c.args.names.now) c.loop-rest.invariant.0) c.put-2.ensures

pub write_term-returns-in_err-put-in-Cons : goal.write_term-returns-in_err-put-in-Cons
write_term-returns-in_err-put-in-Cons g t c =
    stop _ _ _ c.from_residual.ensures.0 c.in_err-put-in-Cons.ensures _
    (begin_as (ap (term_text c.args.names.now) c.in-Cons.is ∙ text-Cons c.args.names.now _ _))

pub write_term-returns-in_err-write_term-in-Cons : goal.write_term-returns-in_err-write_term-in-Cons
write_term-returns-in_err-write_term-in-Cons g t c =
    stop _ _ _ c.from_residual-in_err-write_term-in-Cons.ensures.0 c.in_err-write_term-in-Cons.ensures _
    (go_on c.in_ok-put-in-Cons.ensures
    (begin_as
    (text_of_pair c.args.names.now c.args.term.now c.in-Cons.head c.in-Cons.tail c.get.result.now c.in-Cons.tail c.in-Cons.is c.get.ensures
    refl)))

pub write_term-returns-in-Int : goal.write_term-returns-in-Int
write_term-returns-in-Int g t c =
    end _ _ _ _ (begin_as (ap (term_text c.args.names.now) c.in-Int.is ∙ text-Int c.args.names.now _
    ∙ ap signed_decimal (sym (to_z-of_z {w = w64} {z = c.in-Int.number} (search rules))))) c.write_number.ensures

pub write_term-returns-in-Str : goal.write_term-returns-in-Str
write_term-returns-in-Str g t c =
    end _ _ _ _ (begin_as (ap (term_text c.args.names.now) c.in-Str.is ∙ text-Str c.args.names.now _)) c.write_string.ensures

pub write_term-returns-in-Nil : goal.write_term-returns-in-Nil
write_term-returns-in-Nil g t c =
    end _ _ _ _ (begin_as (ap (term_text c.args.names.now) c.in-Nil.is ∙ text-Nil c.args.names.now)) c.put.ensures

pub write_term-returns-in_ok-write_term-in-Cons : goal.write_term-returns-in_ok-write_term-in-Cons
write_term-returns-in_ok-write_term-in-Cons g t c =
    end _ _ _ _
    (go_on c.in_ok-write_term-in-Cons.ensures
    (go_on c.in_ok-put-in-Cons.ensures
    (begin_as
    (text_of_pair c.args.names.now c.args.term.now c.in-Cons.head c.in-Cons.tail c.get.result.now c.get-in-Cons.result.now c.in-Cons.is
    c.get.ensures c.get-in-Cons.ensures))))
    c.write_rest.ensures

pub write_term-returns-in-Var : goal.write_term-returns-in-Var
write_term-returns-in-Var g t c =
    end _ _ _ _ (begin_as (ap (term_text c.args.names.now) c.in-Var.is ∙ text-Var c.args.names.now _)) c.write_variable.ensures

pub write_term-returns-in-Ro : goal.write_term-returns-in-Ro
write_term-returns-in-Ro g t c =
    end _ _ _ _ (begin_as (ap (term_text c.args.names.now) c.in-Ro.is ∙ text-Ro c.args.names.now _)) c.write_read_only.ensures

pub write_tuple-returns-in_err-write_string : goal.write_tuple-returns-in_err-write_string
write_tuple-returns-in_err-write_string g t c =
    stop _ _ _ c.from_residual.ensures.0 c.in_err-write_string.ensures _
    (begin_as (text_as_call c.args.names.now c.args.parts.now c.in-Some.name (sym c.in-Some.ensures)))

pub write_tuple-returns-in_err-put : goal.write_tuple-returns-in_err-put
write_tuple-returns-in_err-put g t c =
    stop _ _ _ c.from_residual-in_err-put.ensures.0 c.in_err-put.ensures _
    (go_on c.in_ok-write_string.ensures (begin_as (text_as_call c.args.names.now c.args.parts.now c.in-Some.name (sym c.in-Some.ensures))))

pub write_tuple-returns-in_err-write_parts : goal.write_tuple-returns-in_err-write_parts
write_tuple-returns-in_err-write_parts g t c =
    stop _ _ _ c.from_residual-in_err-write_parts.ensures.0 c.in_err-write_parts.ensures _
    (go_on c.in_ok-put.ensures (go_on c.in_ok-write_string.ensures
    (begin_as (text_as_call c.args.names.now c.args.parts.now c.in-Some.name (sym c.in-Some.ensures)))))

pub write_tuple-returns-in-Some : goal.write_tuple-returns-in-Some
write_tuple-returns-in-Some g t c =
    end _ _ _ _
    (go_on c.in_ok-write_parts.ensures
    (go_on c.in_ok-put.ensures (go_on c.in_ok-write_string.ensures
    (begin_as (text_as_call c.args.names.now c.args.parts.now c.in-Some.name (sym c.in-Some.ensures))))))
    c.put-in-Some.ensures

pub write_tuple-returns-in_err-put-2 : goal.write_tuple-returns-in_err-put-2
write_tuple-returns-in_err-put-2 g t c =
    stop _ _ _ c.from_residual-in_err-put-2.ensures.0 c.in_err-put-2.ensures _
    (begin_as (text_in_braces c.args.names.now c.args.parts.now (sym c.in_default.ensures)))

pub write_tuple-returns-in_err-write_parts-2 : goal.write_tuple-returns-in_err-write_parts-2
write_tuple-returns-in_err-write_parts-2 g t c =
    stop _ _ _ c.from_residual-in_err-write_parts-2.ensures.0 c.in_err-write_parts-2.ensures _
    (go_on c.in_ok-put-2.ensures (begin_as (text_in_braces c.args.names.now c.args.parts.now (sym c.in_default.ensures))))

pub write_tuple-returns : goal.write_tuple-returns
write_tuple-returns g t c =
    end _ _ _ _
    (go_on c.in_ok-write_parts-2.ensures
    (go_on c.in_ok-put-2.ensures (begin_as (text_in_braces c.args.names.now c.args.parts.now (sym c.in_default.ensures)))))
    c.put-3.ensures
