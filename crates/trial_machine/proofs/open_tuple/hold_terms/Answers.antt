use Rattle.std.proofs.Common.{◌∙◌, true≢false, sym, subst}
use Rattle.trial_laws.specs.Leading.{IsTermWord}
use Rattle.try_desk.specs.Held.{held}
use Rattle.trial_machine.proofs.OpenedTuples.{terms_more, terms_one}
use Rattle.trial_machine.proofs.open_tuple.hold_terms.Goals as goal

pub returns-then-not-is_term : goal.returns-then-not-is_term
returns-then-not-is_term c = (
  λ e. absurd (true≢false (sym e)),
  λ are. absurd (true≢false (sym (c.is_term.ensures.1 (subst IsTermWord (sym c.term.ensures)
      (terms_one c.args.count c.args.first c.loop-i.i (held c.args.slots.now) are c.loop-i-test.true))) ∙ c.if-not-is_term.true)),
)

pub loop-i-preserved : goal.loop-i-preserved
loop-i-preserved c =
    terms_more c.loop-i.i c.args.first (held c.args.slots.now) c.loop-i.invariant
    (subst IsTermWord c.term.ensures (c.is_term.ensures.0 c.if-not-is_term.false))
