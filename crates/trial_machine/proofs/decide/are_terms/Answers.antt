use Rattle.std.proofs.Common.{◌≡◌, true, false, true≢false, sym, ◌∙◌}
use Rattle.std.proofs.lemmas.Option.{slice_get-get_or}
use Rattle.trial_machine.proofs.BoundTerms.{no_terms_yet, one_term_more, all_terms, one_no_term}
use Rattle.trial_machine.proofs.decide.are_terms.Goals as goal

pub loop-bind-init : goal.loop-bind-init
loop-bind-init c = no_terms_yet c.args.binds.now

pub returns-then-not-is_term-clause-one : goal.returns-then-not-is_term-clause-one
returns-then-not-is_term-clause-one c f =
    one_no_term c.args.binds.now c.loop-bind.bind-index _ c.requires
    (slice_get-get_or c.args.binds.now c.loop-bind.bind-index (0, 0) c.loop-bind-test.true)
    (λ t. true≢false (sym (c.is_term.ensures.1 t) ∙ c.if-not-is_term.true))

pub loop-bind-preserved : goal.loop-bind-preserved
loop-bind-preserved c =
    one_term_more c.args.binds.now c.loop-bind.bind-index _ c.loop-bind.invariant
    (slice_get-get_or c.args.binds.now c.loop-bind.bind-index (0, 0) c.loop-bind-test.true)
    (c.is_term.ensures.0 c.if-not-is_term.false)

pub returns-clause-all : goal.returns-clause-all
returns-clause-all c f =
    all_terms c.args.binds.now c.loop-bind.bind-index c.loop-bind.invariant c.loop-bind-test.false
