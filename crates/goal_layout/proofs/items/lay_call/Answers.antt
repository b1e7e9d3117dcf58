use Rattle.std.proofs.Common.{◌+◌, [], ◌∷◌, length}
use Rattle.std.proofs.lemmas.Option.{IfSome_then}
use Rattle.goal_layout.proofs.Listing.{none_if, none_then}
use Rattle.goal_layout.proofs.Calling.{arg_misses, calling_step, call_misses, call_laid}
use Rattle.goal_layout.proofs.items.lay_call.Goals as goal

pub returns-in_err-word-clause-none : goal.returns-in_err-word-clause-none
returns-in_err-word-clause-none c =
    none_if _ _ (arg_misses c.args.args.now c.loop-place.place c.args.words.now c.loop-place.words c.loop-place.found _
    c.loop-place-test.true
    c.index-args-place.is c.loop-place.invariant ((4 + length c.args.args.now) ∷ []) c.in_err-word.ensures.none)

pub loop-place-preserved : goal.loop-place-preserved
loop-place-preserved c =
    calling_step c.args.args.now c.loop-place.place c.args.words.now c.loop-place.words c.loop-place.found _ c.loop-place-test.true
    c.index-args-place.is c.loop-place.invariant c.lay_term.new.words c.in_ok-word.word c.requires.numbered c.requires.few
    c.in_ok-word.ensures.laid

pub returns-clause-none : goal.returns-clause-none
returns-clause-none c =
    none_then c.lay_process.result _ _
    (call_misses c.args.args.now c.loop-place.place c.args.words.now c.loop-place.words c.loop-place.found
    c.loop-place-test.false c.requires.few c.loop-place.invariant) c.lay_process.ensures.none

pub returns-clause-laid : goal.returns-clause-laid
returns-clause-laid c vars over =
    IfSome_then c.lay_process.result c.lay_process.ensures.laid (λ p h. call_laid c.args.args.now c.loop-place.place c.args.words.now
    c.loop-place.words c.loop-place.found c.loop-place-test.false c.requires.few c.loop-place.invariant c.lay_process.new.words
    c.args.number
    c.args.procedure p c.ranges.number.fits c.ranges.procedure.fits h vars over)
