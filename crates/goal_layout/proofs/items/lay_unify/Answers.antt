use Rattle.std.proofs.Common.{◌∷◌, ◌++◌, []}
use Rattle.std.proofs.lemmas.Option.{IfSome_then}
use Rattle.fcp_model.specs.Translation.{term_of}
use Rattle.goal_layout.specs.PieceSizes.{term_sizes}
use Rattle.goal_layout.specs.Pages.{rooms}
use Rattle.goal_layout.proofs.Listing.{none_if, none_then}
use Rattle.goal_layout.proofs.Siding.{first_side_misses, second_side_misses, unify_misses, unify_laid}
use Rattle.goal_layout.proofs.items.lay_unify.Goals as goal

pub returns-in_err-first-clause-none : goal.returns-in_err-first-clause-none
returns-in_err-first-clause-none c =
    none_if _ _ (first_side_misses (rooms c.args.words.now) (term_sizes (term_of c.args.left.now))
    (term_sizes (term_of c.args.right.now) ++ 6 ∷ []) c.in_err-first.ensures.none)

pub returns-in_err-second-clause-none : goal.returns-in_err-second-clause-none
returns-in_err-second-clause-none c =
    none_if _ _ (second_side_misses (rooms c.args.words.now) (rooms c.lay_term.new.words) (term_sizes (term_of c.args.left.now))
    (term_sizes (term_of c.args.right.now) ++ 6 ∷ [])
    (c.in_ok-first.ensures.laid c.requires.numbered.0 c.requires.numbered.1).lays.fits
    (first_side_misses (rooms c.lay_term.new.words) (term_sizes (term_of c.args.right.now)) (6 ∷ []) c.in_err-second.ensures.none))

pub returns-clause-none : goal.returns-clause-none
returns-clause-none c =
    none_then c.lay_process.result _ _
    (unify_misses (term_of c.args.left.now) (term_of c.args.right.now) c.args.words.now c.lay_term.new.words
    c.lay_term-2.new.words c.in_ok-first.first c.in_ok-second.second c.in_ok-first.ensures.laid c.in_ok-second.ensures.laid
    c.requires.numbered.0
    c.requires.numbered.1 c.requires.numbered.2) c.lay_process.ensures.none

pub returns-clause-laid : goal.returns-clause-laid
returns-clause-laid c vars left right =
    IfSome_then c.lay_process.result c.lay_process.ensures.laid (λ p h. unify_laid (term_of c.args.left.now) (term_of c.args.right.now)
    c.args.words.now c.lay_term.new.words c.lay_term-2.new.words c.in_ok-first.first c.in_ok-second.second c.in_ok-first.ensures.laid
    c.in_ok-second.ensures.laid c.lay_process.new.words c.args.number c.args.procedure p c.ranges.number.fits c.ranges.procedure.fits h vars
    left right)
