use Rattle.std.proofs.Common.{◌≡◌, Some, arith, sym, subst}
use Rattle.fcp_model.specs.declared.goal.TheConstants.{UNIFY_PROCEDURE}
use Rattle.heap_words.specs.Trails.{WordList, word_at}
use Rattle.trial_machine.specs.Goals.{ArgumentsRead}
use Rattle.trial_machine.proofs.BuiltIns.{unify_frame, unify_begun, unify_decided, has_some}
use Rattle.trial_machine.proofs.Calling.{calls_on}
use Rattle.trial_machine.proofs.Loading.{loads_after}
use Rattle.trial_machine.proofs.machine.Machine.decide_unification.Goals as goal

pub load_arguments-requires-clause-counted : goal.load_arguments-requires-clause-counted
load_arguments-requires-clause-counted g c =
    has_some c.args.self.now.trail.kept c.args.process c.args.count UNIFY_PROCEDURE 2 c.requires.call (omega (arith, c.if-count-ne2.false))

pub unify_last-requires-clause-last : goal.unify_last-requires-clause-last
unify_last-requires-clause-last g c = (
  unify_frame c.args.process,
  1,
  unify_begun g.met.W.Words.laws c.args.self.now.trail.kept c.load_arguments.new.self c.begin_try.new.self c.load_arguments.new.words
      c.args.process c.args.count c.in_ok-load_arguments.ensures.loaded.stored c.requires.call
      c.in_ok-load_arguments.ensures.loaded.grows (subst (ArgumentsRead c.load_arguments.new.self c.args.process 2)
      c.if-not-branch.false c.in_ok-load_arguments.ensures.arguments) c.in_ok-begin_try.ensures.begins c.in_ok-begin_try.ensures.next,
)

pub returns-clause-loaded : goal.returns-clause-loaded
returns-clause-loaded g c =
    loads_after g.met.W.Words.laws c.args.self.now.trail.kept c.load_arguments.new.self.trail.kept c.begin_try.new.self.trail.kept
    c.unify_last.new.self.trail.kept c.args.words.now c.load_arguments.new.words c.unify_last.new.words c.load_arguments.ensures.between
    c.unify_last.ensures.between c.begin_try.ensures.kept c.in_ok-load_arguments.ensures.loaded c.in_ok-decided.ensures.loaded

pub returns-clause-decides : goal.returns-clause-decides
returns-clause-decides g c =
    unify_decided c.args.process c.args.count c.begin_try.new.self c.unify_last.new.self c.in_ok-decided.decided
    (calls_on c.args.self.now.trail.kept c.begin_try.new.self.trail.kept c.args.process UNIFY_PROCEDURE c.args.count
    (λ a x e. subst (λ (k : WordList). word_at k a ≡ Some x) (sym c.begin_try.ensures.kept)
    (c.in_ok-load_arguments.ensures.loaded.grows a x e)) c.requires.call)
    (c.in_ok-decided.ensures.concludes (unify_frame c.args.process) 1
    (unify_begun g.met.W.Words.laws c.args.self.now.trail.kept c.load_arguments.new.self c.begin_try.new.self c.load_arguments.new.words
    c.args.process c.args.count c.in_ok-load_arguments.ensures.loaded.stored c.requires.call
    c.in_ok-load_arguments.ensures.loaded.grows (subst (ArgumentsRead c.load_arguments.new.self c.args.process 2)
    c.if-not-branch.false c.in_ok-load_arguments.ensures.arguments) c.in_ok-begin_try.ensures.begins c.in_ok-begin_try.ensures.next))
