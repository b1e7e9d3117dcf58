use Rattle.std.proofs.Common.{◌≡◌, ℤ, Some, arith, rules, sym, subst, ◌∙◌, w64, to_z, of_z, to_z-of_z}
use Rattle.fcp_model.specs.Terms.{number}
use Rattle.fcp_model.specs.declared.goal.TheConstants.{ASSIGN_PROCEDURE}
use Rattle.heap_words.specs.Trails.{WordList, word_at}
use Rattle.machine_code.specs.Instructions.{PutWord}
use Rattle.trial_machine.specs.Goals.{ArgumentsRead}
use Rattle.trial_machine.specs.Machines.{StepsOn}
use Rattle.trial_machine.specs.Running.{IsLast}
use Rattle.trial_machine.proofs.Assignments.{assign_frame, assign_begun, assign_decided}
use Rattle.trial_machine.proofs.BuiltIns.{has_some}
use Rattle.trial_machine.proofs.Loading.{loads_after}
use Rattle.trial_machine.proofs.machine.Machine.assign.Goals as goal

pub load_arguments-requires-clause-counted : goal.load_arguments-requires-clause-counted
load_arguments-requires-clause-counted g c =
    has_some c.args.self.now.trail.kept c.args.process 2 ASSIGN_PROCEDURE 1 c.requires.call (omega arith)

pub unify_last-requires-clause-last : goal.unify_last-requires-clause-last
unify_last-requires-clause-last g c =
    let same : to_z w64 (of_z w64 c.args.value) ≡ c.args.value = to_z-of_z {w = w64} {z = c.args.value} (search rules) in (
      assign_frame c.args.value c.args.process,
      2,
      assign_begun g.met.W.Words.laws c.args.self.now.trail.kept c.load_arguments.new.self c.begin_try.new.self c.put_integer.new.self
          c.load_arguments.new.words c.args.process 2 c.args.value c.in_ok-load_arguments.ensures.loaded.stored
          c.requires.call c.in_ok-load_arguments.ensures.loaded.grows
          (subst (ArgumentsRead c.load_arguments.new.self c.args.process 1) c.if-not-branch.false
          c.in_ok-load_arguments.ensures.arguments) c.in_ok-begin_try.ensures.begins
          (subst (λ (z : ℤ). StepsOn c.begin_try.new.self c.put_integer.new.self (PutWord 1 (number z))) same
          c.in_ok-put_integer.ensures.steps) (c.put_integer.ensures.keeps.next ∙ c.in_ok-begin_try.ensures.next),
    )

pub returns-clause-loaded : goal.returns-clause-loaded
returns-clause-loaded g c =
    loads_after g.met.W.Words.laws c.args.self.now.trail.kept c.load_arguments.new.self.trail.kept c.put_integer.new.self.trail.kept
    c.unify_last.new.self.trail.kept c.args.words.now c.load_arguments.new.words c.unify_last.new.words c.load_arguments.ensures.between
    c.unify_last.ensures.between (c.put_integer.ensures.kept ∙ c.begin_try.ensures.kept) c.in_ok-load_arguments.ensures.loaded
    c.in_ok-decided.ensures.loaded

pub returns-clause-decides : goal.returns-clause-decides
returns-clause-decides g c =
    let same : to_z w64 (of_z w64 c.args.value) ≡ c.args.value = to_z-of_z {w = w64} {z = c.args.value} (search rules) in
    let last : IsLast (assign_frame c.args.value c.args.process) 2 c.put_integer.new.self =
    assign_begun g.met.W.Words.laws c.args.self.now.trail.kept c.load_arguments.new.self c.begin_try.new.self c.put_integer.new.self
    c.load_arguments.new.words c.args.process 2 c.args.value c.in_ok-load_arguments.ensures.loaded.stored
    c.requires.call c.in_ok-load_arguments.ensures.loaded.grows
    (subst (ArgumentsRead c.load_arguments.new.self c.args.process 1) c.if-not-branch.false
    c.in_ok-load_arguments.ensures.arguments) c.in_ok-begin_try.ensures.begins
    (subst (λ (z : ℤ). StepsOn c.begin_try.new.self c.put_integer.new.self (PutWord 1 (number z))) same
    c.in_ok-put_integer.ensures.steps) (c.put_integer.ensures.keeps.next ∙ c.in_ok-begin_try.ensures.next) in
    assign_decided c.args.self.now.trail.kept c.args.process 2 c.args.value c.requires.says.0 c.put_integer.new.self
    c.unify_last.new.self c.in_ok-decided.decided c.requires.call c.requires.says.1
    (λ a x e. subst (λ (k : WordList). word_at k a ≡ Some x) (sym (c.put_integer.ensures.kept ∙ c.begin_try.ensures.kept))
    (c.in_ok-load_arguments.ensures.loaded.grows a x e))
    (c.in_ok-decided.ensures.concludes (assign_frame c.args.value c.args.process) 2 last)
