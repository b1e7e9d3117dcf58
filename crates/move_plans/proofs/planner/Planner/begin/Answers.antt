use Rattle.std.proofs.Common.{[], ap, ◌∙◌, subst}
use Rattle.heap_words.specs.Trails.{WordList, word_at}
use Rattle.trial_machine.specs.Deciding.{handed_over}
use Rattle.trial_machine.specs.Stores.{Loads}
use Rattle.trial_machine.proofs.Loading.{loads_on}
use Rattle.move_plans.proofs.Reading.{are_reads}
use Rattle.move_plans.proofs.Rereading.{decided_more}
use Rattle.move_plans.proofs.planner.Planner.begin.Goals as goal

pub returns-clause-loaded : goal.returns-clause-loaded
returns-clause-loaded g c =
    loads_on g.met.W.Words.laws [] c.trial.new.self.trail.kept c.load_mover.new.trail.kept c.args.words.now c.trial.new.words
    c.load_mover.new.words c.trial.ensures.between c.load_mover.ensures.between c.in_ok-trial.ensures.loaded
    (subst (λ (k : WordList). Loads g.W.Words.addresses g.W.Words.sound g.W.Words.had g.W.Words.shown g.W.Words.later g.W.Words.gave k
    c.trial.new.words c.load_mover.new.trail.kept c.load_mover.new.words) c.undo.ensures.kept c.in_ok-mover.ensures.loaded)

pub returns-clause-reads : goal.returns-clause-reads
returns-clause-reads g c =
    are_reads g.met.W.Words.laws c.load_mover.new.trail.kept c.load_mover.new.words c.in_ok-mover.ensures.loaded.stored c.once.ensures.kept

pub returns-clause-decided : goal.returns-clause-decided
returns-clause-decided g c =
    decided_more c.args.code.now (handed_over c.trial.new.self) c.args.process c.in_ok-trial.trial c.load_mover.new.trail.kept
    (λ a x e. c.in_ok-mover.ensures.loaded.grows a x (ap (λ (k : WordList). word_at k a) c.undo.ensures.kept ∙ e))
    (returns-clause-reads g c) c.in_ok-trial.ensures.decides
