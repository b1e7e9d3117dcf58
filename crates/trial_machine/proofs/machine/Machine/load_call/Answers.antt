use Rattle.std.proofs.Common.{[], subst}
use Rattle.trial_machine.specs.Stores.{Loads}
use Rattle.trial_machine.proofs.Loading.{loads_on}
use Rattle.trial_machine.proofs.machine.Machine.load_call.Goals as goal

pub returns-in_default-2-clause-loaded : goal.returns-in_default-2-clause-loaded
returns-in_default-2-clause-loaded g c =
    loads_on g.met.W.Words.laws [] c.load_number.new.trail.kept c.load_number-2.new.trail.kept c.args.words.now c.load_number.new.words
    c.load_number-2.new.words c.load_number.ensures.between c.load_number-2.ensures.between
    (subst (λ k. Loads g.W.Words.addresses g.W.Words.sound g.W.Words.had g.W.Words.shown g.W.Words.later g.W.Words.gave k c.args.words.now
    c.load_number.new.trail.kept c.load_number.new.words) c.clear.ensures.kept c.in_ok-procedure.ensures.loaded)
    c.in_ok-count.ensures.loaded

pub returns-clause-loaded : goal.returns-clause-loaded
returns-clause-loaded g c =
    loads_on g.met.W.Words.laws [] c.load_number.new.trail.kept c.load_number-2.new.trail.kept c.args.words.now c.load_number.new.words
    c.load_number-2.new.words c.load_number.ensures.between c.load_number-2.ensures.between
    (subst (λ k. Loads g.W.Words.addresses g.W.Words.sound g.W.Words.had g.W.Words.shown g.W.Words.later g.W.Words.gave k c.args.words.now
    c.load_number.new.trail.kept c.load_number.new.words) c.clear.ensures.kept c.in_ok-procedure.ensures.loaded)
    c.in_ok-count.ensures.loaded
