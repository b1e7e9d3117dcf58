use Rattle.std.proofs.Common.{[]}
use Rattle.trial_machine.proofs.Loading.{loads_on}
use Rattle.trial_machine.proofs.machine.Machine.decide.Goals as goal

pub returns-then-procedure-lt-TRUE_PROCEDURE-clause-loaded : goal.returns-then-procedure-lt-TRUE_PROCEDURE-clause-loaded
returns-then-procedure-lt-TRUE_PROCEDURE-clause-loaded g c =
    loads_on g.met.W.Words.laws [] c.load_call.new.self.trail.kept c.decide_call.new.self.trail.kept c.args.words.now c.load_call.new.words
    c.decide_call.new.words c.load_call.ensures.between c.decide_call.ensures.between c.in_ok-procedure.ensures.loaded
    c.in_ok-decided.ensures.loaded

pub returns-then-procedure-2-clause-loaded : goal.returns-then-procedure-2-clause-loaded
returns-then-procedure-2-clause-loaded g c =
    loads_on g.met.W.Words.laws [] c.load_call.new.self.trail.kept c.decide_unification.new.self.trail.kept c.args.words.now
    c.load_call.new.words
    c.decide_unification.new.words c.load_call.ensures.between c.decide_unification.ensures.between c.in_ok-procedure.ensures.loaded
    c.in_ok-decided-3.ensures.loaded

pub returns-clause-loaded : goal.returns-clause-loaded
returns-clause-loaded g c =
    loads_on g.met.W.Words.laws [] c.load_call.new.self.trail.kept c.decide_assignment.new.self.trail.kept c.args.words.now
    c.load_call.new.words
    c.decide_assignment.new.words c.load_call.ensures.between c.decide_assignment.ensures.between c.in_ok-procedure.ensures.loaded
    c.in_ok-decided-4.ensures.loaded
