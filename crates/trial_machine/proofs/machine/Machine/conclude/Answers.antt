use Rattle.std.proofs.Common.{subst}
use Rattle.trial_machine.specs.Running.{CameTo}
use Rattle.trial_machine.specs.Deciding.{Settles}
use Rattle.trial_machine.proofs.Concluding.{fails, waits, nowhere, not_settled, bound_open, commits}
use Rattle.trial_machine.proofs.machine.Machine.conclude.Goals as goal

pub settle-requires : goal.settle-requires
settle-requires g c =
    bound_open g.met.W.Words.laws c.args.self.now c.requires.ended.0 c.args.words.now
    (subst (CameTo c.args.self.now c.requires.ended.0) c.in-Commits.is c.requires.ended.1) c.requires.stored c.once.ensures.binds
    c.once.ensures.kept

pub returns-then-self-clause-concludes : goal.returns-then-self-clause-concludes
returns-then-self-clause-concludes g c f came =
    fails c.args.self.now f (subst (CameTo c.args.self.now f) c.in-Leaves.is came) c.if-self.true

pub returns-else-self-clause-concludes : goal.returns-else-self-clause-concludes
returns-else-self-clause-concludes g c f came =
    waits c.args.self.now f (subst (CameTo c.args.self.now f) c.in-Leaves.is came) c.if-self.false c.once.ensures.kept

pub returns-then-settle-clause-concludes : goal.returns-then-settle-clause-concludes
returns-then-settle-clause-concludes g c f came =
    commits g.met.W.Words.laws c.args.self.now c.settle.new.self f c.args.words.now
    (subst (CameTo c.args.self.now f) c.in-Commits.is came) c.requires.stored c.once.ensures.binds c.once.ensures.kept
    (subst (Settles c.args.self.now c.settle.new.self) c.if-settle.true c.settle.ensures.settles) c.settle.ensures.trail
    c.settle.ensures.clause c.settle.ensures.few

pub returns-else-settle-clause-concludes : goal.returns-else-settle-clause-concludes
returns-else-settle-clause-concludes g c f came =
    not_settled c.args.self.now c.settle.new.self f (subst (CameTo c.args.self.now f) c.in-Commits.is came)
    (subst (Settles c.args.self.now c.settle.new.self) c.if-settle.false c.settle.ensures.settles) c.settle.ensures.trail

pub returns-in-Nowhere-clause-concludes : goal.returns-in-Nowhere-clause-concludes
returns-in-Nowhere-clause-concludes g c f came = nowhere c.args.self.now f (subst (CameTo c.args.self.now f) c.in-Nowhere.is came)
