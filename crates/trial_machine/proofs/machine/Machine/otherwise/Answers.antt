use Rattle.std.proofs.Common.{ℕ, suc, refl, sym, subst, false}
use Rattle.steady_tries.specs.Steady.{IsSteady}
use Rattle.steady_tries.proofs.Slots.{otherwise_steady}
use Rattle.steady_tries.proofs.Leaving.{not_otherwise_steady}
use Rattle.steady_tries.proofs.Unifying.{all_noted}
use Rattle.trial_machine.specs.Machines.{at_machine, course}
use Rattle.trial_machine.proofs.Ways.{on_way, left_resting}
use Rattle.trial_machine.proofs.machine.Machine.otherwise.Goals as goal

pub returns-then-self-clause-turns : goal.returns-then-self-clause-turns
returns-then-self-clause-turns g c f at h o =
    on_way f (suc at) _ c.args.self.now.desk.slots.args (at_machine c.args.self.now) refl refl h.on_course
    (subst (λ (n : ℕ). IsSteady (course f c.args.self.now) c.args.self.now.trail.kept (suc at) n (at_machine c.args.self.now))
    (sym c.count-self.ensures)
    (otherwise_steady (course f c.args.self.now) c.args.self.now.trail.kept at c.args.self.now.base (at_machine c.args.self.now)
    h.on_course h.steady o c.if-self.true)) h.known

pub returns-clause-turns : goal.returns-clause-turns
returns-clause-turns g c f at h o =
    left_resting f c.args.self.now.desk.next c.args.self.now c.leave.new.self false c.in_ok-leave.ensures.left
    c.in_ok-leave.ensures.safe c.leave.ensures.keeps h.on_course
    (all_noted (course f c.args.self.now) c.args.self.now.trail.kept at c.args.self.now.base (at_machine c.args.self.now)
    h.on_course h.steady c.args.self.now.trail.reads.items c.leave.new.self.waits h.steady.safe.read_open
    c.in_ok-leave.ensures.left.noted)
    (λ safe. not_otherwise_steady (course f c.args.self.now) c.args.self.now.trail.kept at c.args.self.now.base
    (at_machine c.args.self.now) h.on_course h.steady c.leave.new.self.waits o c.if-self.false c.in_ok-leave.ensures.left.noted safe)
