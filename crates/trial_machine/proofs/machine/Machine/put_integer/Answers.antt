use Rattle.std.proofs.Common.{◌≡◌, ℤ, rules, subst, w64, to_z, of_z, to_z-of_z}
use Rattle.fcp_model.specs.Terms.{number}
use Rattle.try_desk.specs.Constants.{TakesConstant}
use Rattle.trial_machine.proofs.Putting.{constant_put}
use Rattle.trial_machine.proofs.machine.Machine.put_integer.Goals as goal

pub returns-clause-steps : goal.returns-clause-steps
returns-clause-steps c =
    let same : to_z w64 (of_z w64 c.args.value) ≡ c.args.value = to_z-of_z {w = w64} {z = c.args.value} (search rules) in
    constant_put c.args.self.now c.put_integer.new.self c.args.slot (number c.args.value)
    (subst (λ (z : ℤ). TakesConstant c.args.self.now.desk c.put_integer.new.self c.args.slot (number z)) same
    c.in_ok-put_integer.ensures.takes) c.put_integer.ensures.keeps
