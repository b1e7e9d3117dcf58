use Rattle.ro_unify.specs.Occurs.{stack}
use Rattle.guard_tests.proofs.Comparing.{are_alike}
use Rattle.guard_tests.proofs.equality.compare.Goals as goal

pub returns-then-branch-clause-leaves : goal.returns-then-branch-clause-leaves
returns-then-branch-clause-leaves g c m i =
    are_alike m c.args.left c.args.right c.in-Solid.one c.in-Solid-right.other (stack c.args.work.now.items)
    (stack c.push_alike.new.work.items) _ c.in-Solid.is c.in-Solid-right.is (c.in_ok-push_alike-in-Solid-right.ensures.work m i)
    c.if-branch.true
