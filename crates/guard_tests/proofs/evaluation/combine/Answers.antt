use Rattle.std.proofs.Common.{w64, rules}
use Rattle.std.proofs.lemmas.Int.{to_z-of_z}
use mir.Val.{SFits}
use Rattle.guard_tests.proofs.Evaluating.{combined}
use Rattle.guard_tests.proofs.evaluation.combine.Goals as goal

pub returns : goal.returns
returns c =
    let right : SFits w64 c.in-Some.right = search rules in
    let left : SFits w64 c.in-Some-pop.left = search rules in
    combined c.args.op c.args.operands.now.items c.pop.new.self.items c.pop-2.new.self.items c.in-Some.right c.in-Some-pop.left _
    c.in-Some.ensures.items c.in-Some-pop.ensures.items (simp to_z-of_z at c.compute.ensures)
