use Rattle.guard_tests.proofs.Sides.{operand_leads}
use Rattle.guard_tests.proofs.guard.make_test.Goals as goal

pub test_value-requires-clause-leads : goal.test_value-requires-clause-leads
test_value-requires-clause-leads g c =
    rw c.operand_word.ensures (operand_leads g.met.W.Words.laws c.args.words.now c.args.left.now c.requires.sound c.requires.left)

pub is_equal-requires-clause-leads : goal.is_equal-requires-clause-leads
is_equal-requires-clause-leads g c =
    let laws = g.met.W.Words.laws in (
      rw c.operand_word-in-Same.ensures (operand_leads laws c.args.words.now c.args.left.now c.requires.sound c.requires.left),
      rw c.operand_word-in-Same-2.ensures (operand_leads laws c.args.words.now c.args.right.now c.requires.sound c.requires.right),
    )

pub is_equal-requires-in-NotSame-clause-leads : goal.is_equal-requires-in-NotSame-clause-leads
is_equal-requires-in-NotSame-clause-leads g c =
    let laws = g.met.W.Words.laws in (
      rw c.operand_word-in-NotSame.ensures (operand_leads laws c.args.words.now c.args.left.now c.requires.sound c.requires.left),
      rw c.operand_word-in-NotSame-2.ensures (operand_leads laws c.args.words.now c.args.right.now c.requires.sound c.requires.right),
    )
