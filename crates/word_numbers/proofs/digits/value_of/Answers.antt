use Rattle.std.proofs.Common.{arith}
use Rattle.word_numbers.proofs.DecimalValues.{front-below}
use Rattle.word_numbers.proofs.digits.value_of.Goals as goal

pub overflow_mul-value : goal.overflow_mul-value
overflow_mul-value c =
    let below = front-below c.args.digits.now c.loop-byte.byte-index c.requires.digits c.requires.few c.loop-byte-test.true in
    omega (arith, below, c.loop-byte.invariant)

pub overflow_add-value : goal.overflow_add-value
overflow_add-value c =
    let below = front-below c.args.digits.now c.loop-byte.byte-index c.requires.digits c.requires.few c.loop-byte-test.true in
    omega (arith, below, c.loop-byte.invariant)
