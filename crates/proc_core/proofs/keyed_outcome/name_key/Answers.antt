use Rattle.std.proofs.Common.{◌<◌, arith}
use Rattle.proc_core.proofs.NameKeys.{product_fits, digits_fit}
use Rattle.proc_core.proofs.keyed_outcome.name_key.Goals as goal

pub overflow_mul-key : goal.overflow_mul-key
overflow_mul-key c =
    let low : c.loop-digit._digit < 16 = omega (arith, c.loop-digit-test.true) in
    record { fits = omega (arith, product_fits c.loop-digit._digit c.loop-digit.key low c.loop-digit.invariant.small) }

pub overflow_add-key : goal.overflow_add-key
overflow_add-key c =
    let low : c.loop-digit._digit < 16 = omega (arith, c.loop-digit-test.true) in
    record { fits = omega (arith, digits_fit c.loop-digit._digit c.loop-digit.key c.digit_of.result low c.loop-digit.invariant.small c.digit_of.ensures.small) }
