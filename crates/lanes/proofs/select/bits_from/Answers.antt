use Rattle.std.proofs.Common.{arith, w64}
use mir.Val.{to_z, of_z}
use Rattle.lanes.specs.Selection.{passes}
use Rattle.lanes.proofs.MaskLaws.{mask_below, byte_of_test}
use Rattle.lanes.proofs.select.bits_from.Goals as goal

pub overflow_mul-word : goal.overflow_mul-word
overflow_mul-word c = record { fits = omega (arith, mask_below (passes c.args.op (to_z w64 (of_z w64 c.args.constant))) c.args.part.now c.places.place 63 (omega arith), c.places.invariant.word) }

pub overflow_add-word : goal.overflow_add-word
overflow_add-word c = record { fits = omega (arith, mask_below (passes c.args.op (to_z w64 (of_z w64 c.args.constant))) c.args.part.now c.places.place 63 (omega arith), c.places.invariant.word, c.from.ensures, byte_of_test c.compares.result) }
