use Rattle.std.proofs.Common.{ℕ, ◌-◌, arith, w64, Bool}
use Rattle.std.specs.Prelude.{ℤ}
use mir.Val.{to_z, of_z}
use Rattle.lanes.specs.Selection.{passes}
use Rattle.lanes.proofs.MaskLaws.{mask_below, mask_eight}
use Rattle.lanes.proofs.select.word_of.Goals as goal

pub overflow_mul-word : goal.overflow_mul-word
overflow_mul-word c = record { fits = omega (arith, mask_below (passes c.args.op (to_z w64 (of_z w64 c.args.constant))) c.args.part.now c.eights.place 56 (omega arith), c.eights.invariant.word) }

pub overflow_add-word : goal.overflow_add-word
overflow_add-word c =
    let test : ℤ → Bool = passes c.args.op (to_z w64 (of_z w64 c.args.constant)) in
    let place : ℕ = c.eights.place - 8 in
    record { fits = omega (arith, mask_below test c.args.part.now place 64 (omega arith), mask_eight test c.args.part.now place c.eights.place (omega arith) (omega arith), c.eights.invariant.word, c.eight_bits.ensures) }

pub eights-preserved : goal.eights-preserved
eights-preserved c =
    let test : ℤ → Bool = passes c.args.op (to_z w64 (of_z w64 c.args.constant)) in
    let place : ℕ = c.eights.place - 8 in
    record {
      whole = omega arith;
      within = omega arith;
      word = omega (arith, mask_eight test c.args.part.now place c.eights.place (omega arith) (omega arith), c.eights.invariant.word, c.eight_bits.ensures);
    }
