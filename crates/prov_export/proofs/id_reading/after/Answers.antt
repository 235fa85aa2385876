use Rattle.std.proofs.Common.{◌≡◌, length, arith}
use Rattle.prov_export.proofs.IdTexts.{after_ended}
use Rattle.prov_export.proofs.id_reading.after.Goals as goal

pub returns-in-empty : goal.returns-in-empty
returns-in-empty c =
    let empty : length c.loop-byte.rest.now ≡ 0 = omega arith in
    after_ended c.args.head.now c.args.text.now c.loop-byte.rest.now c.loop-byte.byte-index c.loop-byte-test.true empty c.loop-byte.invariant
