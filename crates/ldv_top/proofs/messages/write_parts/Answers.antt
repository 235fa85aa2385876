use Rattle.std.proofs.Common.{◌∷◌}
use Rattle.std.specs.Fmt.{decimal}
use Rattle.ldv_top.proofs.WriteLemmas.{writes_more, writes_some}
use Rattle.ldv_top.proofs.messages.write_parts.Goals as goal

pub loop-part-preserved : goal.loop-part-preserved
loop-part-preserved g c =
    writes_more (λ part. 46 ∷ decimal part) c.args.parts.now c.loop-part.part-index 0 c.loop-part-test.true c.loop-part.invariant c.in-Ok.ensures

pub returns-in-Err : goal.returns-in-Err
returns-in-Err g c =
    writes_some (λ part. 46 ∷ decimal part) c.args.parts.now c.loop-part.part-index 0 c.loop-part-test.true c.loop-part.invariant c.in-Err.ensures
