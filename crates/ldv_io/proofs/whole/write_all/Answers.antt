use Rattle.std.proofs.Common.{subst, arith}
use Rattle.std.proofs.KnownBytes.{Appends-trans}
use Rattle.std.specs.Io.KnownBytes.{Appends}
use Rattle.ldv_io.proofs.Pieces.{more_taken}
use Rattle.ldv_io.proofs.whole.write_all.Goals as goal

pub loop-at-preserved : goal.loop-at-preserved
loop-at-preserved g c = record {
  taken = subst (Appends _ _) (more_taken _ _ _) (Appends-trans _ _ _ _ _ c.loop-at.invariant.taken c.in-Ok.ensures.bytes);
  within = omega (arith, c.in-Ok.ensures.bound);
  later = omega (arith, c.loop-at.invariant.later, c.write.ensures.cause.later);
}
