use Rattle.std.proofs.KnownBytes.{Consumes-trans}
use Rattle.ldv_io.proofs.whole.read_all.Goals as goal

pub returns-then-count-limit-clause-rest : goal.returns-then-count-limit-clause-rest
returns-then-count-limit-clause-rest g c = (_, Consumes-trans _ _ _ _ _ c.loop-count.invariant.read c.in-Ok.ensures.bytes.0)

pub returns-then-is_err-clause-rest : goal.returns-then-is_err-clause-rest
returns-then-is_err-clause-rest g c = (_, Consumes-trans _ _ _ _ _ c.loop-count.invariant.read c.in-Ok.ensures.bytes.0)
