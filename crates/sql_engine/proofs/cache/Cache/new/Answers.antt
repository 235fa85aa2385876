use Rattle.std.proofs.Common.{subst, sym, arith}
use Rattle.sql_engine.specs.inner.Keeping.{AreKept}
use Rattle.sql_engine.proofs.cache.Cache.new.Goals as goal

pub returns : goal.returns
returns c = λ catalog. subst (AreKept catalog) (sym c.new.ensures.items) (record { each = tt; few = omega arith })
