use Rattle.std.proofs.Common.{◌≡◌, ◌+◌, ◌∷◌, drop}
use Rattle.sql_engine.specs.inner.Answering.{IsAsked, AreUnited}
use Rattle.sql_engine.specs.Types.{Query}
use Rattle.sql_engine.proofs.cores.rows_from.Given as goal

abbrev pub invariant-loop-core : goal.invariant-loop-core
invariant-loop-core l = (l.place ≡ l.core-index + 1)
    × ((query : Query) → IsAsked l.checked l.store query
    → AreUnited l.store l.keep (l.first ∷ l.others) (drop l.core-index l.others) l.rows)
