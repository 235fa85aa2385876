use Rattle.std.proofs.Common.{◌≡◌, ◌<◌, ℕ, drop, true}
use Rattle.sql_engine.specs.inner.Answering.{merges_later}
use Rattle.sql_engine.proofs.cores.count_merged.Given as goal

abbrev pub invariant-loop-core : goal.invariant-loop-core
invariant-loop-core l = (l.place ≡ l.core-index)
    × ((place : ℕ) → place < l.count → merges_later (drop place l.cores) ≡ true)
