use Rattle.std.proofs.Common.{◌+◌, ◌*◌, ◌^◌, ◌≤◌, List, ◌++◌, length}
use Rattle.query_eval.specs.StoredSources.{AreStored}
use Rattle.query_eval.specs.declared.source.Source.{Source}
use Rattle.query_eval.proofs.sources.sources_of.Given as goal

abbrev pub invariant-sources : goal.invariant-sources
invariant-sources l = record {
  few : l.before + length l.left * 2 ^ 64 ≤ length l.fn.from * 2 ^ 64;
  stored : (rest : List Source) → AreStored l.store l.conds l.left l.before rest → AreStored l.store l.conds l.fn.from 0 (l.sources ++ rest);
}

abbrev pub decreases-sources : goal.decreases-sources
decreases-sources l = length l.left
