use Rattle.std.proofs.Common.{◌≡◌, ◌≤◌, ◌*◌, ◌^◌, List, drop, map}
use Rattle.std.specs.Prelude.{filter}
use Rattle.query_eval.specs.inner.Joining.{combos, tests, extensions_left, EachHas}
use Rattle.query_eval.specs.inner.Slots.{combinations_at}
use Rattle.predicates.specs.Placing.{AreAllPlaced}
use Rattle.query_eval.specs.inner.Sources.{source_rows, SourcesAreWide}
use Rattle.sql_model.specs.Scope.{InScope}
use Rattle.query_eval.proofs.joining.join.Given as goal

abbrev pub invariant-loop-source : goal.invariant-loop-source
invariant-loop-source l = record {
  few : l.walk.width ≤ l.source-index * 2 ^ 64;
  slots : l.walk.prefixes.width ≡ l.source-index;
  same : (scope : List InScope) → AreAllPlaced scope l.fn.conds → SourcesAreWide l.sources
      → AreAllPlaced scope l.walk.left
      × EachHas l.walk.width (combinations_at l.sources l.walk.prefixes.rows)
      × SourcesAreWide (drop l.source-index l.sources)
      × (extensions_left scope l.walk.left (combinations_at l.sources l.walk.prefixes.rows) (map source_rows (drop l.source-index l.sources)) ≡ filter (tests scope l.fn.conds) (combos (map source_rows l.sources)));
}
