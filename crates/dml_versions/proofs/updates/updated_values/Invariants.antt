use Rattle.std.proofs.Common.{◌≡◌, ◌++◌, List, length}
use Rattle.sql_model.specs.Scope.{InScope}
use Rattle.dml_versions.specs.inner.Making.{AreSetsPlaced, value_by_set, values_by_set}
use Rattle.std.specs.Prelude.{map, zip}
use Rattle.dml_versions.proofs.updates.updated_values.Given as goal

abbrev pub invariant-cells : goal.invariant-cells
invariant-cells l = (scope : List InScope) → AreSetsPlaced scope l.sets l.placed
    → l.made ++ map (value_by_set scope l.sets l.values) (zip l.left l.right) ≡ values_by_set scope l.sets l.fn.sources l.values

abbrev pub decreases-cells : goal.decreases-cells
decreases-cells l = length l.left
