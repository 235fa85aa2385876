use Rattle.std.proofs.Common.{◌≡◌, ◌++◌, List, map, drop}
use Rattle.sql_model.specs.Changes.{updated_row}
use Rattle.sql_model.specs.Scope.{InScope}
use Rattle.dml_versions.specs.inner.Finding.{row_of}
use Rattle.dml_versions.specs.inner.Making.{AreSetsPlaced}
use Rattle.dml_versions.proofs.updates.updated_rows.Given as goal

abbrev pub invariant-loop-row : goal.invariant-loop-row
invariant-loop-row l = (scope : List InScope) → AreSetsPlaced scope l.update.sets l.placed
    → l.made ++ map (updated_row scope l.update l.columns) (map row_of (drop l.row-index l.row-items)) ≡ map (updated_row scope l.update l.columns) (map row_of l.found)
