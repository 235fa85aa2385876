use Rattle.std.proofs.Common.{◌≡◌, ◌++◌, map, length}
use Rattle.std.specs.List.{AllByRecursion}
use Rattle.sql_model.specs.Changes.{plain_value}
use Rattle.dml_versions.specs.inner.Making.{ArePlain}
use Rattle.dml_versions.proofs.rows.plain_rows.Given as goal

abbrev pub invariant-loop-left : goal.invariant-loop-left
invariant-loop-left l = record {
  plain : AllByRecursion ArePlain l.left;
  made : l.made ++ map (map plain_value) l.left ≡ map (map plain_value) l.rows;
}

abbrev pub decreases-loop-left : goal.decreases-loop-left
decreases-loop-left l = length l.left
