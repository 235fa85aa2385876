use Rattle.std.proofs.Common.{◌≡◌, ◌++◌, map, length}
use Rattle.sql_model.specs.Changes.{plain_value}
use Rattle.dml_versions.specs.inner.Making.{ArePlain}
use Rattle.dml_versions.proofs.rows.plain_values.Given as goal

abbrev pub invariant-loop-left : goal.invariant-loop-left
invariant-loop-left l = record {
  plain : ArePlain l.left;
  values : l.values ++ map plain_value l.left ≡ map plain_value l.exprs;
}

abbrev pub decreases-loop-left : goal.decreases-loop-left
decreases-loop-left l = length l.left
