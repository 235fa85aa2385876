use Rattle.std.proofs.Common.{◌≡◌, ◌++◌, ◌+◌, drop, map}
use Rattle.sql_model.specs.Changes.{numbered_rows}
use Rattle.dml_versions.specs.inner.Needing.{inserted_member}
use Rattle.dml_versions.proofs.needs.inserted_members.Given as goal

abbrev pub invariant-loop-values : goal.invariant-loop-values
invariant-loop-values l = record {
  made : l.made ++ map (inserted_member l.name) (numbered_rows l.row (drop l._values-index l._values-items)) ≡ map (inserted_member l.name) (numbered_rows l.next l.rows);
  row : l.row ≡ l.next + l._values-index;
}
