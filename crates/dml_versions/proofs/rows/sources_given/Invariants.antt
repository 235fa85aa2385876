use Rattle.std.proofs.Common.{◌≡◌, map, take}
use Rattle.dml_versions.specs.inner.Making.{place_given}
use Rattle.dml_versions.proofs.rows.sources_given.Given as goal

abbrev pub invariant-loop-column : goal.invariant-loop-column
invariant-loop-column l = l.sources.items ≡ map (place_given l.names) (take l.column-index l.columns)
