use Rattle.std.proofs.Common.{◌≡◌, map, take}
use Rattle.dml_versions.specs.inner.Making.{place_set}
use Rattle.dml_versions.proofs.updates.sources_set.Given as goal

abbrev pub invariant-loop-column : goal.invariant-loop-column
invariant-loop-column l = l.sources.items ≡ map (place_set l.sets) (take l.column-index l.columns)
