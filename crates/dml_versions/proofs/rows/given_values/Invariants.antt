use Rattle.std.proofs.Common.{◌≡◌, map, take}
use Rattle.dml_versions.specs.inner.Making.{value_from}
use Rattle.dml_versions.proofs.rows.given_values.Given as goal

abbrev pub invariant-loop-source : goal.invariant-loop-source
invariant-loop-source l = l.values ≡ map (value_from l.exprs) (take l.source-index l.sources)
