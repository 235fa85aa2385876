use Rattle.std.proofs.Common.{◌≡◌, ◌++◌, drop, map}
use Rattle.dml_versions.specs.inner.Needing.{number_found}
use Rattle.dml_versions.proofs.needs.numbers_of.Given as goal

abbrev pub invariant-loop-row : goal.invariant-loop-row
invariant-loop-row l = l.numbers ++ map number_found (drop l.row-index l.row-items) ≡ map number_found l.found
