use Rattle.std.proofs.Common.{◌≡◌, ◌++◌, drop, map}
use Rattle.dml_versions.specs.inner.Needing.{need_found}
use Rattle.dml_versions.proofs.needs.all_needs_of.Given as goal

abbrev pub invariant-loop-row : goal.invariant-loop-row
invariant-loop-row l = l.needs ++ map (need_found l.name) (drop l.row-index l.row-items) ≡ map (need_found l.name) l.found
