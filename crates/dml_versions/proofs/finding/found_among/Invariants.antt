use Rattle.std.proofs.Common.{◌≡◌, ◌++◌, ◌-◌, ◌*◌, length}
use Rattle.dml_versions.specs.inner.Finding.{test_in, found_from}
use Rattle.dml_versions.proofs.finding.found_among.Given as goal

abbrev pub invariant-slots : goal.invariant-slots
invariant-slots l = l.found ++ found_from (test_in l.table l.pick) l.table.slots l.at ≡ found_from (test_in l.table l.pick) l.table.slots 0

abbrev pub decreases-slots : goal.decreases-slots
decreases-slots l = 64 * length l.words - l.at
