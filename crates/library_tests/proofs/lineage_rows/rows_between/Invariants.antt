use Rattle.lineage.specs.Lineage.{IsNamed}
use Rattle.library_tests.proofs.lineage_rows.rows_between.Given as goal

abbrev pub invariant-loop-row : goal.invariant-loop-row
invariant-loop-row l = IsNamed l.names l.list
