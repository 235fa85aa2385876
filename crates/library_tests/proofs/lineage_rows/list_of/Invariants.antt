use Rattle.lineage.specs.Lineage.{IsNamed}
use Rattle.library_tests.proofs.lineage_rows.list_of.Given as goal

abbrev pub invariant-loop-entry : goal.invariant-loop-entry
invariant-loop-entry g l = IsNamed l.names l.list
