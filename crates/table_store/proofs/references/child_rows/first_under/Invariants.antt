use Rattle.std.proofs.Common.{◌-◌, ◌^◌}
use Rattle.table_store.specs.inner.ChildPairs.{is_child}
use Rattle.table_store.specs.inner.ChildSteps.{AreFrom}
use Rattle.table_store.specs.Histories.{rows_now}
use Rattle.table_store.proofs.references.child_rows.first_under.Given as goal

abbrev pub invariant-numbers : goal.invariant-numbers
invariant-numbers l = AreFrom (is_child l.given l.foreign l.key.values) (rows_now l.table.slots) l.from

abbrev pub decreases-numbers : goal.decreases-numbers
decreases-numbers l = 2 ^ 32 - l.from
