use Rattle.std.proofs.Common.{◌≡◌, take}
use Rattle.table_store.specs.inner.ChildPairs.{first_number, is_child_in}
use Rattle.table_store.specs.Histories.{rows_now}
use Rattle.table_store.proofs.references.child_rows.first_by_each.Given as goal

abbrev pub invariant-loop-place : goal.invariant-loop-place
invariant-loop-place l = l.first ≡ first_number (is_child_in l.given l.target l.keys.keys (take l.place l.table.schema.foreign)) (rows_now l.table.slots)
