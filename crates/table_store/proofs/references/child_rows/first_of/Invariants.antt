use Rattle.std.proofs.Common.{◌≡◌}
use Rattle.table_store.specs.inner.ChildPairs.{first_number, is_child_of, lower_of}
use Rattle.table_store.specs.Histories.{rows_now}
use Rattle.table_store.proofs.references.child_rows.first_of.Given as goal

abbrev pub invariant-loop-key : goal.invariant-loop-key
invariant-loop-key l =
    lower_of l.first (first_number (is_child_of l.given l.foreign l.key-iterator) (rows_now l.table.slots))
    ≡ first_number (is_child_of l.given l.foreign l.keys.keys) (rows_now l.table.slots)
