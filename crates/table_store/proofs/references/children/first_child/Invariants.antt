use Rattle.std.proofs.Common.{◌≡◌, None, take}
use Rattle.ldv_value.specs.Options.{first_some}
use Rattle.table_store.specs.inner.Afterwards.{in_set, orphan_in_table}
use Rattle.table_store.specs.Stops.{is_among}
use Rattle.table_store.proofs.references.children.first_child.Given as goal

abbrev pub invariant-loop-table : goal.invariant-loop-table
invariant-loop-table l =
    first_some (orphan_in_table (is_among l.numbers) l.target (in_set l.lost)) (take l.table-index l.tables) ≡ None
