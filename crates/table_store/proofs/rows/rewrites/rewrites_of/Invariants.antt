use Rattle.std.proofs.Common.{◌≡◌, ◌++◌, map}
use Rattle.table_store.specs.inner.RowChanges.{row_given, AreInSlots, AllHaveSlots}
use Rattle.table_store.proofs.rows.rewrites.rewrites_of.Given as goal

abbrev pub invariant-loop-row : goal.invariant-loop-row
invariant-loop-row l = record {
  rows : map row_given l.made.items ++ l.row-iterator.rest.items ≡ l.fn.rows;
  slots : AreInSlots l.grid.slots l.made.items;
  there : AllHaveSlots l.grid.slots l.row-iterator.rest.items;
}
