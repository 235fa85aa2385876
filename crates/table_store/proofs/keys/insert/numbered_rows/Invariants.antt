use Rattle.std.proofs.Common.{◌≡◌, ◌+◌, ◌<◌, ◌++◌, ◌^◌, length}
use Rattle.sql_model.specs.Changes.{numbered_rows}
use Rattle.table_store.proofs.keys.insert.numbered_rows.Given as goal

abbrev pub invariant-loop-values : goal.invariant-loop-values
invariant-loop-values l = record {
  made : numbered_rows l.fn.next l.fn.rows ≡ l.made ++ numbered_rows l.number l.values-iterator.rest.items;
  few : l.number + length l.values-iterator.rest.items < 2 ^ 32;
}
