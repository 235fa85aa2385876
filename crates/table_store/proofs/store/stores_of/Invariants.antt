use Rattle.std.proofs.Common.{◌≡◌, ◌++◌, map, true}
use Rattle.std.specs.List.{list_all}
use Rattle.sql_model.specs.Tables.{is_valid_table}
use Rattle.table_store.specs.TableView.{history_at_start}
use Rattle.table_store.proofs.store.stores_of.Given as goal

abbrev pub invariant-loop-table : goal.invariant-loop-table
invariant-loop-table l = record {
  made : map history_at_start l.fn.tables ≡ l.stores.items ++ map history_at_start l.table-iterator.rest.items;
  valid : list_all is_valid_table l.table-iterator.rest.items ≡ true;
}
