use Rattle.std.proofs.Common.{◌≡◌, ◌+◌, ◌≤◌, ◌<◌, ℕ, true, length, vec_len, ◌++◌, map}
use Rattle.std.specs.Prelude.{slice_index_or, vec_capacity}
use Rattle.column_store.specs.Columns.{no_cells, kinds_of}
use Rattle.table_store.specs.inner.Grid.{IsGrid, slots_of, new_slot, are_of_kinds, AreNumberedFrom, next_after}
use Rattle.table_store.proofs.rows.push.push_rows.Given as goal

abbrev pub invariant-loop-row : goal.invariant-loop-row
invariant-loop-row l = record {
  grid : IsGrid l.numbers.items l.since.items l.standing.items l.columns.items l.next;
  slots : slots_of l.numbers.items l.since.items l.standing.items l.columns.items ++ map (new_slot l.time) l.row-iterator.rest.items ≡ slots_of l.fn.numbers.items l.fn.since.items l.fn.standing.items l.fn.columns.items ++ map (new_slot l.time) l.fn.rows;
  kinds : kinds_of l.columns.items ≡ kinds_of l.fn.columns.items;
  width : length l.columns.items ≡ length l.fn.columns.items;
  numbered : AreNumberedFrom l.next l.row-iterator.rest.items;
  after : next_after l.next l.row-iterator.rest.items ≡ next_after l.first l.fn.rows;
  fits : are_of_kinds (kinds_of l.columns.items) l.row-iterator.rest.items ≡ true;
  numbers_room : vec_len l.numbers + length l.row-iterator.rest.items ≤ vec_capacity l.numbers;
  since_room : vec_len l.since + length l.row-iterator.rest.items ≤ vec_capacity l.since;
  standing_room : length l.row-iterator.rest.items ≤ l.standing.spare;
  cells_room : (k : ℕ) → k < length l.fn.columns.items → length l.row-iterator.rest.items ≤ (slice_index_or l.columns.items k no_cells).spare;
}
