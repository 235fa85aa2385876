use Rattle.std.proofs.Common.{◌≡◌, ◌≤◌, ◌<◌, ℕ, length, vec_len}
use Rattle.std.specs.Prelude.{slice_index_or}
use Rattle.column_store.specs.Columns.{no_cells}
use Rattle.column_store.proofs.columns.reserve_cells.Given as goal

abbrev pub invariant-loop-place : goal.invariant-loop-place
invariant-loop-place l = record {
  count : vec_len l.columns ≡ vec_len l.fn.columns;
  cells : (k : ℕ) → k < length l.fn.columns.items → (slice_index_or l.columns.items k no_cells).items ≡ (slice_index_or l.fn.columns.items k no_cells).items;
  kinds : (k : ℕ) → k < length l.fn.columns.items → (slice_index_or l.columns.items k no_cells).text ≡ (slice_index_or l.fn.columns.items k no_cells).text;
  spare : (k : ℕ) → k < length l.fn.columns.items → (slice_index_or l.fn.columns.items k no_cells).spare ≤ (slice_index_or l.columns.items k no_cells).spare;
  room : (k : ℕ) → k < l.place → l.more ≤ (slice_index_or l.columns.items k no_cells).spare;
}
