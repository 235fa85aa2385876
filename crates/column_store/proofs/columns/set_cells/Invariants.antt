use Rattle.std.proofs.Common.{◌≡◌, ◌≤◌, ◌<◌, ℕ, length, vec_len}
use Rattle.std.specs.Prelude.{slice_index_or, slice_set}
use Rattle.column_store.specs.Types.{Null}
use Rattle.column_store.specs.Columns.{no_cells}
use Rattle.column_store.proofs.columns.set_cells.Given as goal

abbrev pub invariant-loop-place : goal.invariant-loop-place
invariant-loop-place l = record {
  count : vec_len l.columns ≡ vec_len l.fn.columns;
  done : (k : ℕ) → k < l.place → (slice_index_or l.columns.items k no_cells).items ≡ slice_set (slice_index_or l.fn.columns.items k no_cells).items l.slot (slice_index_or l.fn.values k Null);
  kinds : (k : ℕ) → k < l.place → (slice_index_or l.columns.items k no_cells).text ≡ (slice_index_or l.fn.columns.items k no_cells).text;
  rest : (k : ℕ) → l.place ≤ k → slice_index_or l.columns.items k no_cells ≡ slice_index_or l.fn.columns.items k no_cells;
  left : (k : ℕ) → l.place ≤ k → slice_index_or l.left.items k Null ≡ slice_index_or l.fn.values k Null;
  left_count : vec_len l.left ≡ length l.fn.values;
}
