-- Rows through time in the order of their numbers.
use Rattle.std.specs.Prelude.{ℕ, ◌<◌, List, length, slice_index_or}
use Rattle.table_store.specs.Histories.{RowHistory, no_history}

-- numbers are strictly increasing and below the next one
pub record AreInOrder (slots : List RowHistory) (next : ℕ) : Type 0 where
  pub rising : (i j : ℕ) → i < j → j < length slots
      → (slice_index_or slots i no_history).number < (slice_index_or slots j no_history).number
  pub below : (i : ℕ) → i < length slots → (slice_index_or slots i no_history).number < next
