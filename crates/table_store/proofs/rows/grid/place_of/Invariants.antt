use Rattle.std.proofs.Common.{◌≤◌, ◌<◌, ◌-◌, ℕ, length}
use Rattle.std.specs.Prelude.{slice_index}
use Rattle.table_store.proofs.rows.grid.place_of.Given as goal

abbrev pub invariant-halves : goal.invariant-halves
invariant-halves l = record {
  order : l.low ≤ l.high;
  within : l.high ≤ length l.numbers;
  before : (k : ℕ) → k < l.low → slice_index l.numbers k < l.number;
  after : (k : ℕ) → l.high ≤ k → k < length l.numbers → l.number ≤ slice_index l.numbers k;
}

abbrev pub decreases-halves : goal.decreases-halves
decreases-halves l = l.high - l.low
