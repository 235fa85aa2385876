use Rattle.std.proofs.Common.{◌≡◌, ℕ, ◌+◌, ◌/◌, ◌&&◌, length, get_or}
use Rattle.std.specs.List.{list_all}
use Rattle.lanes.specs.Sets.{member}
use Rattle.table_store.specs.CellTests.{AllFitColumns, slot_tested}
use Rattle.table_store.specs.Histories.{no_history}
use Rattle.table_store.proofs.chosen.keep_passing.Given as goal

abbrev pub invariant-tests : goal.invariant-tests
invariant-tests l = record {
  fit : AllFitColumns l.table.schema.columns l.left;
  long : length l.words ≡ (length l.table.slots + 63) / 64;
  scanned : length l.scanned ≡ length l.words;
  members : (n : ℕ) → (member l.words n && list_all (λ test. slot_tested test (get_or l.table.slots n no_history)) l.left)
      ≡ (member l.fn.words n && list_all (λ test. slot_tested test (get_or l.table.slots n no_history)) l.tests);
}

abbrev pub decreases-tests : goal.decreases-tests
decreases-tests l = length l.left
