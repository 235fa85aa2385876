use Rattle.std.proofs.Common.{◌≡◌, ◌+◌, take}
use Rattle.sql_model.specs.Changes.{numbered_rows}
use Rattle.table_store.specs.inner.Judging.{AreGiven}
use Rattle.table_store.proofs.keys.given.new_numbers.Given as goal

abbrev pub invariant-loop-row : goal.invariant-loop-row
invariant-loop-row l = record {
  given : AreGiven l.given l.key (numbered_rows l.next (take l.row-index l.rows));
  number : l.number ≡ l.next + l.row-index;
}
