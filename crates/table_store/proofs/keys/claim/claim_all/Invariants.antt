use Rattle.std.proofs.Common.{◌≡◌, ◌+◌, ◌++◌, take, drop, length}
use Rattle.sql_model.specs.Changes.{clash_after, numbered_rows}
use Rattle.table_store.specs.NewKeys.{new_in, AreBelow, AreNewKeys}
use Rattle.table_store.specs.Histories.{rows_now}
use Rattle.table_store.proofs.keys.claim.claim_all.Given as goal

abbrev pub invariant-loop-count : goal.invariant-loop-count
invariant-loop-count l = record {
  keys : AreNewKeys l.places l.next (rows_now l.stored.slots) (take l.count l.values) (new_in l.keys);
  below : AreBelow l.keys (length l.values);
  clash : clash_after l.places (rows_now l.stored.slots ++ numbered_rows l.next (take l.count l.values)) (numbered_rows (l.next + l.count) (drop l.count l.values)) ≡ clash_after l.places (rows_now l.stored.slots) (numbered_rows l.next l.values);
}
