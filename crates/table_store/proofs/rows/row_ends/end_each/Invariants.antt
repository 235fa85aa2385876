use Rattle.std.proofs.Common.{◌≡◌, ◌≤◌, map, length, drop}
use Rattle.table_store.specs.Histories.{changed_by}
use Rattle.table_store.specs.inner.Past.{past, end_in}
use Rattle.table_store.specs.inner.RowHistories.{AreKept, histories_of}
use Rattle.table_store.specs.inner.RowChanges.{changes_given, removal, RiseFrom, AllOpen}
use Rattle.table_store.proofs.rows.row_ends.end_each.Given as goal

abbrev pub invariant-loop-number : goal.invariant-loop-number
invariant-loop-number l = record {
  kept : AreKept (λ k. past l.log.versions k) (λ k. end_in l.log.ends k) l.grid.slots;
  apart : RiseFrom 0 (map removal (drop l.number-index l.numbers));
  ready : AllOpen (λ k. past l.log.versions k) (λ k. end_in l.log.ends k) l.grid.slots (drop l.number-index l.numbers);
  covered : length l.grid.slots ≤ length l.log.ends;
  seen : map (changed_by (changes_given l.time (map removal (drop l.number-index l.numbers)))) (histories_of (λ k. past l.log.versions k) (λ k. end_in l.log.ends k) l.grid.slots)
      ≡ map (changed_by (changes_given l.time (map removal l.numbers))) (histories_of (λ k. past l.initial.log.versions k) (λ k. end_in l.initial.log.ends k) l.initial.grid.slots);
  kinds : l.grid.kinds ≡ l.initial.grid.kinds;
  next : l.grid.next ≡ l.initial.grid.next;
}
