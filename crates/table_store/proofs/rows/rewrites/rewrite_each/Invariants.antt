use Rattle.std.proofs.Common.{◌≡◌, ◌≤◌, map, length}
use Rattle.table_store.specs.Histories.{changed_by}
use Rattle.table_store.specs.inner.Past.{past, end_in}
use Rattle.table_store.specs.inner.RowHistories.{AreKept, histories_of}
use Rattle.table_store.specs.inner.RowChanges.{changes_given, rewrite_given, RiseFrom, AllFitKinds, AreInSlots, AreReady}
use Rattle.table_store.proofs.rows.rewrites.rewrite_each.Given as goal

abbrev pub invariant-loop-one : goal.invariant-loop-one
invariant-loop-one l = record {
  kept : AreKept (λ k. past l.log.versions k) (λ k. end_in l.log.ends k) l.grid.slots;
  slots : AreInSlots l.grid.slots l.one-iterator.rest.items;
  apart : RiseFrom 0 (map rewrite_given l.one-iterator.rest.items);
  ready : AreReady (λ k. past l.log.versions k) (λ k. end_in l.log.ends k) l.one-iterator.rest.items;
  fits : AllFitKinds l.grid.kinds (map rewrite_given l.one-iterator.rest.items);
  covered : length l.grid.slots ≤ l.log.slots;
  room : length l.one-iterator.rest.items ≤ l.log.spare;
  seen : map (changed_by (changes_given l.time (map rewrite_given l.one-iterator.rest.items))) (histories_of (λ k. past l.log.versions k) (λ k. end_in l.log.ends k) l.grid.slots)
      ≡ map (changed_by (changes_given l.time (map rewrite_given l.fn.given.items))) (histories_of (λ k. past l.initial.log.versions k) (λ k. end_in l.initial.log.ends k) l.initial.grid.slots);
  kinds : l.grid.kinds ≡ l.initial.grid.kinds;
  next : l.grid.next ≡ l.initial.grid.next;
}
