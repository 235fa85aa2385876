-- The state of the search is valid, and each turn takes a place out of the queue.
use Rattle.std.proofs.Common.{◌≡◌, [], length}
use Rattle.std.specs.BinaryHeap.{heap_items}
use Rattle.reach.specs.inner.Search.{IsSearch, IsWithin, work_left}
use Rattle.reach.proofs.latest.latest_times.Given as goal

abbrev pub invariant-loop-by : goal.invariant-loop-by
invariant-loop-by l = record {
  long : length l.search.latest.items ≡ l.count;
  within : IsWithin l.count (heap_items l.search.queue);
  stands : IsSearch l.edges l.node l.time l.search.latest.items (heap_items l.search.queue) [] 0;
}

abbrev pub decreases-loop-by : goal.decreases-loop-by
decreases-loop-by l = work_left l.search.latest.items (heap_items l.search.queue)
