-- The search after the edges that are left is the search after all edges.
use Rattle.std.proofs.Common.{◌≡◌, drop, length}
use Rattle.std.specs.List.Sorted.{IsPermutation}
use Rattle.std.specs.BinaryHeap.{heap_items}
use Rattle.reach.specs.inner.Search.{times_with_sources, queue_after_edges}
use Rattle.reach.proofs.search.Search.look_at_all.Given as goal

abbrev pub invariant-loop-edge : goal.invariant-loop-edge
invariant-loop-edge l = record {
  long : length l.self.latest.items ≡ length l.fn.self.latest.items;
  latest : times_with_sources l.self.latest.items (drop l.edge-index l.edges) l.time ≡ times_with_sources l.fn.self.latest.items l.edges l.time;
  queue : IsPermutation (queue_after_edges l.fn.self.latest.items l.edges l.time (heap_items l.fn.self.queue))
      (queue_after_edges l.self.latest.items (drop l.edge-index l.edges) l.time (heap_items l.self.queue));
}
