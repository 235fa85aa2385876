-- The keys so far are those of the first places.
use Rattle.std.proofs.Common.{◌≡◌, map}
use Rattle.trace_graph.specs.Lent.{node_of}
use Rattle.reach.specs.Lent.{lent_node}
use Rattle.reach.specs.inner.Marks.{marked_below}
use Rattle.reach.proofs.found.marked_keys.Given as goal

abbrev pub invariant-loop-place : goal.invariant-loop-place
invariant-loop-place l = map lent_node l.keys.items ≡ marked_below (map node_of l.nodes) l.marks l.place
