-- The edges from a place on, all of which were looked at, are chained.
use Rattle.std.proofs.Common.{◌≡◌, ◌≤◌, length}
use Rattle.reach.specs.inner.Incoming.{AreChains}
use Rattle.reach.proofs.incoming.incoming_edges.Given as goal

abbrev pub invariant-loop-at : goal.invariant-loop-at
invariant-loop-at l = record {
  within : l.at ≤ length l.edges;
  firsts : length l.firsts.items ≡ l.count;
  nexts : length l.nexts.items ≡ length l.edges;
  chains : AreChains l.edges l.nexts.items l.at l.firsts.items;
}

abbrev pub decreases-loop-at : goal.decreases-loop-at
decreases-loop-at l = l.at
