-- The found edges, with the rest of the chain, are the edges to the place.
use Rattle.std.proofs.Common.{◌-◌, length}
use Rattle.reach.specs.inner.Search.{edges_into}
use Rattle.reach.proofs.ChainLaws.{IsLeft}
use Rattle.reach.proofs.incoming.Incoming.edges_to.Given as goal

abbrev pub invariant-loop-at : goal.invariant-loop-at
invariant-loop-at l = IsLeft l.edges l.self.nexts.items l.at l.found.items (edges_into l.edges l.place)

abbrev pub decreases-loop-at : goal.decreases-loop-at
decreases-loop-at l = length l.edges - l.at
