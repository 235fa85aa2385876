use Rattle.std.proofs.Common.{◌≡◌, ◌++◌, map}
use Rattle.trace_graph.specs.inner.Building.{edge_at}
use Rattle.trace_graph.proofs.span.edges_of.Given as goal

abbrev pub invariant-loop-ends : goal.invariant-loop-ends
invariant-loop-ends l = l.edges ++ map edge_at l.ends-iterator ≡ map edge_at l.fn.spans.entries
