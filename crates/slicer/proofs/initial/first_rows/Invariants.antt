use Rattle.std.proofs.Common.{◌≡◌, ◌||◌, List, ℕ, drop}
use Rattle.std.specs.List.{list_any}
use Rattle.trace_graph.specs.declared.node.Node.TheVariants.{Row}
use Rattle.trace_graph.specs.Graph.{same_node}
use Rattle.slicer.specs.InitialRows.{at_first}
use Rattle.slicer.specs.inner.Rows.{has_row}
use Rattle.slicer.proofs.initial.first_rows.Given as goal

abbrev pub invariant-loop-node : goal.invariant-loop-node
invariant-loop-node l = (table : List ℕ) (row : ℕ) → (has_row l.rows table row || list_any (same_node (Row (at_first table row))) (drop l.node-index l.nodes)) ≡ list_any (same_node (Row (at_first table row))) l.nodes
