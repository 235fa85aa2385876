-- The report on the nodes that a path depends on, from the document of a graph, in the lines of the report on
-- a package. A document has no names of processes, so their creation numbers name them.
use Rattle.std.specs.Prelude.{ℕ, List, Option, option_map}
use Rattle.std.specs.List.{flat_map}
use Rattle.std.specs.Fmt.{decimal}
use Rattle.ldv_value.specs.Limits.{max_steps}
use Rattle.trace_graph.specs.Graph.{Parts, place_of}
use Rattle.reach.specs.Depends.{depends_of}
use Rattle.trace_graph.specs.NodeLines.{node_line}
use Rattle.prov_export.specs.Types.{Node}

abbrev pub nodes_report : List Node → List ℕ
nodes_report nodes = flat_map (node_line decimal) nodes

-- by the last step that any run may have
abbrev pub depends_at : Parts → ℕ → List ℕ
depends_at graph place = nodes_report (depends_of graph place max_steps)

-- of a path; none where it is no node
abbrev pub depends_report : Parts → List ℕ → Option (List ℕ)
depends_report graph path = option_map (depends_at graph) (place_of graph path)
