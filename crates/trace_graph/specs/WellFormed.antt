-- Well-formed graphs are read back from their documents. The traces of valid packages have such graphs.
use Rattle.std.specs.Prelude.{ℕ, ◌≤◌, List, length, Bool, true, not, ◌&&◌, ◌==◌, nat_le, IsTrue}
use Rattle.std.specs.List.{list_all, AllByRecursion}
use Rattle.ldv_value.specs.Limits.{max_steps}
use Rattle.ldv_value.specs.Names.{path_test}
use Rattle.sql_model.specs.Keys.{repeats}
use Rattle.sql_model.specs.SqlNames.{sql_name_test}
use Rattle.run_model.specs.ValidTrace.{ValidTrace}
use Rattle.trace_graph.specs.Types.{Event, Node, Path, Process, Row, Ask, Reply, Edge}
use Rattle.trace_graph.specs.Graph.{Parts, same_node, graph_of, are_between}

-- a path meets the rule for paths, and a row's table that for names
abbrev pub node_rule : Node → Bool
node_rule (Path path) = path_test path
node_rule (Process process) = true
node_rule (Row member) = sql_name_test member.table
node_rule (Ask statement) = true
node_rule (Reply statement) = true

-- the places that an edge is between
abbrev pub places_of : Edge → ℕ × ℕ
places_of e = (e.source, e.target)

-- from the same place to the same place
abbrev pub same_places : Edge → Edge → Bool
same_places a b = a.source == b.source && a.target == b.target

-- the first time is at most the last, which is a step that a run may have
abbrev pub times_rule : Edge → Bool
times_rule e = nat_le e.first e.last && nat_le e.last max_steps

-- nodes differ and meet their rules, edges are between places of nodes, no two of them between the same
-- places, and their times rise
abbrev pub is_well_formed : Parts → Bool
is_well_formed graph =
    not (repeats same_node graph.nodes) && (list_all node_rule graph.nodes
    && (are_between (length graph.nodes) graph.edges
    && (not (repeats same_places graph.edges) && list_all times_rule graph.edges)))

abbrev pub IsWellFormed : Parts → Type 0
IsWellFormed graph = IsTrue (is_well_formed graph)

-- the graph of a valid trace, whose steps a run may have
abbrev pub WellFormedLaw : Type 0
WellFormedLaw = (path : List ℕ) (steps : ℕ) (events : List Event) → IsTrue (path_test path)
    → ValidTrace path steps events → steps ≤ max_steps → IsWellFormed (graph_of events)

-- its edges end by the last step of the run
abbrev pub EndLaw : Type 0
EndLaw = (path : List ℕ) (steps : ℕ) (events : List Event) → IsTrue (path_test path)
    → ValidTrace path steps events → AllByRecursion (λ (e : Edge). e.last ≤ steps) (graph_of events).edges
