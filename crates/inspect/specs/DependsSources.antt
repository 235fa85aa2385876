-- The meaning of `inspect depends`: information may have got from these nodes to the path.
use Rattle.std.specs.Prelude.{◌≡◌, ℕ, List, Some}
use Rattle.inspect.specs.Types.{Event, Node}
use Rattle.trace_graph.specs.Graph.{graph_of, place_of}
use Rattle.reach.specs.Reach.{AreSources}
use Rattle.inspect.specs.DependsReports.{nodes_report, depends_report}

-- The text lists nodes of the graph of the events: exactly those from which a path of one or more edges leads
-- to the node of the path, on which a time can be chosen within the interval of each edge so that the times
-- never fall and the last is no later than the given one. They are in the order of the report, each once.
pub record ListsSources (events : List Event) (time : ℕ) (path text : List ℕ) : Type 0 where
  pub place : ℕ
  pub found : place_of (graph_of events) path ≡ Some place
  pub nodes : List Node
  pub sources : AreSources (graph_of events) place time nodes
  pub told : text ≡ nodes_report events nodes

-- every report does
abbrev pub SourcesLaw : Type 0
SourcesLaw = (events : List Event) (time : ℕ) (path text : List ℕ)
    → depends_report events time path ≡ Some text → ListsSources events time path text
