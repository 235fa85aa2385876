-- The laws of documents.
use Rattle.std.specs.Prelude.{◌≡◌, ℕ, ◌<◌, ◌≤◌, ◌^◌, List, length, Option, Some, option_map, IsTrue}
use Rattle.std.specs.List.{AllByRecursion}
use Rattle.std.specs.Str.{IsUtf8}
use Rattle.ldv_value.specs.Limits.{max_steps, input_limit}
use Rattle.ldv_value.specs.Names.{path_test}
use Rattle.run_model.specs.declared.event.Event.{Event}
use Rattle.run_model.specs.TypedPackage.{TypedEvent}
use Rattle.run_model.specs.ValidTrace.{ValidTrace}
use Rattle.trace_graph.specs.Graph.{Parts, graph_of, place_of}
use Rattle.trace_graph.specs.WellFormed.{IsWellFormed}
use Rattle.reach.specs.Depends.{depends_of}
use Rattle.prov_export.specs.Types.{Node, Path, Process, Row, Ask, Reply}
use Rattle.prov_export.specs.Dependence.{nodes_report, depends_report}
use Rattle.prov_export.specs.Document.{prov_text}
use Rattle.prov_export.specs.Reading.{prov_reading}

-- What every graph in memory meets: texts are UTF-8, and numbers are those of their types. Clauses range over
-- all lists and numbers, so these facts are said here.
abbrev pub TypedNode : Node → Type 0
TypedNode (Path path) = IsUtf8 path
TypedNode (Process process) = process < 2 ^ 32
TypedNode (Row member) = IsUtf8 member.table × ((member.row < 2 ^ 32) × (member.version < 2 ^ 32))
TypedNode (Ask statement) = statement < 2 ^ 32
TypedNode (Reply statement) = statement < 2 ^ 32

pub record IsTypedGraph (graph : Parts) : Type 0 where
  pub nodes_fit : length graph.nodes < 2 ^ 64
  pub edges_fit : length graph.edges < 2 ^ 64
  pub nodes : AllByRecursion TypedNode graph.nodes

-- a well-formed graph is what is read of its document
abbrev pub RoundTripLaw : Type 0
RoundTripLaw = (graph : Parts) → IsTypedGraph graph → IsWellFormed graph
    → prov_reading (prov_text graph) ≡ Some graph

-- nothing else is read as a graph
abbrev pub ReadingLaw : Type 0
ReadingLaw = (bytes : List ℕ) (graph : Parts) → prov_reading bytes ≡ Some graph
    → IsWellFormed graph × (prov_text graph ≡ bytes)

-- two graphs with one document are equal
abbrev pub UniqueLaw : Type 0
UniqueLaw = (g h : Parts) → IsTypedGraph g → IsTypedGraph h → IsWellFormed g → IsWellFormed h
    → prov_text g ≡ prov_text h → g ≡ h

-- What a path depends on by the last step of a run, in the lines of documents.
abbrev pub depends_by : List Event → ℕ → List ℕ → Option (List ℕ)
depends_by events steps path =
    option_map (λ place. nodes_report (depends_of (graph_of events) place steps))
    (place_of (graph_of events) path)

-- The document of a trace's graph is read as it, where it is no longer than an input may be, and says of each
-- path what the path depends on by the last step of the run.
abbrev pub TraceLaw : Type 0
TraceLaw = (start : List ℕ) (steps : ℕ) (events : List Event) → IsTrue (path_test start)
    → ValidTrace start steps events → steps ≤ max_steps → AllByRecursion TypedEvent events
    → length (prov_text (graph_of events)) ≤ input_limit
    → (prov_reading (prov_text (graph_of events)) ≡ Some (graph_of events))
    × ((path : List ℕ) → depends_report (graph_of events) path ≡ depends_by events steps path)
