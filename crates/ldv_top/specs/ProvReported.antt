-- The law of `prov depends` on documents of `prov`.
use Rattle.std.specs.Prelude.{◌≡◌, ◌≤◌, ℕ, List, length, Option, option_map}
use Rattle.ldv_value.specs.Limits.{input_limit}
use Rattle.run_model.specs.declared.package.Package.{Package}
use Rattle.package_layout.specs.Valid.{IsValidPackage}
use Rattle.package_layout.specs.Whole.{IsTyped}
use Rattle.trace_graph.specs.Graph.{graph_of, place_of}
use Rattle.trace_graph.specs.declared.node.Node.{Node}
use Rattle.reach.specs.Depends.{depends_of}
use Rattle.inspect.specs.DependsReports.{nodes_report as named_report}
use Rattle.prov_export.specs.Dependence.{nodes_report as numbered_report}
use Rattle.prov_export.specs.Document.{prov_text}
use Rattle.ldv_top.specs.DueParts.{DueOutput}
use Rattle.ldv_top.specs.DueOfProv.{due_prov_depends}
use Rattle.ldv_top.specs.DueOfReports.{item_due}

-- the bytes are the document of a valid package, and no longer than an input may be
pub record IsDocumentOf (p : Package) (bytes : List ℕ) : Type 0 where
  pub typed : IsTyped p
  pub valid : IsValidPackage p
  pub short : length bytes ≤ input_limit
  pub same : bytes ≡ prov_text (graph_of p.events)

-- the nodes that a path depends on by the end of the recorded run, in order; none where the path is no node
abbrev pub sources_of : Package → List ℕ → Option (List Node)
sources_of p path =
    option_map (λ place. depends_of (graph_of p.events) place p.steps) (place_of (graph_of p.events) path)

-- as the report on the package lists them, by the names of processes
abbrev pub due_by_names : Package → List ℕ → DueOutput
due_by_names p path = item_due (option_map (named_report p.events) (sources_of p path))

-- as a document has them, by the creation numbers of processes
abbrev pub due_by_numbers : Package → List ℕ → DueOutput
due_by_numbers p path = item_due (option_map numbered_report (sources_of p path))

-- what is due for a document and a path names the nodes that the report on the package names, in the same
-- order
abbrev pub DocumentLaw : Type 0
DocumentLaw = (p : Package) (path input : List ℕ) → IsDocumentOf p input
    → due_prov_depends path input ≡ due_by_numbers p path
