-- The due output of `prov`: the document of a package's graph, and the nodes that a path depends on by a
-- document.
use Rattle.std.specs.Prelude.{ℕ, List, Option, Some, None, if◌then◌else◌}
use Rattle.run_model.specs.declared.package.Package.{Package}
use Rattle.trace_graph.specs.Graph.{Parts, graph_of}
use Rattle.prov_export.specs.Dependence.{depends_report}
use Rattle.prov_export.specs.Document.{prov_text}
use Rattle.prov_export.specs.Reading.{prov_reading}
use Rattle.ldv_top.specs.declared.exit.Exit.TheVariants.{TooLong, NotProv}
use Rattle.ldv_top.specs.DueOfReports.{item_due}
use Rattle.ldv_top.specs.DueParts.{DueOutput, due_bytes, due_refusal, due_of_package, is_too_long}

-- of a package of either kind
abbrev pub prov_due : Package → DueOutput
prov_due p = due_bytes (prov_text (graph_of p.events))

abbrev pub due_prov : List ℕ → DueOutput
due_prov input = due_of_package prov_due input

-- of a document
abbrev pub prov_depends_due : List ℕ → Option Parts → DueOutput
prov_depends_due path None = due_refusal NotProv
prov_depends_due path (Some graph) = item_due (depends_report graph path)

abbrev pub due_prov_depends : List ℕ → List ℕ → DueOutput
due_prov_depends path input =
    if is_too_long input then due_refusal TooLong else prov_depends_due path (prov_reading input)
