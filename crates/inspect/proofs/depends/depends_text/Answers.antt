use Rattle.std.proofs.Common.{◌≡◌, ◌∙◌, ap, subst, List}
use Rattle.ldv_value.specs.Gives.{Gives}
use Rattle.trace_graph.specs.Graph.{Parts, graph_of}
use Rattle.inspect.specs.Types.{NamedProcess}
use Rattle.inspect.specs.DependsReports.{report_on}
use Rattle.inspect.specs.ProcessNames.{processes_of}
use Rattle.inspect.specs.Stopping.{Stops}
use Rattle.inspect.proofs.depends.depends_text.Goals as goal

pub returns : goal.returns
returns c =
    let steps = c.args.package.steps in
    let named : c.in_ok-processes.processes ≡ processes_of c.args.package.events = c.in_ok-processes.ensures ∙ ap processes_of c.items.ensures in
    subst (λ (processes : List NamedProcess). Gives Stops c.report_on.result (report_on (graph_of c.args.package.events) processes steps c.args.path.now)) named
    (subst (λ (graph : Parts). Gives Stops c.report_on.result (report_on graph c.in_ok-processes.processes steps c.args.path.now))
    c.in_ok-graph.ensures.graph c.report_on.ensures)
