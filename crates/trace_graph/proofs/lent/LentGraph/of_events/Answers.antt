use Rattle.std.proofs.Common.{◌≡◌, ◌∙◌, subst, IfOk}
use Rattle.std.proofs.lemmas.Result.{IfOk-weaker}
use Rattle.trace_graph.specs.Graph.{Parts}
use Rattle.trace_graph.specs.Lent.{lent_parts}
use Rattle.trace_graph.proofs.TraceLaws.{trace_fits}
use Rattle.trace_graph.proofs.TextLaws.{each_held}
use Rattle.trace_graph.proofs.GraphLaw.{built}
use Rattle.trace_graph.proofs.LentLaws.{lent_between}
use Rattle.trace_graph.proofs.lent.LentGraph.of_events.Goals as goal

pub lent_graph_in-requires-clause-fits : goal.lent_graph_in-requires-clause-fits
lent_graph_in-requires-clause-fits c = trace_fits c.args.events c.requires.trace

pub lent_graph_in-requires-clause-held : goal.lent_graph_in-requires-clause-held
lent_graph_in-requires-clause-held c = each_held c.args.texts.now.held.keys c.args.events c.requires.texts

pub returns-clause-graph : goal.returns-clause-graph
returns-clause-graph c =
    subst (λ (p : Parts). IfOk c.lent_graph_in.result (λ graph. lent_parts graph ≡ p)) (built c.args.events) c.lent_graph_in.ensures

pub returns-clause-between : goal.returns-clause-between
returns-clause-between c =
    IfOk-weaker c.lent_graph_in.result _ _ (λ graph same. lent_between graph c.args.events (same ∙ built c.args.events)) c.lent_graph_in.ensures
