use Rattle.trace_graph.proofs.GraphFacts.{nodes_law, edges_law, intervals_law}
use Rattle.trace_graph.proofs.VersionFacts.{versions_law, made_law}
use Rattle.trace_graph.proofs.law.graph_law.Goals as goal

pub returns-clause-nodes : goal.returns-clause-nodes
returns-clause-nodes c = nodes_law

pub returns-clause-edges : goal.returns-clause-edges
returns-clause-edges c = edges_law

pub returns-clause-intervals : goal.returns-clause-intervals
returns-clause-intervals c = intervals_law

pub returns-clause-versions : goal.returns-clause-versions
returns-clause-versions c = versions_law

pub returns-clause-made : goal.returns-clause-made
returns-clause-made c = made_law
