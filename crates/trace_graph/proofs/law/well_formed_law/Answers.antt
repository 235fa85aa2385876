use Rattle.trace_graph.proofs.WellFormedTraces as traces
use Rattle.trace_graph.proofs.law.well_formed_law.Goals as goal

pub returns-clause-formed : goal.returns-clause-formed
returns-clause-formed c = traces.well_formed_law

pub returns-clause-end : goal.returns-clause-end
returns-clause-end c = traces.end_law
