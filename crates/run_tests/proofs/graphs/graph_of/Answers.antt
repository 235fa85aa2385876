use Rattle.ldv_top.proofs.Traces.{valid_trace}
use Rattle.run_tests.proofs.graphs.graph_of.Goals as goal

pub of_events-requires : goal.of_events-requires
of_events-requires c = valid_trace c.args.«package».now c.requires
