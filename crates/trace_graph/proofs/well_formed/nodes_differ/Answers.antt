use Rattle.std.proofs.Common.{◌∙◌, ap, not}
use Rattle.trace_graph.proofs.Repeats.{nodes_repeat}
use Rattle.trace_graph.proofs.well_formed.nodes_differ.Goals as goal

pub returns : goal.returns
returns c = ap not (c.in_ok-twice.ensures ∙ nodes_repeat c.in_ok-keys.keys.items c.args.nodes.now c.in_ok-keys.ensures)
