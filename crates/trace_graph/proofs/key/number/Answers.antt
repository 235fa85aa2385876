use Rattle.std.proofs.Common.{◌∙◌, ap, map}
use Rattle.trace_graph.specs.Lent.{node_of}
use Rattle.trace_graph.proofs.KeyLaws.{numbered, key_place}
use Rattle.trace_graph.proofs.key.number.Goals as goal

pub returns-clause-nodes : goal.returns-clause-nodes
returns-clause-nodes c = ap (map node_of) c.in_ok-place.ensures.keys ∙ numbered c.args.keys.now.keys c.args.key

pub returns-clause-place : goal.returns-clause-place
returns-clause-place c = c.in_ok-place.ensures.index ∙ key_place c.args.keys.now.keys c.args.key
