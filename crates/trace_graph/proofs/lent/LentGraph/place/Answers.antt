use Rattle.std.proofs.Common.{◌∙◌, ◌<◌, sym, ap, subst, List, length}
use Rattle.std.specs.Prelude.{position, IfSome}
use Rattle.trace_graph.specs.Types.{Path}
use Rattle.trace_graph.specs.Graph.{same_node}
use Rattle.trace_graph.specs.Lent.{names_path}
use Rattle.trace_graph.specs.declared.key.NodeKey.{NodeKey}
use Rattle.trace_graph.proofs.LentLaws.{place_same}
use Rattle.trace_graph.proofs.lent.LentGraph.place.Goals as goal

pub returns-clause-place : goal.returns-clause-place
returns-clause-place c =
    c.path_place.ensures.place ∙ ap (position (names_path c.args.path.now)) c.as_slice.ensures.value
    ∙ sym (place_same (same_node (Path c.args.path.now)) c.args.self.now.nodes.items)

pub returns-clause-within : goal.returns-clause-within
returns-clause-within c =
    subst (λ (keys : List NodeKey). IfSome c.path_place.result (λ place. place < length keys)) c.as_slice.ensures.value
    c.path_place.ensures.within
