use Rattle.std.proofs.Common.{◌∙◌, ap}
use Rattle.std.proofs.lemmas.Result.{IfOk-weaker}
use Rattle.trace_graph.specs.Graph.{Parts}
use Rattle.trace_graph.proofs.graph.Graph.keys.Goals as goal

pub returns : goal.returns
returns c =
    let same = c.items.ensures ∙ ap (λ (g : Parts). g.nodes) c.self.view_is in
    IfOk-weaker c.keys_of.result _ _ (λ keys is. is ∙ same) c.keys_of.ensures
