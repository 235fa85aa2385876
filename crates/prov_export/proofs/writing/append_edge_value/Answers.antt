use Rattle.std.proofs.Common.{◌≡◌, ◌∙◌, ap, ◌++◌}
use Rattle.std.proofs.lemmas.Result.{on_ok_weaker}
use Rattle.serde_json.specs.Data.{Data, object}
use Rattle.serde_json.specs.View.{view}
use Rattle.serde_json.specs.Written.{compact_text, has_float}
use Rattle.prov_export.specs.Document.{edge_value}
use Rattle.prov_export.proofs.NoFloats.{edge_whole}
use Rattle.prov_export.proofs.writing.append_edge_value.Goals as goal

pub returns : goal.returns
returns c =
    let is : view c.object_of-value.result ≡ edge_value c.args.relation c.args.nodes.now c.args.edge.now =
    c.object_of-value.ensures ∙ ap object c.in_ok-members.ensures in
    on_ok_weaker c.append_value.result
    (λ text. text (ap has_float is ∙ edge_whole c.args.relation c.args.nodes.now c.args.edge.now)
    ∙ ap (λ (d : Data). c.args.to.now ++ compact_text d) is)
    c.append_value.ensures
