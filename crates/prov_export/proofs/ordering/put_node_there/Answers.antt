use Rattle.std.proofs.Common.{◌∙◌, ap, List, ℕ}
use Rattle.std.proofs.lemmas.Result.{on_ok_weaker}
use Rattle.serde_json.specs.Data.{put}
use Rattle.prov_export.specs.Document.{place_value}
use Rattle.prov_export.specs.inner.Texts.{members_by}
use Rattle.prov_export.proofs.ordering.put_node_there.Goals as goal

pub returns : goal.returns
returns c =
    on_ok_weaker c.put_place.result
    (λ is. is place_value
    ∙ ap (λ (id : List ℕ). put id (place_value c.args.place) (members_by place_value c.args.entries.now.entries)) c.in_ok-id.ensures)
    c.put_place.ensures
