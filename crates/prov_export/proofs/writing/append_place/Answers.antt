use Rattle.std.proofs.Common.{◌∙◌, ap, ◌++◌}
use Rattle.std.proofs.lemmas.Result.{on_ok_weaker}
use Rattle.serde_json.specs.Data.{Data}
use Rattle.serde_json.specs.Written.{compact_text, has_float}
use Rattle.prov_export.proofs.writing.append_place.Goals as goal

pub returns : goal.returns
returns c =
    on_ok_weaker c.append_value.result
    (λ text. text (ap has_float c.in_ok-value.ensures)
    ∙ ap (λ (d : Data). c.args.to.now ++ compact_text d) c.in_ok-value.ensures)
    c.append_value.ensures
