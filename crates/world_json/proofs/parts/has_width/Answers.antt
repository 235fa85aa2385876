use Rattle.std.proofs.Common.{◌==◌, length, List, Bool, ap, ◌∙◌}
use Rattle.std.specs.List.{list_all}
use Rattle.ldv_value.specs.declared.value.Value.{Value}
use Rattle.world_json.proofs.Numbering.{all_values}
use Rattle.world_json.proofs.parts.has_width.Goals as goal

pub returns : goal.returns
returns c =
    let test : List Value → Bool = λ row. length row == c.args.width in
    c.have_width.ensures ∙ all_values test c.items.result.now ∙ ap (list_all test) c.items.ensures
