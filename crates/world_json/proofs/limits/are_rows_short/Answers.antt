use Rattle.std.proofs.Common.{List, Bool, ap, ◌∙◌}
use Rattle.std.specs.List.{list_all}
use Rattle.ldv_value.specs.declared.value.Value.{Value}
use Rattle.sql_model.specs.Tables.{is_short}
use Rattle.world_json.proofs.Numbering.{all_values}
use Rattle.world_json.proofs.limits.are_rows_short.Goals as goal

pub returns : goal.returns
returns c =
    let test : List Value → Bool = list_all is_short in
    c.is_each_short.ensures ∙ all_values test c.items.result.now ∙ ap (list_all test) c.items.ensures
