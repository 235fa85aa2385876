use Rattle.std.proofs.Common.{List, Bool, ap, ◌∙◌}
use Rattle.std.specs.List.{list_all}
use Rattle.sql_model.specs.Tables.{each_value}
use Rattle.ldv_value.specs.declared.value.Value.{Value}
use Rattle.world_json.proofs.Numbering.{all_values}
use Rattle.world_json.proofs.kinds.table_passes.Goals as goal

pub returns : goal.returns
returns g c =
    let test : List Value → Bool = each_value g.T.ValueTest.passes c.args.table.now.columns in
    c.rows_pass.ensures ∙ all_values test c.items.result.now ∙ ap (list_all test) c.items.ensures
