use Rattle.std.proofs.Common.{◌∙◌}
use Rattle.std.proofs.lemmas.Result.{IfOk-weaker}
use Rattle.world_json.proofs.Columns.{keys_by_columns}
use Rattle.world_json.proofs.name_rules.are_keys_known.Goals as goal

pub returns : goal.returns
returns c =
    IfOk-weaker c.are_all_known.result _ _
    (λ holds is. is ∙ keys_by_columns c.in_ok-columns.columns c.args.table.now c.in_ok-columns.ensures c.args.tables.now)
    c.are_all_known.ensures
