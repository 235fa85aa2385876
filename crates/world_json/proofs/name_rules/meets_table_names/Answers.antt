use Rattle.std.proofs.Common.{◌∙◌}
use Rattle.std.proofs.lemmas.Result.{IfOk-weaker}
use Rattle.world_json.proofs.Columns.{tables_by_tables}
use Rattle.world_json.proofs.name_rules.meets_table_names.Goals as goal

pub returns : goal.returns
returns c =
    IfOk-weaker c.each_table_known.result _ _
    (λ holds is. is ∙ tables_by_tables c.in_ok-known.known c.args.tables.now c.in_ok-known.ensures)
    c.each_table_known.ensures
