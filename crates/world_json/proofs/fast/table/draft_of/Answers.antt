use Rattle.std.proofs.Common.{◌≡◌, length, true, rules}
use Rattle.world_json.specs.Shape.{is_width}
use Rattle.world_json.proofs.MadeParts.{table_made}
use Rattle.world_json.proofs.fast.table.draft_of.Goals as goal

pub returns : goal.returns
returns c = λ ms kept.
    let wide : is_width (length c.in_ok-columns.columns) c.rows_or_none-rows.result ≡ true = search rules in
    table_made c.args.name ms c.args.parts c.in_ok-columns.columns c.list_or_empty-key.result c.list_or_empty-foreign.result c.rows_or_none-rows.result c.number_or-next.result
    c.in_ok-columns.ensures c.list_or_empty-key.ensures c.list_or_empty-foreign.ensures c.rows_or_none-rows.ensures (search rules) wide c.requires kept
