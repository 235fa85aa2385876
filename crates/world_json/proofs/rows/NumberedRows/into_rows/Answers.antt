use Rattle.std.proofs.Common.{◌≡◌, ◌≤◌, ◌+◌, length, List, ap, ◌∙◌, arith}
use Rattle.ldv_value.specs.Limits.{max_rows}
use Rattle.ldv_value.specs.declared.value.Value.{Value}
use Rattle.sql_model.proofs.UniqueKeys.{values_in}
use Rattle.world_json.specs.Reading.{numbered_from}
use Rattle.world_json.proofs.Numbering.{numbered_rows}
use Rattle.world_json.proofs.rows.NumberedRows.into_rows.Goals as goal

pub returns : goal.returns
returns c =
    let rows = c.self.inside.rows.items in
    let same : values_in rows ≡ c.args.self = c.self.view_is in
    let count : length (values_in rows) ≡ length c.args.self = ap (λ (l : List (List Value)). length l) same in
    let within : length c.args.self ≤ max_rows = c.requires in
    let few : 0 + length (values_in rows) ≤ max_rows = omega arith in
    c.of_vec.ensures ∙ numbered_rows 0 rows c.self.invariant few ∙ ap (numbered_from 0) same
