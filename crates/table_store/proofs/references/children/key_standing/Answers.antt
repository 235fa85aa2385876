use Rattle.std.proofs.Common.{◌∙◌, ap, get_or, List, Option, Some}
use Rattle.std.specs.Option.{option_map}
use Rattle.sql_model.specs.Keys.{values_at}
use Rattle.table_store.specs.Histories.{no_history, row_of}
use Rattle.table_store.specs.Types.{RowKey, Schema, TableRow, Value}
use Rattle.table_store.proofs.references.children.key_standing.Goals as goal

pub returns : goal.returns
returns c =
    let h = c.args.held.now in
    let slot = get_or h.slots c.args.slot no_history in
    ap (λ (key : RowKey). Some key.values) c.in_ok-key.ensures
    ∙ ap (λ (s : Schema). Some (values_at s.key c.in_ok-values.values)) c.schema.ensures
    ∙ ap (λ (now : Option (List Value)). option_map (λ (row : TableRow). values_at h.schema.key row.values) (row_of slot.number now)) c.in_ok-values.ensures
