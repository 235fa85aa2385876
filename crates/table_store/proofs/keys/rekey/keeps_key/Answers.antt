use Rattle.std.proofs.Common.{◌∙◌, ◌==◌, ◌&&◌, ap, sym, Some, None}
use Rattle.std.specs.Prelude.{find, if◌then◌else◌}
use Rattle.std.specs.Option.{option_map}
use Rattle.sql_model.specs.References.{has_key}
use Rattle.table_store.specs.Types.{RowKey, TableRow}
use Rattle.table_store.specs.Histories.{rows_now}
use Rattle.table_store.proofs.keys.rekey.keeps_key.Goals as goal

pub returns : goal.returns
returns c = λ keeps.
    let number = c.args.row.now.number in
    let rows = rows_now c.args.stored.now.slots in
    ap (λ (k : RowKey). option_map (λ (one : TableRow). one.number) (find (λ (one : TableRow). (one.number == number) && has_key c.args.places.now k.values one) rows)) (sym c.in_ok-key.ensures)
    ∙ c.has_key_at.ensures.found ∙ ap (λ b. if b then Some number else None) keeps
