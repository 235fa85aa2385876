use Rattle.std.proofs.Common.{◌∙◌, ap, sym, Some, None}
use Rattle.std.specs.Prelude.{if◌then◌else◌}
use Rattle.std.specs.Option.{option_map}
use Rattle.table_store.specs.IndexView.{held_in}
use Rattle.table_store.specs.Types.{TableRow, RowKey}
use Rattle.table_store.specs.Histories.{rows_now}
use Rattle.table_store.proofs.IndexLaws.{absent_key, held_key, index_alike}
use Rattle.table_store.proofs.keys.index.number_of_values.Goals as goal

pub returns-in-None : goal.returns-in-None
returns-in-None c =
    let held = λ (k : RowKey). held_in c.args.index.now k in
    sym (ap (option_map (λ (row : TableRow). row.number)) (absent_key c.args.places.now held (index_alike c.args.index.now) (record { values = c.args.key.now }) (rows_now c.args.rows.now.slots) c.requires (sym c.number_of.ensures ∙ c.in-None.is)))

pub returns-then-has_key_at : goal.returns-then-has_key_at
returns-then-has_key_at c =
    let held = λ (k : RowKey). held_in c.args.index.now k in
    let number = c.in-Some.number in
    sym (ap (option_map (λ (row : TableRow). row.number)) (held_key c.args.places.now held (index_alike c.args.index.now) (record { values = c.args.key.now }) number (rows_now c.args.rows.now.slots) c.requires (sym c.number_of.ensures ∙ c.in-Some.is))
    ∙ c.has_key_at.ensures.found ∙ ap (λ b. if b then Some number else None) c.if-has_key_at.true)

pub returns-else-has_key_at : goal.returns-else-has_key_at
returns-else-has_key_at c =
    let held = λ (k : RowKey). held_in c.args.index.now k in
    let number = c.in-Some.number in
    sym (ap (option_map (λ (row : TableRow). row.number)) (held_key c.args.places.now held (index_alike c.args.index.now) (record { values = c.args.key.now }) number (rows_now c.args.rows.now.slots) c.requires (sym c.number_of.ensures ∙ c.in-Some.is))
    ∙ c.has_key_at.ensures.found ∙ ap (λ b. if b then Some number else None) c.if-has_key_at.false)
