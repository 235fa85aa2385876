use Rattle.std.proofs.Common.{◌≡◌, ◌∙◌, ap, sym, subst, ℕ, List, [], ◌∷◌, map, false, Option}
use Rattle.std.specs.Prelude.{Err}
use Rattle.std.specs.List.{list_any}
use Rattle.std.specs.Option.{option_or}
use Rattle.sql_model.specs.Changes.{has_null, clash_by}
use Rattle.table_store.specs.Types.{Schema, TableRow}
use Rattle.table_store.specs.Claims.{both_stop}
use Rattle.table_store.specs.Histories.{RowHistory, TableHistory, rows_now, table_now}
use Rattle.table_store.specs.Stops.{replaced_by, replace_stop, StopsAs}
use Rattle.table_store.specs.declared.error.StoreStop.{StoreStop}
use Rattle.table_store.specs.declared.keys.index.Index.{Index}
use Rattle.table_store.proofs.RekeyLaws.{replace_stop_is}
use Rattle.table_store.proofs.table.claim_given.Goals as goal

-- the table of these parts
abbrev whole : List ℕ → Schema → List RowHistory → ℕ → TableHistory
whole name schema slots next = record { name = name; schema = schema; slots = slots; nexts = record { time = 0; next = next } ∷ [] }

pub returns-in-Err-clause-stop : goal.returns-in-Err-clause-stop
returns-in-Err-clause-stop c = λ name next.
    let rows : List TableRow = c.args.given.now in
    let made : TableHistory = whole name c.args.schema.now c.args.stored.now.slots next in
    let lacks : list_any (has_null made.schema.columns) rows ≡ false = ap (λ l. list_any (has_null l) rows) (sym c.items.ensures) ∙ sym c.any_row_lacks_value.ensures ∙ c.if-any_row_lacks_value.false in
    subst (λ (o : Option StoreStop). StopsAs {X = Index} o (Err c.in-Err.stop)) (sym (replace_stop_is rows made lacks)) c.in-Err.ensures.stop

pub returns-in-Ok-clause-stop : goal.returns-in-Ok-clause-stop
returns-in-Ok-clause-stop c = λ name next.
    let rows : List TableRow = c.args.given.now in
    let made : TableHistory = whole name c.args.schema.now c.args.stored.now.slots next in
    let lacks : list_any (has_null made.schema.columns) rows ≡ false = ap (λ l. list_any (has_null l) rows) (sym c.items.ensures) ∙ sym c.any_row_lacks_value.ensures ∙ c.if-any_row_lacks_value.false in
    replace_stop_is rows made lacks ∙ c.in-Ok.ensures.stop
