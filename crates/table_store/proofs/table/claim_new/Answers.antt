use Rattle.std.proofs.Common.{◌≡◌, ◌∙◌, ◌++◌, ◌+◌, ◌≤◌, ap, sym, subst, ℕ, List, [], ◌∷◌, length, true, false, None, Option, arith}
use Rattle.std.specs.Prelude.{zip, nat_lt, Err, ◌^◌}
use Rattle.std.proofs.lemmas.Bool.{ltb-false}
use Rattle.std.specs.List.{list_any}
use Rattle.std.specs.Option.{option_or}
use Rattle.ldv_value.specs.Limits.{max_next}
use Rattle.sql_model.specs.Changes.{numbered_rows, refuses_null, clash_by}
use Rattle.table_store.specs.Types.{Schema, Value}
use Rattle.table_store.specs.Claims.{claim_stop}
use Rattle.table_store.specs.Histories.{RowHistory, TableHistory, rows_now, table_now}
use Rattle.table_store.specs.IndexView.{held_in}
use Rattle.table_store.specs.KeyIndex.{HeldKeys}
use Rattle.table_store.specs.RowOrder.{AreInOrder}
use Rattle.table_store.specs.Stops.{insert_stop, stop_if, StopsAs}
use Rattle.table_store.specs.declared.error.StoreStop.{StoreStop}
use Rattle.table_store.specs.declared.error.StoreStop.TheVariants.{Full}
use Rattle.table_store.specs.declared.keys.new_keys.NewKeys.{NewKeys}
use Rattle.table_store.proofs.ClaimLaws.{stop_first}
use Rattle.table_store.proofs.IndexLaws.{index_alike}
use Rattle.table_store.proofs.InsertLaws.{null_stop, insert_stop_is}
use Rattle.table_store.proofs.table.claim_new.Goals as goal

-- the table of these parts
abbrev whole : List ℕ → Schema → List RowHistory → ℕ → TableHistory
whole name schema slots next = record { name = name; schema = schema; slots = slots; nexts = record { time = 0; next = next } ∷ [] }

pub returns-then-any_lacks_value-clause-stop : goal.returns-then-any_lacks_value-clause-stop
returns-then-any_lacks_value-clause-stop c = λ name.
    let same : list_any (λ values. list_any refuses_null (zip c.args.schema.now.columns values)) c.args.values.now ≡ c.any_lacks_value.result =
    (λ j. list_any (λ values. list_any refuses_null (zip (sym c.items.ensures j) values)) c.args.values.now) ∙ sym c.any_lacks_value.ensures in
    null_stop c.args.values.now (whole name c.args.schema.now c.args.stored.now.slots c.args.next) (same ∙ c.if-any_lacks_value.true)

pub returns-in-Err-clause-stop : goal.returns-in-Err-clause-stop
returns-in-Err-clause-stop c = λ name.
    let rows : List (List Value) = c.args.values.now in
    let next : ℕ = c.args.next in
    let schema : Schema = c.args.schema.now in
    let slots : List RowHistory = c.args.stored.now.slots in
    let same : list_any (λ values. list_any refuses_null (zip schema.columns values)) rows ≡ c.any_lacks_value.result =
    (λ j. list_any (λ values. list_any refuses_null (zip (sym c.items.ensures j) values)) rows) ∙ sym c.any_lacks_value.ensures in
    let held : HeldKeys = λ q. held_in c.args.index.now q in
    let order : AreInOrder slots next = subst (λ (n : ℕ). AreInOrder slots n) c.requires.next c.tell_order.ensures.order in
    let own : Option StoreStop = claim_stop schema.key next (clash_by schema.key (rows_now slots ++ numbered_rows next rows)) in
    let full : Option StoreStop = stop_if (nat_lt max_next (next + length rows)) Full in
    subst (λ (o : Option StoreStop). StopsAs {X = NewKeys} o (Err c.in-Err.stop))
    (sym (insert_stop_is rows (whole name schema slots next) held (index_alike c.args.index.now) order c.requires.indexed (same ∙ c.if-any_lacks_value.false)))
    (stop_first NewKeys NewKeys own full c.in-Err.stop c.in-Err.ensures.stop)

pub returns-then-is_full-clause-stop : goal.returns-then-is_full-clause-stop
returns-then-is_full-clause-stop c = λ name.
    let rows : List (List Value) = c.args.values.now in
    let next : ℕ = c.args.next in
    let schema : Schema = c.args.schema.now in
    let slots : List RowHistory = c.args.stored.now.slots in
    let same : list_any (λ values. list_any refuses_null (zip schema.columns values)) rows ≡ c.any_lacks_value.result =
    (λ j. list_any (λ values. list_any refuses_null (zip (sym c.items.ensures j) values)) rows) ∙ sym c.any_lacks_value.ensures in
    let held : HeldKeys = λ q. held_in c.args.index.now q in
    let order : AreInOrder slots next = subst (λ (n : ℕ). AreInOrder slots n) c.requires.next c.tell_order.ensures.order in
    let full : nat_lt max_next (next + length rows) ≡ c.is_full.result = sym c.is_full.ensures in
    insert_stop_is rows (whole name schema slots next) held (index_alike c.args.index.now) order c.requires.indexed (same ∙ c.if-any_lacks_value.false)
    ∙ ap (λ (o : Option StoreStop). option_or o (stop_if (nat_lt max_next (next + length rows)) Full)) c.in-Ok.ensures.stop ∙ ap (λ b. stop_if b Full) (full ∙ c.if-is_full.true)

pub returns-clause-stop : goal.returns-clause-stop
returns-clause-stop c = λ name.
    let rows : List (List Value) = c.args.values.now in
    let next : ℕ = c.args.next in
    let schema : Schema = c.args.schema.now in
    let slots : List RowHistory = c.args.stored.now.slots in
    let same : list_any (λ values. list_any refuses_null (zip schema.columns values)) rows ≡ c.any_lacks_value.result =
    (λ j. list_any (λ values. list_any refuses_null (zip (sym c.items.ensures j) values)) rows) ∙ sym c.any_lacks_value.ensures in
    let held : HeldKeys = λ q. held_in c.args.index.now q in
    let order : AreInOrder slots next = subst (λ (n : ℕ). AreInOrder slots n) c.requires.next c.tell_order.ensures.order in
    let full : nat_lt max_next (next + length rows) ≡ c.is_full.result = sym c.is_full.ensures in
    insert_stop_is rows (whole name schema slots next) held (index_alike c.args.index.now) order c.requires.indexed (same ∙ c.if-any_lacks_value.false)
    ∙ ap (λ (o : Option StoreStop). option_or o (stop_if (nat_lt max_next (next + length rows)) Full)) c.in-Ok.ensures.stop ∙ ap (λ b. stop_if b Full) (full ∙ c.if-is_full.false)

pub returns-clause-few : goal.returns-clause-few
returns-clause-few c =
    ltb-false max_next (c.args.next + length c.args.values.now) (sym c.is_full.ensures ∙ c.if-is_full.false)
