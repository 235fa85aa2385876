use Rattle.std.proofs.Common.{◌≡◌, ◌∙◌, ap, sym}
use Rattle.std.specs.Option.{option_map}
use Rattle.sql_model.specs.Keys.{values_at}
use Rattle.sql_model.specs.References.{child_of}
use Rattle.table_store.specs.inner.Afterwards.{in_set}
use Rattle.table_store.specs.Histories.{table_now}
use Rattle.table_store.specs.Referring.{child_stop}
use Rattle.table_store.specs.Types.{RowKey}
use Rattle.table_store.proofs.ChildLaws.{orphan_none, orphan_null, orphan_some}
use Rattle.table_store.proofs.references.children.child_by.Goals as goal

pub returns-then-refers_to_none : goal.returns-then-refers_to_none
returns-then-refers_to_none c =
    let child = child_of (table_now c.args.table.now) (record { number = c.args.number; values = c.args.values.now }) in
    ap (option_map child_stop) (orphan_null c.args.target.now (in_set c.args.lost.now) child c.args.foreign.now c.args.values.now (sym c.refers_to_none.ensures ∙ c.if-refers_to_none.true))

pub returns-then-not-is_lost : goal.returns-then-not-is_lost
returns-then-not-is_lost c =
    let child = child_of (table_now c.args.table.now) (record { number = c.args.number; values = c.args.values.now }) in
    let f = c.args.foreign.now in
    let key = c.in_ok-key.key in
    let is : key.values ≡ values_at f.columns c.args.values.now = ap (λ (k : RowKey). k.values) c.in_ok-key.ensures in
    ap (option_map child_stop) (orphan_none c.args.target.now (in_set c.args.lost.now) child f c.args.values.now (sym c.refers_to_none.ensures ∙ c.if-refers_to_none.false) key.values is
    c.is_lost.result c.is_lost.ensures c.if-not-is_lost.true)

pub returns : goal.returns
returns c =
    let child = child_of (table_now c.args.table.now) (record { number = c.args.number; values = c.args.values.now }) in
    let f = c.args.foreign.now in
    let key = c.in_ok-key.key in
    let is : key.values ≡ values_at f.columns c.args.values.now = ap (λ (k : RowKey). k.values) c.in_ok-key.ensures in
    c.in_ok-stop.ensures
    ∙ ap (option_map child_stop) (orphan_some c.args.target.now (in_set c.args.lost.now) child f c.args.values.now (sym c.refers_to_none.ensures ∙ c.if-refers_to_none.false) key.values is
    c.is_lost.result c.is_lost.ensures c.if-not-is_lost.false)
