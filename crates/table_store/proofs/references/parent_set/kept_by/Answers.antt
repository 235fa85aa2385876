use Rattle.std.proofs.Common.{◌≡◌, ◌∙◌, ap, sym}
use Rattle.std.specs.BTreeMap.{get}
use Rattle.std.specs.Ordering.{nat_cmp}
use Rattle.sql_model.specs.Keys.{values_at}
use Rattle.table_store.specs.Histories.{tables_now}
use Rattle.table_store.specs.Types.{RowKey}
use Rattle.table_store.proofs.ParentSetLaws.{kept_key, kept_null}
use Rattle.table_store.proofs.references.parent_set.kept_by.Goals as goal

pub returns-then-refers_to_none : goal.returns-then-refers_to_none
returns-then-refers_to_none c =
    kept_null (get nat_cmp c.args.given.now) (tables_now c.args.store.now) c.args.own.now c.args.values.now c.args.foreign.now (sym c.refers_to_none.ensures ∙ c.if-refers_to_none.true)

pub returns : goal.returns
returns c =
    let f = c.args.foreign.now in
    let key = c.in_ok-key.key in
    let is : key.values ≡ values_at f.columns c.args.values.now = ap (λ (k : RowKey). k.values) c.in_ok-key.ensures in
    c.kept_in.ensures
    ∙ kept_key (get nat_cmp c.args.given.now) (tables_now c.args.store.now) c.args.own.now c.args.values.now f (sym c.refers_to_none.ensures ∙ c.if-refers_to_none.false) key.values is
