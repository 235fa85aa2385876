use Rattle.std.proofs.Common.{◌≡◌, ◌∙◌, ap, sym}
use Rattle.sql_model.specs.Keys.{values_at}
use Rattle.table_store.specs.Types.{RowKey}
use Rattle.table_store.specs.inner.Afterwards.{in_set}
use Rattle.table_store.proofs.ChildLaws.{put_in_set}
use Rattle.table_store.proofs.ParentSetLaws.{asks_key, asks_null, asks_other}
use Rattle.table_store.proofs.references.parent_set.ask_by.Goals as goal

pub returns-then-not-is_parent : goal.returns-then-not-is_parent
returns-then-not-is_parent c = λ key.
    asks_other c.args.own.now c.args.values.now c.args.foreign.now key (in_set c.args.asked.now key) (sym c.is_parent.ensures ∙ c.if-not-is_parent.true)

pub returns-then-refers_to_none : goal.returns-then-refers_to_none
returns-then-refers_to_none c = λ key.
    asks_null c.args.own.now c.args.values.now c.args.foreign.now key (in_set c.args.asked.now key) (sym c.refers_to_none.ensures ∙ c.if-refers_to_none.true)

pub returns : goal.returns
returns c = λ key.
    let f = c.args.foreign.now in
    let made = c.in_ok-key.key in
    let is : made.values ≡ values_at f.columns c.args.values.now = ap (λ (k : RowKey). k.values) c.in_ok-key.ensures in
    put_in_set c.args.asked.now c.insert.new.self made c.in_ok-insert.ensures.updates key
    ∙ asks_key c.args.own.now c.args.values.now f key (in_set c.args.asked.now key) (sym c.is_parent.ensures ∙ c.if-not-is_parent.false)
    (sym c.refers_to_none.ensures ∙ c.if-refers_to_none.false) made.values is
