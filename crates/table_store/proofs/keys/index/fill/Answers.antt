use Rattle.std.proofs.Common.{◌≡◌, ◌∙◌, ◌++◌, ◌∷◌, [], ap, arith, refl, sym, subst, List, take, get_or, cond, Some, None}
use Rattle.std.specs.Prelude.{find}
use Rattle.std.specs.BTreeMap.{get, is_at}
use Rattle.std.specs.Ordering.{int_cmp}
use Rattle.std.proofs.lemmas.List.{take_all, take_more}
use Rattle.ldv_value.specs.Order.{values_order}
use Rattle.sql_model.specs.KeyOrder.{key_order}
use Rattle.sql_model.specs.Keys.{values_at, key_at}
use Rattle.sql_model.specs.References.{has_key}
use Rattle.table_store.specs.Types.{TableRow, RowKey}
use Rattle.table_store.specs.IndexView.{held_as}
use Rattle.table_store.specs.KeyIndex.{AreHeld, HeldKeys, int_key, last_under}
use Rattle.table_store.proofs.IndexLaws.{held_pushed, earlier_none}
use Rattle.table_store.proofs.IndexViewLaws.{Ints, same_both}
use Rattle.table_store.proofs.keys.index.fill.Goals as goal

pub loop-row-preserved : goal.loop-row-preserved
loop-row-preserved c =
    let places = c.args.places.now in
    let rows = c.args.rows.now in
    let i = c.loop-row.row-index in
    let row : TableRow = c.row-item.result in
    let within = c.loop-row-test.true in
    let item : get_or rows i row ≡ row = sym c.row-item.is in
    let old : HeldKeys = λ q. held_as (last_under c.loop-row.pairs.items) (get values_order c.loop-row.others.held q.values) (int_key q.values) in
    let new : HeldKeys = λ q. held_as (last_under c.add_row.new.ints.items) (get values_order c.add_row.new.others.held q.values) (int_key q.values) in
    let put : (q : RowKey) → new q ≡ cond (is_at (key_order (key_at places row.values)) q) (Some row.number) (old q) = c.in_ok-add_row.ensures in
    let none : find (has_key places (values_at places row.values)) (take i rows) ≡ None = subst (λ (r : TableRow). find (has_key places (values_at places r.values)) (take i rows) ≡ None) item (earlier_none places rows i row c.requires.unique c.requires.key within) in
    subst (λ (l : List TableRow). AreHeld places new l) (sym (take_more rows i row within ∙ ap (λ (r : TableRow). take i rows ++ r ∷ []) item))
    (held_pushed places old new row (take i rows) put c.loop-row.invariant none)

pub returns : goal.returns
returns c =
    let places = c.args.places.now in
    let rows : List TableRow = c.args.rows.now in
    let pairs : Ints = last_under c.loop-row.pairs.items in
    let ints : Ints = λ n. get int_cmp c.in_ok-ints.ints.held n in
    let others : HeldKeys = λ q. get values_order c.loop-row.others.held q.values in
    let old : HeldKeys = λ q. held_as pairs (others q) (int_key q.values) in
    let new : HeldKeys = λ q. held_as ints (others q) (int_key q.values) in
    let same : (q : RowKey) → new q ≡ old q = same_both pairs ints others others c.in_ok-ints.ensures (λ q. refl) in
    let all : take c.loop-row.row-index rows ≡ rows = take_all c.loop-row.row-index rows (omega arith) in
    subst (λ (h : HeldKeys). AreHeld places h rows) (λ j q. sym (same q) j)
    (subst (λ (l : List TableRow). AreHeld places old l) all c.loop-row.invariant)
