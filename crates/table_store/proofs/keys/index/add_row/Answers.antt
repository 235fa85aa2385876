use Rattle.std.proofs.Common.{rules, ◌≡◌, ◌∙◌, sym, subst, cond, None, Some, w64, SFits}
use Rattle.std.specs.Prelude.{ℤ}
use Rattle.std.proofs.lemmas.Int.{to_z-of_z}
use Rattle.std.specs.Ordering.{int_cmp}
use Rattle.std.specs.BTreeMap.{get, is_at}
use Rattle.std.proofs.lemmas.Result.{on_ok_weaker}
use Rattle.ldv_value.specs.Order.{values_order}
use Rattle.sql_model.specs.KeyOrder.{key_order}
use Rattle.sql_model.specs.Keys.{key_at}
use Rattle.table_store.specs.Types.{RowKey}
use Rattle.table_store.specs.KeyIndex.{int_key, last_under, HeldKeys}
use Rattle.table_store.proofs.IndexViewLaws.{Ints, put_int, put_other}
use Rattle.table_store.proofs.keys.index.add_row.Goals as goal

pub returns-in_ok-key-in-None : goal.returns-in_ok-key-in-None
returns-in_ok-key-in-None c =
    let row = c.args.row.now in
    let ints : Ints = last_under c.args.ints.now.items in
    let old : HeldKeys = λ q. get values_order c.args.others.now.held q.values in
    let new : HeldKeys = λ q. get values_order c.put.new.self.held q.values in
    let key : RowKey = key_at c.args.places.now row.values in
    let is : c.in_ok-key-in-None.key ≡ key = c.in_ok-key-in-None.ensures in
    let none : int_key key.values ≡ None = sym c.int_at.ensures ∙ c.in-None.is in
    on_ok_weaker c.put.result (λ put. put_other ints old new key row.number none (subst (λ (k : RowKey). (q : RowKey) → new q ≡ cond (is_at (key_order k) q) (Some row.number) (old q)) is (λ q. put q.values))) c.put.ensures.ok

pub returns-in-Some : goal.returns-in-Some
returns-in-Some c =
    let row = c.args.row.now in
    let old : Ints = last_under c.args.ints.now.items in
    let new : Ints = last_under c.add_int.new.ints.items in
    let others : HeldKeys = λ q. get values_order c.args.others.now.held q.values in
    let key : RowKey = key_at c.args.places.now row.values in
    let is : int_key key.values ≡ Some c.in-Some.int = sym c.int_at.ensures ∙ c.in-Some.is in
    let fit : SFits w64 c.in-Some.int = search rules in
    on_ok_weaker c.add_int.result
    (λ put. put_int old new others key c.in-Some.int row.number is
    (subst (λ (z : ℤ). (m : ℤ) → new m ≡ cond (is_at (int_cmp z) m) (Some row.number) (old m)) (to_z-of_z w64 c.in-Some.int fit) put))
    c.add_int.ensures
