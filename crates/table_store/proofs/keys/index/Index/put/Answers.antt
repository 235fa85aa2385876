use Rattle.std.proofs.Common.{rules, ◌≡◌, ◌∙◌, ap, cond, refl, subst, sym, None, Some, w64, SFits}
use Rattle.std.specs.Prelude.{ℤ}
use Rattle.std.proofs.lemmas.Int.{to_z-of_z}
use Rattle.std.specs.BTreeMap.{get, is_at}
use Rattle.std.specs.Ordering.{int_cmp}
use Rattle.std.proofs.lemmas.Result.{on_ok_weaker, on_err_weaker}
use Rattle.ldv_value.specs.Order.{values_order}
use Rattle.table_store.specs.KeyIndex.{int_key, HeldKeys}
use Rattle.table_store.proofs.IndexViewLaws.{Ints, put_int, put_other, same_both}
use Rattle.table_store.proofs.keys.index.Index.put.Goals as goal

pub returns-in-None-clause-ok : goal.returns-in-None-clause-ok
returns-in-None-clause-ok c =
    let index = c.args.self.now in
    let ints : Ints = λ n. get int_cmp index.ints.held n in
    let old : HeldKeys = λ q. get values_order index.others.held q.values in
    let new : HeldKeys = λ q. get values_order c.put.new.self.held q.values in
    let none : int_key c.args.key.values ≡ None = ap int_key (sym c.items.ensures) ∙ sym c.int_key.ensures ∙ c.in-None.is in
    on_ok_weaker c.put.result (λ put. put_other ints old new c.args.key c.args.number none (λ q. put q.values)) c.put.ensures.ok

pub returns-in-Some-clause-ok : goal.returns-in-Some-clause-ok
returns-in-Some-clause-ok c =
    let index = c.args.self.now in
    let old : Ints = λ n. get int_cmp index.ints.held n in
    let new : Ints = λ n. get int_cmp c.put-in-Some.new.self.held n in
    let others : HeldKeys = λ q. get values_order index.others.held q.values in
    let is : int_key c.args.key.values ≡ Some c.in-Some.int = ap int_key (sym c.items.ensures) ∙ sym c.int_key.ensures ∙ c.in-Some.is in
    let fit : SFits w64 c.in-Some.int = search rules in
    on_ok_weaker c.put-in-Some.result
    (λ put. put_int old new others c.args.key c.in-Some.int c.args.number is
    (subst (λ (z : ℤ). (m : ℤ) → new m ≡ cond (is_at (int_cmp z) m) (Some c.args.number) (old m)) (to_z-of_z w64 c.in-Some.int fit) put))
    c.put-in-Some.ensures.ok

pub returns-in-None-clause-err : goal.returns-in-None-clause-err
returns-in-None-clause-err c =
    let index = c.args.self.now in
    let ints : Ints = λ n. get int_cmp index.ints.held n in
    let old : HeldKeys = λ q. get values_order index.others.held q.values in
    let new : HeldKeys = λ q. get values_order c.put.new.self.held q.values in
    on_err_weaker c.put.result (λ same. same_both ints ints old new (λ n. refl) (λ q. same q.values)) c.put.ensures.err

pub returns-in-Some-clause-err : goal.returns-in-Some-clause-err
returns-in-Some-clause-err c =
    let index = c.args.self.now in
    let old : Ints = λ n. get int_cmp index.ints.held n in
    let new : Ints = λ n. get int_cmp c.put-in-Some.new.self.held n in
    let others : HeldKeys = λ q. get values_order index.others.held q.values in
    on_err_weaker c.put-in-Some.result (λ same. same_both old new others others same (λ q. refl)) c.put-in-Some.ensures.err
