use Rattle.std.specs.BTreeMap.{get}
use Rattle.std.specs.Ordering.{int_cmp}
use Rattle.ldv_value.specs.Order.{values_order}
use Rattle.table_store.specs.KeyIndex.{HeldKeys}
use Rattle.table_store.proofs.IndexViewLaws.{Ints, kept_both, some_both}
use Rattle.table_store.proofs.keys.index.Index.open_all.Goals as goal

pub returns-clause-kept : goal.returns-clause-kept
returns-clause-kept c =
    let index = c.args.self.now in
    let old : Ints = λ n. get int_cmp index.ints.held n in
    let new : Ints = λ n. get int_cmp c.open_all.new.self.held n in
    let others : HeldKeys = λ q. get values_order index.others.held q.values in
    let more : HeldKeys = λ q. get values_order c.open_all-2.new.self.held q.values in
    kept_both old new others more c.open_all.ensures.kept (λ q. c.open_all-2.ensures.kept q.values)

pub returns-clause-ok : goal.returns-clause-ok
returns-clause-ok c =
    let other = c.args.other.now in
    let old : Ints = λ n. get int_cmp other.ints.held n in
    let new : Ints = λ n. get int_cmp c.open_all.new.self.held n in
    let others : HeldKeys = λ q. get values_order other.others.held q.values in
    let more : HeldKeys = λ q. get values_order c.open_all-2.new.self.held q.values in
    some_both old new others more c.in_ok-open_all.ensures.ok (λ q. c.in_ok-open_all-2.ensures.ok q.values)

pub returns-in_err-open_all-2-clause-kept : goal.returns-in_err-open_all-2-clause-kept
returns-in_err-open_all-2-clause-kept c =
    let index = c.args.self.now in
    let old : Ints = λ n. get int_cmp index.ints.held n in
    let new : Ints = λ n. get int_cmp c.open_all.new.self.held n in
    let others : HeldKeys = λ q. get values_order index.others.held q.values in
    let more : HeldKeys = λ q. get values_order c.open_all-2.new.self.held q.values in
    kept_both old new others more c.open_all.ensures.kept (λ q. c.open_all-2.ensures.kept q.values)
