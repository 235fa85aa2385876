use Rattle.std.specs.BTreeMap.{get}
use Rattle.std.specs.Ordering.{int_cmp}
use Rattle.ldv_value.specs.Order.{values_order}
use Rattle.table_store.specs.KeyIndex.{HeldKeys}
use Rattle.table_store.proofs.IndexViewLaws.{Ints, taken_both}
use Rattle.table_store.proofs.keys.index.Index.set_all.Goals as goal

pub returns : goal.returns
returns c =
    let index = c.args.self.now in
    let other = c.args.other in
    let left : Ints = λ n. get int_cmp other.ints.held n in
    let old : Ints = λ n. get int_cmp index.ints.held n in
    let new : Ints = λ n. get int_cmp c.set_all.new.self.held n in
    let others : HeldKeys = λ q. get values_order other.others.held q.values in
    let held : HeldKeys = λ q. get values_order index.others.held q.values in
    let more : HeldKeys = λ q. get values_order c.set_all-2.new.self.held q.values in
    taken_both left old new others held more c.set_all.ensures (λ q. c.set_all-2.ensures q.values) c.requires
