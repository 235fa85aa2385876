use Rattle.std.proofs.Common.{ℕ}
use Rattle.std.specs.BTreeMap.{get}
use Rattle.std.specs.Ordering.{int_cmp}
use Rattle.ldv_value.specs.Order.{values_order}
use Rattle.table_store.specs.KeyIndex.{HeldKeys}
use Rattle.table_store.proofs.IndexViewLaws.{Ints, entered_both, others_both}
use Rattle.table_store.proofs.NewKeyLaws.{fit_number}
use Rattle.table_store.proofs.keys.index.Index.enter.Goals as goal

pub enter-requires : goal.enter-requires
enter-requires c = λ q. fit_number c.args.next c.requires.0 (get int_cmp c.args.keys.ints q) c.requires.2 (c.requires.1.ints q)

pub enter-requires-2 : goal.enter-requires-2
enter-requires-2 c = λ q. fit_number c.args.next c.requires.0 (get values_order c.args.keys.others q) c.requires.2 (c.requires.1.others q)

pub returns-clause-ok : goal.returns-clause-ok
returns-clause-ok c =
    let index = c.args.self.now in
    let left : Ints = λ n. get int_cmp c.args.keys.ints n in
    let old : Ints = λ n. get int_cmp index.ints.held n in
    let new : Ints = λ n. get int_cmp c.enter.new.self.held n in
    let others : HeldKeys = λ q. get values_order c.args.keys.others q.values in
    let held : HeldKeys = λ q. get values_order index.others.held q.values in
    let more : HeldKeys = λ q. get values_order c.enter-2.new.self.held q.values in
    entered_both c.args.next left old new others held more c.in_ok-enter.ensures.ok (λ q. c.in_ok-enter-2.ensures.ok q.values)

pub returns-clause-others : goal.returns-clause-others
returns-clause-others c =
    let index = c.args.self.now in
    let left : Ints = λ n. get int_cmp c.args.keys.ints n in
    let old : Ints = λ n. get int_cmp index.ints.held n in
    let new : Ints = λ n. get int_cmp c.enter.new.self.held n in
    let others : HeldKeys = λ q. get values_order c.args.keys.others q.values in
    let held : HeldKeys = λ q. get values_order index.others.held q.values in
    let more : HeldKeys = λ q. get values_order c.enter-2.new.self.held q.values in
    others_both left old new others held more c.enter.ensures.others (λ q. c.enter-2.ensures.others q.values)

pub returns-in_err-enter-2-clause-others : goal.returns-in_err-enter-2-clause-others
returns-in_err-enter-2-clause-others c =
    let index = c.args.self.now in
    let left : Ints = λ n. get int_cmp c.args.keys.ints n in
    let old : Ints = λ n. get int_cmp index.ints.held n in
    let new : Ints = λ n. get int_cmp c.enter.new.self.held n in
    let others : HeldKeys = λ q. get values_order c.args.keys.others q.values in
    let held : HeldKeys = λ q. get values_order index.others.held q.values in
    let more : HeldKeys = λ q. get values_order c.enter-2.new.self.held q.values in
    others_both left old new others held more c.enter.ensures.others (λ q. c.enter-2.ensures.others q.values)
