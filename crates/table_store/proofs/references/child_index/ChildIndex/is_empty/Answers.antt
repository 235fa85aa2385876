use Rattle.std.specs.Ordering.{int_cmp}
use Rattle.sql_model.specs.KeyOrder.{key_order}
use Rattle.table_store.specs.inner.ChildPairs.{has_pair, placed_order}
use Rattle.table_store.specs.KeyIndex.{int_key}
use Rattle.table_store.proofs.ChildIndexLaws.{none_as}
use Rattle.table_store.proofs.references.child_index.ChildIndex.is_empty.Goals as goal

pub returns : goal.returns
returns c = λ is place key number.
    let index = c.args.self.now in
    none_as (has_pair (placed_order key_order) index.others.held (place, record { values = key }) number)
    (λ n. has_pair (placed_order int_cmp) index.ints.held (place, n) number) (int_key key)
    (c.has_no_other.ensures is place key number)
    (λ z. c.has_no_int.ensures c.if-not-has_no_int.false place z number)
