use Rattle.std.specs.BTreeMap.{get}
use Rattle.std.specs.Ordering.{int_cmp}
use Rattle.ldv_value.specs.Order.{values_order}
use Rattle.table_store.proofs.IndexViewLaws.{none_both}
use Rattle.table_store.proofs.keys.index.Index.new.Goals as goal

pub returns : goal.returns
returns c = none_both (λ n. get int_cmp c.new.result.held n) (λ q. get values_order c.new-2.result.held q.values) c.new.ensures (λ q. c.new-2.ensures q.values)
