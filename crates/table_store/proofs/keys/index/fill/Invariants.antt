use Rattle.std.proofs.Common.{take}
use Rattle.std.specs.BTreeMap.{get}
use Rattle.ldv_value.specs.Order.{values_order}
use Rattle.table_store.specs.IndexView.{held_as}
use Rattle.table_store.specs.KeyIndex.{AreHeld, int_key, last_under}
use Rattle.table_store.proofs.keys.index.fill.Given as goal

abbrev pub invariant-loop-row : goal.invariant-loop-row
invariant-loop-row l = AreHeld l.places (λ key. held_as (last_under l.pairs.items) (get values_order l.others.held key.values) (int_key key.values)) (take l.row-index l.rows)
