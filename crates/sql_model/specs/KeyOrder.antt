-- The order of keys, value by value, and that it is total.
use Rattle.std.specs.declared.cmp.Ordering.{Ordering}
use Rattle.std.specs.Cmp.{IsTotalOrder, on_total}
use Rattle.ldv_value.specs.Order.{values_order, values_total}
use Rattle.sql_model.specs.Types.{RowKey}

abbrev pub key_order : RowKey → RowKey → Ordering
key_order a b = values_order a.values b.values

pub key_order_total : IsTotalOrder key_order
key_order_total = on_total (λ key. key.values) values_total
