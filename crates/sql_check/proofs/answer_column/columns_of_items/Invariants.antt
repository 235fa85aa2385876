use Rattle.std.proofs.Common.{◌≡◌, map, take}
use Rattle.sql_model.specs.Refusals.{item_name}
use Rattle.sql_check.proofs.answer_column.columns_of_items.Given as goal

abbrev pub invariant-loop-item : goal.invariant-loop-item
invariant-loop-item l = l.titles.items ≡ map (λ item. item_name item.name item.expr) (take l.item-index l.items)
