use Rattle.std.proofs.Common.{◌≡◌, drop}
use Rattle.sql_model.specs.Refusals.{kinds_of_items}
use Rattle.sql_check.proofs.Unions.{kinds_onto}
use Rattle.sql_check.proofs.union.kinds_of_items.Given as goal

abbrev pub invariant-loop-item : goal.invariant-loop-item
invariant-loop-item l = kinds_onto l.scope l.kinds.items (drop l.item-index l.items) ≡ kinds_of_items l.scope l.items
