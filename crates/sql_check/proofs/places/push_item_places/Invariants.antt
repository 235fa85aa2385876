use Rattle.std.proofs.Common.{◌≡◌, ◌++◌, drop}
use Rattle.sql_model.specs.Refusals.{names_of_items}
use Rattle.sql_model.specs.Scope.{places_in}
use Rattle.sql_check.proofs.places.push_item_places.Given as goal

abbrev pub invariant-loop-item : goal.invariant-loop-item
invariant-loop-item l = l.places.items ++ places_in l.scope (names_of_items (drop l.item-index l.items)) ≡ l.initial.places.items ++ places_in l.scope (names_of_items l.items)
