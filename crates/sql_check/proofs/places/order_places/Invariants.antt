use Rattle.std.proofs.Common.{◌≡◌, take}
use Rattle.sql_model.specs.Places.{order_places}
use Rattle.sql_check.proofs.places.order_places.Given as goal

abbrev pub invariant-loop-part : goal.invariant-loop-part
invariant-loop-part l = l.places.items ≡ order_places l.titles (take l.part-index l.order)
