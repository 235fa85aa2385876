use Rattle.std.proofs.Common.{◌≡◌, ◌++◌, take}
use Rattle.sql_model.specs.Scope.{places_in}
use Rattle.sql_check.proofs.places.push_name_places.Given as goal

abbrev pub invariant-loop-name : goal.invariant-loop-name
invariant-loop-name l = l.places.items ≡ l.initial.places.items ++ places_in l.scope (take l.name-index l.names)
