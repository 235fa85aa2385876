use Rattle.std.proofs.Common.{◌≡◌, map, take}
use Rattle.sql_model.specs.Places.{core_places}
use Rattle.sql_check.proofs.places.all_core_places.Given as goal

abbrev pub invariant-loop-core : goal.invariant-loop-core
invariant-loop-core l = l.lists.items ≡ map (core_places l.catalog) (take l.core-index l.cores)
