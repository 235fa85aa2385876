use Rattle.std.proofs.Common.{◌≡◌, ◌++◌, drop}
use Rattle.std.specs.List.{flat_map}
use Rattle.sql_model.specs.Kinds.{names_in}
use Rattle.sql_model.specs.Scope.{places_in}
use Rattle.sql_check.proofs.places.push_set_places.Given as goal

abbrev pub invariant-loop-set : goal.invariant-loop-set
invariant-loop-set l = l.places.items ++ places_in l.scope (flat_map (λ set. names_in set.expr) (drop l.set-index l.sets)) ≡ l.initial.places.items ++ places_in l.scope (flat_map (λ set. names_in set.expr) l.sets)
