use Rattle.std.proofs.Common.{◌≡◌, ◌++◌, ℕ, List, drop, map}
use Rattle.std.specs.List.{flat_map}
use Rattle.sql_model.specs.Kinds.{names_in}
use Rattle.sql_model.specs.Scope.{InScope, places_in}
use Rattle.dml_versions.proofs.places.set_places.Given as goal

abbrev pub invariant-loop-set : goal.invariant-loop-set
invariant-loop-set l = (scope : List InScope) (more : List ℕ)
    → drop l.fn.at l.places ≡ places_in scope (flat_map (λ set. names_in set.expr) l.sets) ++ more
    → (drop l.at l.places ≡ places_in scope (flat_map (λ set. names_in set.expr) (drop l.set-index l.sets)) ++ more)
    × (l.lists ++ map (λ set. places_in scope (names_in set.expr)) (drop l.set-index l.sets) ≡ map (λ set. places_in scope (names_in set.expr)) l.sets)
