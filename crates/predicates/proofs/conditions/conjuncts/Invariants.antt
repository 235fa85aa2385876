use Rattle.std.proofs.Common.{◌≡◌, ℕ, List, ◌++◌, ◌&&◌, drop}
use Rattle.std.specs.List.{flat_map}
use Rattle.predicates.specs.Conditions.{meets}
use Rattle.predicates.specs.Placing.{AreAllPlaced}
use Rattle.predicates.specs.Types.{Value}
use Rattle.sql_model.specs.Kinds.{names_in}
use Rattle.sql_model.specs.QueryAnswer.{meets_all}
use Rattle.sql_model.specs.Scope.{InScope, environment, places_in}
use Rattle.predicates.proofs.conditions.conjuncts.Given as goal

abbrev pub invariant-loop-pick : goal.invariant-loop-pick
invariant-loop-pick l = (scope : List InScope) (more : List ℕ) → drop l.from l.places ≡ places_in scope (flat_map names_in l.picks) ++ more
    → (drop l.at l.places ≡ places_in scope (flat_map names_in (drop l.pick-index l.picks)) ++ more)
    × AreAllPlaced scope l.conds
    × ((values : List Value) → (meets scope l.conds values && meets_all (drop l.pick-index l.picks) (environment scope values)) ≡ meets_all l.picks (environment scope values))
