use Rattle.std.proofs.Common.{◌≡◌, ℕ, List, ◌++◌, drop}
use Rattle.std.specs.List.{flat_map}
use Rattle.sql_model.specs.Kinds.{names_in}
use Rattle.sql_model.specs.Scope.{InScope, places_in}
use Rattle.group_eval.proofs.plan.skip_conditions.Given as goal

abbrev pub invariant-loop-condition : goal.invariant-loop-condition
invariant-loop-condition l = (scope : List InScope) (more : List ℕ) → drop l.fn.at l.places ≡ places_in scope (flat_map names_in l.conditions) ++ more
    → drop l.at l.places ≡ places_in scope (flat_map names_in (drop l.condition-index l.conditions)) ++ more
