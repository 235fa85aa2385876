use Rattle.std.proofs.Common.{◌≡◌, ◌++◌, List, drop, map}
use Rattle.group_eval.specs.inner.Folding.{value_over}
use Rattle.sql_model.specs.Kinds.{names_in}
use Rattle.sql_model.specs.Meaning.{known_values}
use Rattle.sql_model.specs.Scope.{InScope, places_in}
use Rattle.group_eval.proofs.folds.values_over.Given as goal

abbrev pub invariant-loop-pick : goal.invariant-loop-pick
invariant-loop-pick l = (scope : List InScope) → places_in scope (names_in l.expr) ≡ l.places
    → l.values ++ known_values (map (value_over scope l.expr) (map (λ r. r.now) (drop l.pick-index l.group)))
    ≡ known_values (map (value_over scope l.expr) (map (λ r. r.now) l.group))
