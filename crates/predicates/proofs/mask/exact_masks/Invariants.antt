use Rattle.std.proofs.Common.{◌≡◌, ◌&&◌, List, drop, true}
use Rattle.std.specs.List.{AllByRecursion}
use Rattle.predicates.specs.Conditions.{meets}
use Rattle.predicates.specs.Masking.{passes_at}
use Rattle.predicates.specs.Placing.{AreAllPlaced}
use Rattle.predicates.specs.Types.{Value}
use Rattle.sql_model.specs.ColumnTests.{fits}
use Rattle.sql_model.specs.Scope.{InScope}
use Rattle.predicates.proofs.mask.exact_masks.Given as goal

abbrev pub invariant-loop-cond : goal.invariant-loop-cond
invariant-loop-cond l = record {
  fit : AllByRecursion (λ mask. fits l.columns mask ≡ true) l.masks.items;
  same : (scope : List InScope) (row : List Value) → AreAllPlaced scope l.conds
      → AreAllPlaced scope (drop l.cond-index l.conds)
      × ((passes_at l.before l.masks.items row && meets scope (drop l.cond-index l.conds) row) ≡ meets scope l.conds row);
}
