use Rattle.std.proofs.Common.{◌≡◌, ◌+◌, ◌++◌, ◌∷◌, List, drop, subst, ap, sym, ◌∙◌}
use Rattle.ldv_value.specs.declared.value.Value.{Value}
use Rattle.ldv_value.proofs.Places.{drop_item}
use Rattle.predicates.specs.Placing.{AreAllPlaced}
use Rattle.query_eval.specs.Projecting.{values_over, meaning}
use Rattle.predicates.specs.declared.placed.BoundExpr.{BoundExpr}
use Rattle.predicates.proofs.Lists.{moved-one}
use Rattle.query_eval.proofs.projection.row_values.Goals as goal

pub loop-placed-preserved : goal.loop-placed-preserved
loop-placed-preserved c = λ scope all.
    let exprs = c.args.exprs.now in
    let i = c.loop-placed.placed-index in
    let row = c.args.row.now in
    let split : drop i exprs ≡ c.placed-item.result ∷ drop (i + 1) exprs = drop_item exprs i c.placed-item.result c.loop-placed-test.true c.placed-item.is in
    let before = c.loop-placed.invariant scope all in
    let placed : AreAllPlaced scope (c.placed-item.result ∷ drop (i + 1) exprs) = subst (AreAllPlaced scope) split before.0 in (
      placed.1,
      ap (λ (values : List Value). values ++ values_over scope row (drop (i + 1) exprs)) c.in_ok-push.ensures.ok
          ∙ moved-one c.loop-placed.values (values_over scope row (drop (i + 1) exprs)) c.in_ok-value.value (meaning scope row c.placed-item.result).value (c.in_ok-value.ensures scope placed.0)
          ∙ ap (λ (ps : List BoundExpr). c.loop-placed.values ++ values_over scope row ps) (sym split)
          ∙ before.1,
    )
