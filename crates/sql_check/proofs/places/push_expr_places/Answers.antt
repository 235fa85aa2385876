use Rattle.std.proofs.Common.{◌+◌, ◌++◌, drop, ap, ◌∙◌}
use Rattle.std.specs.List.{flat_map}
use Rattle.sql_model.specs.Kinds.{names_in}
use Rattle.sql_model.specs.Scope.{places_in}
use Rattle.sql_check.proofs.Steps.{places_step}
use Rattle.sql_check.proofs.places.push_expr_places.Goals as goal

pub loop-expr-preserved : goal.loop-expr-preserved
loop-expr-preserved c =
    ap (λ made. made ++ places_in c.args.scope.now (flat_map names_in (drop (c.loop-expr.expr-index + 1) c.args.exprs.now))) c.in_ok-push_places.ensures
    ∙ places_step c.args.scope.now names_in c.loop-expr.places.items c.args.exprs.now c.loop-expr.expr-index c.expr-item.result c.loop-expr-test.true c.expr-item.is
    ∙ c.loop-expr.invariant
