use Rattle.std.proofs.Common.{◌+◌, ◌++◌, drop, ap, ◌∙◌}
use Rattle.std.specs.List.{flat_map}
use Rattle.sql_model.specs.declared.statement.Set.{Set}
use Rattle.sql_model.specs.Kinds.{names_in}
use Rattle.sql_model.specs.Scope.{places_in}
use Rattle.sql_check.proofs.Steps.{places_step}
use Rattle.sql_check.proofs.places.push_set_places.Goals as goal

pub loop-set-preserved : goal.loop-set-preserved
loop-set-preserved c =
    ap (λ made. made ++ places_in c.args.scope.now (flat_map (λ set. names_in set.expr) (drop (c.loop-set.set-index + 1) c.args.sets.now))) c.in_ok-push_places.ensures
    ∙ places_step c.args.scope.now (λ (set : Set). names_in set.expr) c.loop-set.places.items c.args.sets.now c.loop-set.set-index c.set-item.result c.loop-set-test.true c.set-item.is
    ∙ c.loop-set.invariant
