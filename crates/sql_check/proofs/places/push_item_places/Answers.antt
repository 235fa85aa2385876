use Rattle.std.proofs.Common.{◌+◌, ◌++◌, drop, ap, ◌∙◌}
use Rattle.sql_model.specs.declared.statement.Item.{Item}
use Rattle.sql_model.specs.Kinds.{names_in}
use Rattle.sql_model.specs.Refusals.{names_of_items}
use Rattle.sql_model.specs.Scope.{places_in}
use Rattle.sql_check.proofs.Steps.{places_step}
use Rattle.sql_check.proofs.places.push_item_places.Goals as goal

pub loop-item-preserved : goal.loop-item-preserved
loop-item-preserved c =
    ap (λ made. made ++ places_in c.args.scope.now (names_of_items (drop (c.loop-item.item-index + 1) c.args.items.now))) c.in_ok-push_places.ensures
    ∙ places_step c.args.scope.now (λ (item : Item). names_in item.expr) c.loop-item.places.items c.args.items.now c.loop-item.item-index c.item-item.result c.loop-item-test.true c.item-item.is
    ∙ c.loop-item.invariant
