use Rattle.std.proofs.Common.{◌+◌, ◌++◌, drop, ap, ◌∙◌}
use Rattle.sql_model.specs.Scope.{in_source, scope_of}
use Rattle.sql_check.specs.inner.Sources.{entries}
use Rattle.sql_check.proofs.Steps.{flat_step}
use Rattle.sql_check.proofs.scope.scope_of.Goals as goal

pub loop-item-preserved : goal.loop-item-preserved
loop-item-preserved c =
    ap (λ made. made ++ scope_of (drop (c.loop-item.item-index + 1) c.args.from.now) c.args.catalog.now) c.in_ok-push_entries.ensures
    ∙ ap (λ columns. (c.loop-item.scope.items ++ entries c.item-item.result.name columns) ++ scope_of (drop (c.loop-item.item-index + 1) c.args.from.now) c.args.catalog.now) c.columns_of.ensures
    ∙ flat_step (in_source c.args.catalog.now) c.loop-item.scope.items c.args.from.now c.loop-item.item-index c.item-item.result c.loop-item-test.true c.item-item.is
    ∙ c.loop-item.invariant
