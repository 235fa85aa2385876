use Rattle.std.proofs.Common.{ℕ, List, ◌+◌, ◌++◌, drop, ap, ◌∙◌}
use Rattle.std.specs.Prelude.{find, option_to_list}
use Rattle.sql_model.specs.Refusals.{columns_named}
use Rattle.sql_model.specs.Scope.{is_column}
use Rattle.sql_check.proofs.Steps.{flat_step}
use Rattle.sql_check.proofs.values.columns_named.Goals as goal

pub loop-name-preserved : goal.loop-name-preserved
loop-name-preserved c =
    ap (λ made. made ++ columns_named c.args.columns.now (drop (c.loop-name.name-index + 1) c.args.names.now)) c.in_ok-push_named.ensures
    ∙ flat_step (λ (name : List ℕ). option_to_list (find (is_column name) c.args.columns.now)) c.loop-name.targets.items c.args.names.now c.loop-name.name-index c.name-item.result c.loop-name-test.true c.name-item.is
    ∙ c.loop-name.invariant
