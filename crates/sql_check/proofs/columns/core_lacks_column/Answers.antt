use Rattle.std.proofs.Common.{ap, ◌∙◌}
use Rattle.sql_model.specs.Refusals.{lacks_in_scope}
use Rattle.sql_model.specs.Scope.{scope_of}
use Rattle.sql_check.proofs.columns.core_lacks_column.Goals as goal

pub returns : goal.returns
returns c =
    c.lacks_in_scope.ensures
    ∙ ap (λ scope. lacks_in_scope scope c.args.core.now) (c.deref-2.ensures.value ∙ c.in_ok-scope.ensures)
    ∙ ap (λ from. lacks_in_scope (scope_of from c.args.catalog.now) c.args.core.now) c.items.ensures
