use Rattle.std.proofs.Common.{◌≡◌, IfOk, ap, ◌∙◌, subst}
use Rattle.sql_model.specs.Refusals.{kinds_in_scope}
use Rattle.sql_model.specs.Scope.{scope_of}
use Rattle.sql_check.proofs.union.core_kinds.Goals as goal

pub returns : goal.returns
returns c =
    let scope_is = c.deref.ensures.value ∙ c.in_ok-scope.ensures ∙ ap (λ from. scope_of from c.args.catalog.now) c.items.ensures in
    subst (λ scope. IfOk c.kinds_in_scope.result (λ kinds. kinds ≡ kinds_in_scope scope c.args.core.now)) scope_is c.kinds_in_scope.ensures
