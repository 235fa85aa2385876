use Rattle.std.proofs.Common.{subst, List}
use Rattle.predicates.specs.Masking.{AreMasks}
use Rattle.predicates.specs.declared.placed.BoundExpr.{BoundExpr}
use Rattle.dml_versions.proofs.tested.some_tests.Goals as goal

pub returns-clause-tests : goal.returns-clause-tests
returns-clause-tests c =
    subst (λ (l : List BoundExpr). AreMasks l 0 c.args.columns.now c.in_ok-tests.tests.items) c.items.ensures c.in_ok-tests.ensures
