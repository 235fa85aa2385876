use Rattle.std.proofs.Common.{subst, sym, Option}
use Rattle.dml_versions.proofs.TestLaws.{no_tests, no_tests_exact}
use Rattle.dml_versions.specs.inner.Testing.{AreTests, AreExactTests}
use Rattle.dml_versions.specs.Types.{Expr}
use Rattle.dml_versions.proofs.tested.picked_tests.Goals as goal

pub returns-in-None-clause-tests : goal.returns-in-None-clause-tests
returns-in-None-clause-tests c =
    subst (λ (pick : Option Expr). AreTests pick c.args.places.now c.args.columns.now c.new.result.items) (sym c.in-None.is)
    (no_tests c.args.places.now c.args.columns.now c.new.result.items c.new.ensures.items)

pub returns-in-None-clause-exact : goal.returns-in-None-clause-exact
returns-in-None-clause-exact c = λ _.
    subst (λ (pick : Option Expr). AreExactTests pick c.args.places.now c.new.result.items) (sym c.in-None.is)
    (no_tests_exact c.args.places.now c.new.result.items)
