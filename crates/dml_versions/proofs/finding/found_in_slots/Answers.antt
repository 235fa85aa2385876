use Rattle.std.proofs.Common.{subst, sym, List}
use Rattle.sql_model.specs.declared.column_test.ColumnTest.{ColumnTest}
use Rattle.dml_versions.specs.inner.Testing.{AreTests, AreExactTests}
use Rattle.dml_versions.specs.Types.{Schema}
use Rattle.dml_versions.proofs.finding.found_in_slots.Goals as goal

pub found_by_tests-requires-clause-tests : goal.found_by_tests-requires-clause-tests
found_by_tests-requires-clause-tests c =
    let pick = c.args.pick.now in
    let places = c.args.places.now in
    subst (λ (l : List ColumnTest). AreTests pick places c.args.table.now.schema.columns l) (sym c.as_slice.ensures.value)
    (subst (λ (s : Schema). AreTests pick places s.columns c.in_ok-made.made.tests.items) c.schema.ensures c.in_ok-made.ensures.tests)

pub found_by_tests-requires-clause-exact : goal.found_by_tests-requires-clause-exact
found_by_tests-requires-clause-exact c = λ is.
    subst (AreExactTests c.args.pick.now c.args.places.now) (sym c.as_slice.ensures.value) (c.in_ok-made.ensures.exact is)
