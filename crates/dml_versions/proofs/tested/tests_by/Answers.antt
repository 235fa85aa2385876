use Rattle.std.proofs.Common.{inl, inr}
use Rattle.std.proofs.lemmas.Bool.{cases_Bool}
use Rattle.dml_versions.proofs.TestLaws.{tests-are, exact-tests, exact-match}
use Rattle.dml_versions.proofs.tested.tests_by.Goals as goal

pub returns-clause-tests : goal.returns-clause-tests
returns-clause-tests c =
    let expr = c.args.expr.now in
    let places = c.args.places.now in
    let columns = c.args.columns.now in
    let conds = c.in_ok-conds.conds in
    let tests = c.in_ok-made.made.tests.items in
    elim (cases_Bool c.in_ok-made.made.exact) [
      | inl hit ↦ exact-tests expr places columns conds tests c.in_ok-conds.ensures (c.in_ok-made.ensures.exact hit)
      | inr miss ↦ tests-are expr places columns conds tests c.in_ok-conds.ensures (c.in_ok-made.ensures.masks miss)
    ]

pub returns-clause-exact : goal.returns-clause-exact
returns-clause-exact c = λ is.
    exact-match c.args.expr.now c.args.places.now c.args.columns.now c.in_ok-conds.conds c.in_ok-made.made.tests.items c.in_ok-conds.ensures (c.in_ok-made.ensures.exact is)
