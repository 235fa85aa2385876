use Rattle.std.proofs.Common.{rules, ◌≡◌, ◌∙◌, sym, subst, List, true, false}
use Rattle.std.proofs.lemmas.Result.{IfOk-weaker}
use Rattle.ldv_value.proofs.Booleans.{true≢false}
use Rattle.predicates.specs.Masking.{AreMasks, AreExact}
use Rattle.predicates.specs.declared.placed.BoundExpr.{BoundExpr}
use Rattle.dml_versions.specs.declared.tested.WhereTests.{WhereTests}
use Rattle.dml_versions.proofs.tested.tests_of_conjuncts.Goals as goal

pub returns-in-None-clause-masks : goal.returns-in-None-clause-masks
returns-in-None-clause-masks c =
    let conds = c.args.conds.now in
    let columns = c.args.columns.now in
    IfOk-weaker c.some_tests.result
    (λ (made : WhereTests). AreMasks conds 0 columns made.tests.items)
    (λ (made : WhereTests). made.exact ≡ false → AreMasks conds 0 columns made.tests.items)
    (λ made are not. are)
    c.some_tests.ensures.tests

pub returns-in-None-clause-exact : goal.returns-in-None-clause-exact
returns-in-None-clause-exact c =
    IfOk-weaker c.some_tests.result
    (λ (made : WhereTests). made.exact ≡ false)
    (λ (made : WhereTests). made.exact ≡ true → AreExact c.args.conds.now 0 c.args.columns.now made.tests.items)
    (λ made not is. absurd (true≢false (sym is ∙ not)))
    c.some_tests.ensures.exact

pub returns-in-Some-clause-masks : goal.returns-in-Some-clause-masks
returns-in-Some-clause-masks c = λ not. absurd (true≢false not)

pub returns-in-Some-clause-exact : goal.returns-in-Some-clause-exact
returns-in-Some-clause-exact c = λ _.
    let tests = c.in-Some.tests.items in
    let exact : AreExact c.items.result.now 0 c.args.columns.now tests = search rules in
    subst (λ (l : List BoundExpr). AreExact l 0 c.args.columns.now tests) c.items.ensures exact
