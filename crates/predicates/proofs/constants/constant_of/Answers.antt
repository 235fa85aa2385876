use Rattle.std.proofs.Common.{rules, ◌≡◌, ◌∙◌, sym, true}
use Rattle.predicates.proofs.ConstantLaws.{constant_is}
use Rattle.predicates.specs.inner.Constants.{is_nameless}
use Rattle.predicates.proofs.constants.constant_of.Goals as goal

pub returns-clause-value : goal.returns-clause-value
returns-clause-value c =
    let expr = c.args.expr.now in
    let is : c.is_nameless.result ≡ true = search rules in
    let named : is_nameless expr ≡ true = sym c.is_nameless.ensures ∙ is in
    constant_is expr c.in_ok-value.value named c.in_ok-value.ensures
