use Rattle.std.specs.Prelude.{IfSome}
use Rattle.std.proofs.lemmas.Result.{IfOk-weaker}
use Rattle.predicates.proofs.Lists.{IfSome-weaker}
use Rattle.predicates.specs.inner.Constants.{IsConstant}
use Rattle.predicates.specs.Fixing.{IsFixing}
use Rattle.predicates.specs.Types.{Compare}
use Rattle.ldv_value.specs.declared.value.Cmp.TheVariants.{Eq}
use Rattle.sql_model.specs.declared.expr.Expr.TheVariants.{Both}
use Rattle.predicates.proofs.fixing.constant_beside.Goals as goal

pub returns-in-Some : goal.returns-in-Some
returns-in-Some c =
    let side = c.in-Some.side.now in
    let fixing = IsFixing (Both (Compare Eq) c.args.left.now c.args.right.now) in
    IfOk-weaker c.constant_of.result (λ found. IfSome found (IsConstant side)) (λ found. IfSome found fixing)
    (λ found are. IfSome-weaker found (IsConstant side) fixing c.in-Some.ensures are)
    c.constant_of.ensures.value
