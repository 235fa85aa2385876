use Rattle.std.proofs.Common.{drop}
use Rattle.std.specs.Prelude.{IfSome}
use Rattle.std.proofs.lemmas.Result.{IfOk-weaker}
use Rattle.predicates.proofs.Lists.{IfSome-weaker}
use Rattle.predicates.specs.Fixing.{IsFixing, Fixes}
use Rattle.predicates.proofs.FixingLaws.{fixes-is}
use Rattle.predicates.proofs.fixing.constant_by.Goals as goal

pub returns-then-place-at : goal.returns-then-place-at
returns-then-place-at c =
    let cond = c.args.cond.now in
    let at = c.args.at in
    IfOk-weaker c.constant_of_equality.result (λ found. IfSome found (IsFixing cond.expr)) (λ found. IfSome found (Fixes cond at))
    (λ found are. IfSome-weaker found (IsFixing cond.expr) (Fixes cond at)
    (λ value is. fixes-is cond at c.in-Some.place.now (drop 1 cond.places) value is c.in-Some.ensures.rest c.if-place-at.true) are)
    c.constant_of_equality.ensures
