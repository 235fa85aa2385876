use Rattle.std.proofs.Common.{◌+◌, drop}
use Rattle.ldv_value.proofs.Places.{drop_item}
use Rattle.predicates.proofs.Lists.{IfSome-weaker}
use Rattle.predicates.proofs.FixingLaws.{all-fix}
use Rattle.predicates.specs.Fixing.{AllFix, Fixes}
use Rattle.predicates.proofs.fixing.constant_at.Goals as goal

pub returns-then-is_some : goal.returns-then-is_some
returns-then-is_some c =
    let conds = c.args.conds.now in
    let i = c.loop-cond.cond-index in
    let cond = c.cond-item.result in
    let at = c.args.at in
    IfSome-weaker c.in_ok-found.found (Fixes cond at) (AllFix conds at)
    (λ value fixes. all-fix conds (drop (i + 1) conds) i cond at value (drop_item conds i cond c.loop-cond-test.true c.cond-item.is) fixes)
    c.in_ok-found.ensures
