use Rattle.std.proofs.Common.{◌≡◌, ◌+◌, ◌<◌, rules}
use Rattle.std.specs.Prelude.{IfSome}
use Rattle.std.proofs.lemmas.Result.{IfOk-weaker}
use Rattle.predicates.proofs.Lists.{IfSome-weaker}
use Rattle.predicates.specs.Fixing.{AllFix, FixesColumn}
use Rattle.predicates.proofs.FixingLaws.{fixed-column}
use Rattle.predicates.proofs.fixing.fixed_value.Goals as goal

pub returns-in-Some : goal.returns-in-Some
returns-in-Some c =
    let conds = c.args.conds.now in
    let within : c.args.column < c.args.width = search rules in
    let sum : c.in-Some.at ≡ c.args.before + c.args.column = search rules in
    IfOk-weaker c.constant_at.result (λ found. IfSome found (AllFix conds c.in-Some.at)) (λ found. IfSome found (FixesColumn conds c.args.before c.args.width c.args.column))
    (λ found are. IfSome-weaker found (AllFix conds c.in-Some.at) (FixesColumn conds c.args.before c.args.width c.args.column)
    (λ value all. fixed-column conds c.args.before c.args.width c.args.column c.in-Some.at value within sum all) are)
    c.constant_at.ensures
