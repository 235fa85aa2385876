use Rattle.package_layout.proofs.Package.{too_long_is, within_limit}
use Rattle.package_layout.proofs.spelling.append_digest.Goals as goal

pub returns-then-len-clause-too_long : goal.returns-then-len-clause-too_long
returns-then-len-clause-too_long c = λ _. too_long_is c.args.body c.len.result c.len.ensures c.if-len.true

pub returns-clause-within : goal.returns-clause-within
returns-clause-within c = within_limit c.args.body c.in_ok-with_digest.field-0 c.len.result c.len.ensures c.if-len.false c.in_ok-with_digest.ensures
