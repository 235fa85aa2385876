use Rattle.dml_versions.proofs.MadeLaws.{plain_is}
use Rattle.dml_versions.proofs.rows.plain_value.Goals as goal

pub returns : goal.returns
returns c = plain_is c.args.expr.now c.in_ok-value.value c.requires c.in_ok-value.ensures
