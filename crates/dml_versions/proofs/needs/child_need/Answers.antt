use Rattle.dml_versions.specs.Types.{C}
use Rattle.dml_versions.proofs.needs.child_need.Goals as goal

pub returns : goal.returns
returns c = λ there j. record {
  member = record { table = c.in_ok-copy.ensures j; row = c.args.row; version = c.version_in.ensures there j };
  rule = C;
}
