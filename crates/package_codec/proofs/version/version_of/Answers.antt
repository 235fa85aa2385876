use Rattle.package_codec.proofs.Versions.{version_exact, version_none}
use Rattle.package_codec.proofs.version.version_of.Goals as goal

pub returns-clause-exact : goal.returns-clause-exact
returns-clause-exact c = version_exact c.args.bytes.now c.version_in.result c.version_in.ensures

pub returns-clause-none : goal.returns-clause-none
returns-clause-none c = version_none c.args.bytes.now c.version_in.result c.version_in.ensures
