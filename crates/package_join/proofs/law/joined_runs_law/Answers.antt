use Rattle.package_join.proofs.RunsOfJoins.{runs_law}
use Rattle.package_join.proofs.law.joined_runs_law.Goals as goal

pub returns : goal.returns
returns c = runs_law
