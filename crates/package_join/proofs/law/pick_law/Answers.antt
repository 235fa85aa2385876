use Rattle.package_join.proofs.Picks.{pick_law, anew_law}
use Rattle.package_join.proofs.ValidJoins.{valid_law}
use Rattle.package_join.proofs.law.pick_law.Goals as goal

pub returns-clause-picks : goal.returns-clause-picks
returns-clause-picks c = pick_law

pub returns-clause-anew : goal.returns-clause-anew
returns-clause-anew c = anew_law

pub returns-clause-valid : goal.returns-clause-valid
returns-clause-valid c = valid_law
