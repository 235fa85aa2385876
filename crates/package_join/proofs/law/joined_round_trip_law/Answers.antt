use Rattle.package_join.proofs.ReadJoins.{round_trip_law, one_spelling_law}
use Rattle.package_join.proofs.law.joined_round_trip_law.Goals as goal

pub returns-clause-again : goal.returns-clause-again
returns-clause-again c = round_trip_law

pub returns-clause-unique : goal.returns-clause-unique
returns-clause-unique c = one_spelling_law
