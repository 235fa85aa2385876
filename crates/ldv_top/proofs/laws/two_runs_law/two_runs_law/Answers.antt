use Rattle.ldv_top.proofs.JoinLaws as joins
use Rattle.ldv_top.proofs.laws.two_runs_law.two_runs_law.Goals as goal

pub returns-clause-pair : goal.returns-clause-pair
returns-clause-pair c =
    joins.pair_law c.round_trip_law.ensures.again c.round_trip_law.ensures.counted c.package_law.ensures.valid c.package_law.ensures.typed
    c.package_law.ensures.tables c.between_law.ensures.between c.join_law.ensures.between c.pick_law.ensures.valid
    c.joined_round_trip_law.ensures.again

pub returns-clause-replayed : goal.returns-clause-replayed
returns-clause-replayed c =
    joins.two_runs_law c.round_trip_law.ensures.again c.round_trip_law.ensures.counted c.package_law.ensures.valid c.package_law.ensures.typed
    c.package_law.ensures.tables c.between_law.ensures.between c.join_law.ensures.between c.pick_law.ensures.valid
    c.joined_round_trip_law.ensures.again

pub returns-clause-any : goal.returns-clause-any
returns-clause-any c =
    joins.any_joined_law c.round_trip_law.ensures.again c.round_trip_law.ensures.counted c.package_law.ensures.valid c.package_law.ensures.typed
    c.package_law.ensures.tables c.between_law.ensures.between c.join_law.ensures.between c.pick_law.ensures.valid
    c.joined_round_trip_law.ensures.again
