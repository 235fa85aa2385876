use Rattle.run_model.proofs.ValidWorlds.{world_tables, valid_runs}
use Rattle.replay_db.proofs.OwnWorlds.{own_runs, own_valid}
use Rattle.replay_db.proofs.PackageValid.{valid_package, typed_package}
use Rattle.replay_db.proofs.law.package_law.Goals as goal

pub returns-clause-tables : goal.returns-clause-tables
returns-clause-tables c = world_tables

pub returns-clause-valid : goal.returns-clause-valid
returns-clause-valid c = valid_package c.steps_law.ensures.logs c.world_events_law.ensures

pub returns-clause-typed : goal.returns-clause-typed
returns-clause-typed c = typed_package c.steps_law.ensures.logs c.world_events_law.ensures

pub returns-clause-runs : goal.returns-clause-runs
returns-clause-runs c = valid_runs

pub returns-clause-own_runs : goal.returns-clause-own_runs
returns-clause-own_runs c = own_runs

pub returns-clause-own_world : goal.returns-clause-own_world
returns-clause-own_world c = own_valid

pub returns-clause-own_tables : goal.returns-clause-own_tables
returns-clause-own_tables c = c.fitting_law.ensures.own
