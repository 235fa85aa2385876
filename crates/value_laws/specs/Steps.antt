-- The law of steps: all statements and replies of a run are good, so its logs are those of a valid package.
use Rattle.std.specs.Prelude.{◌≡◌, ℕ, List, true, IsTrue}
use Rattle.std.specs.List.{AllByRecursion}
use Rattle.std.specs.Str.{IsUtf8}
use Rattle.ldv_value.specs.Sorted.{is_strictly_sorted}
use Rattle.sql_model.specs.Tables.{tables_test}
use Rattle.run_model.specs.declared.package.Log.{Log}
use Rattle.run_model.specs.declared.world.World.{World}
use Rattle.run_model.specs.TypedPackage.{TypedLog}
use Rattle.run_model.specs.ValidPackage.{start_rule, log_rule, log_precedes}
use Rattle.run_model.specs.WorldRun.{logs_by}
use Rattle.package_codec.specs.Room.{log_room}
use Rattle.value_laws.specs.Values.{GoodTables}

-- what every valid world meets
pub record GoodWorld (w : World) : Type 0 where
  pub texts : AllByRecursion IsUtf8 w.start
  pub words : IsTrue (start_rule w.start)
  pub tables : GoodTables w.tables
  pub valid : tables_test w.tables ≡ true

-- what the types, the rules and the fields of packages ask of a log
pub record GoodLog (log : Log) : Type 0 where
  pub typed : TypedLog log
  pub ruled : IsTrue (log_rule log)
  pub room : IsTrue (log_room log)

pub record GoodLogs (logs : List Log) : Type 0 where
  pub each : AllByRecursion GoodLog logs
  pub sorted : IsTrue (is_strictly_sorted log_precedes logs)

-- after any steps of a good world, whatever chooses: the seed, or any picks
abbrev pub StepsLaw : Type 0
StepsLaw = (n : ℕ) (picks : List ℕ) (w : World) → GoodWorld w → GoodLogs (logs_by n picks w)
