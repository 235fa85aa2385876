-- The logs of good runs meet the rules for the logs of a package.
use Rattle.std.proofs.Common.{◌≡◌, List, true}
use Rattle.std.specs.Prelude.{IsTrue}
use Rattle.std.specs.List.{list_all, AllByRecursion}
use Rattle.ldv_value.specs.Sorted.{is_strictly_sorted}
use Rattle.ldv_value.proofs.Booleans.{and-from}
use Rattle.ldv_value.proofs.Lists.{all-weaker, tested-all}
use Rattle.run_model.specs.TypedPackage.{TypedLog}
use Rattle.run_model.specs.ValidPackage.{log_rule, log_precedes, logs_rule}
use Rattle.package_codec.specs.Room.{log_room}
use Rattle.value_laws.specs.Steps.{GoodLog, GoodLogs}
use Rattle.replay_db.specs.Types.{Log}

pub logs_valid : (logs : List Log) → GoodLogs logs → logs_rule logs ≡ true
logs_valid logs good =
    and-from (list_all log_rule logs) (is_strictly_sorted log_precedes logs)
    (tested-all log_rule logs
    (all-weaker GoodLog (λ l. IsTrue (log_rule l)) (λ l here. here.ruled) logs good.each))
    good.sorted

pub logs_roomy : (logs : List Log) → GoodLogs logs → list_all log_room logs ≡ true
logs_roomy logs good =
    tested-all log_room logs
    (all-weaker GoodLog (λ l. IsTrue (log_room l)) (λ l here. here.room) logs good.each)

pub logs_typed : (logs : List Log) → GoodLogs logs → AllByRecursion TypedLog logs
logs_typed logs good = all-weaker GoodLog TypedLog (λ l here. here.typed) logs good.each
