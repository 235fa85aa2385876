-- A valid package can be run over its recorded replies.
use Rattle.std.specs.Prelude.{◌&&◌}
use Rattle.std.specs.List.{list_all}
use Rattle.ldv_value.proofs.Booleans.{and-parts}
use Rattle.ldv_value.specs.Sorted.{is_strictly_sorted}
use Rattle.run_model.specs.ValidPackage.{log_precedes, files_rule, tables_rule, start_rule, log_rule, logs_rule, script_rule, parts_rule, whole_rule}
use Rattle.run_model.proofs.OwnFiles.{own_files}
use Rattle.run_model.proofs.StartScripts.{own_script}
use Rattle.replay_log.specs.Replays.{CanReplayLaw}

pub valid_replays : CanReplayLaw
valid_replays p valid =
    let all = and-parts (parts_rule p && whole_rule p) (script_rule p.start p.files) valid in
    let parts = and-parts (parts_rule p) (whole_rule p) all.0 in
    let logs = and-parts (start_rule p.start && files_rule p.files && tables_rule p.tables) (logs_rule p.logs) parts.0 in
    let tables = and-parts (start_rule p.start && files_rule p.files) (tables_rule p.tables) logs.0 in
    let files = and-parts (start_rule p.start) (files_rule p.files) tables.0 in
    let sorted = and-parts (list_all log_rule p.logs) (is_strictly_sorted log_precedes p.logs) logs.1 in
    record {
      script = own_script p.start p.files all.1;
      files = own_files p.files files.1;
      logs = sorted.1;
    }
