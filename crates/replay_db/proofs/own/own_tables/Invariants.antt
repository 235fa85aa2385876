use Rattle.std.proofs.Common.{◌≡◌, map, take}
use Rattle.run_model.specs.Package.{own_table}
use Rattle.replay_db.proofs.own.own_tables.Given as goal

abbrev pub invariant-loop-table : goal.invariant-loop-table
invariant-loop-table l = l.tables ≡ map own_table (take l.table-index l.table-items)
