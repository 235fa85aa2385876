use Rattle.std.proofs.Common.{◌≡◌, ◌++◌, drop}
use Rattle.run_model.specs.Packing.{has_name, reason_at, tables_because}
use Rattle.run_model.proofs.packing.pack_tables.Given as goal

abbrev pub invariant-loop-table : goal.invariant-loop-table
invariant-loop-table l = l.packed ++ tables_because (reason_at l.reasons) (has_name l.names) (drop l.table-index l.tables) ≡ tables_because (reason_at l.reasons) (has_name l.names) l.tables
