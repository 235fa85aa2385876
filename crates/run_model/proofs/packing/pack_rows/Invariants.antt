use Rattle.std.proofs.Common.{◌≡◌, ◌++◌, drop}
use Rattle.std.specs.List.{filter_map}
use Rattle.run_model.specs.Packing.{row_because, row_reason}
use Rattle.run_model.proofs.packing.pack_rows.Given as goal

abbrev pub invariant-loop-row : goal.invariant-loop-row
invariant-loop-row l = l.packed ++ filter_map (row_because (row_reason l.reasons)) (drop l.row-index l.rows) ≡ filter_map (row_because (row_reason l.reasons)) l.rows
