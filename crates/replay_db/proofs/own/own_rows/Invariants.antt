use Rattle.std.proofs.Common.{◌≡◌, map, take}
use Rattle.run_model.specs.Package.{own_row}
use Rattle.replay_db.proofs.own.own_rows.Given as goal

abbrev pub invariant-loop-row : goal.invariant-loop-row
invariant-loop-row l = l.rows ≡ map own_row (take l.row-index l.row-items)
