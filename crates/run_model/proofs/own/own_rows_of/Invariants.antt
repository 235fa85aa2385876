use Rattle.std.proofs.Common.{◌≡◌, ◌++◌, map}
use Rattle.run_model.specs.Package.{own_row}
use Rattle.run_model.proofs.own.own_rows_of.Given as goal

abbrev pub invariant-loop-row : goal.invariant-loop-row
invariant-loop-row l = map own_row l.fn.packed ≡ l.rows ++ map own_row l.row-iterator.rest.items
