use Rattle.std.proofs.Common.{◌≡◌, ◌++◌, length}
use Rattle.query_eval.specs.Finishing.{sort_columns}
use Rattle.query_eval.proofs.sort.sort_columns.Given as goal

abbrev pub invariant-columns : goal.invariant-columns
invariant-columns l = l.columns.items ++ sort_columns l.left l.right ≡ sort_columns l.fn.places l.fn.parts

abbrev pub decreases-columns : goal.decreases-columns
decreases-columns l = length l.left
