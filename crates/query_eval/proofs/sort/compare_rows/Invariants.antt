use Rattle.std.proofs.Common.{◌≡◌, map, length}
use Rattle.query_eval.specs.Finishing.{as_key}
use Rattle.sql_model.specs.QueryAnswer.{order_by}
use Rattle.query_eval.proofs.sort.compare_rows.Given as goal

abbrev pub invariant-columns : goal.invariant-columns
invariant-columns l = order_by (map as_key l.fn.columns) l.a l.b ≡ order_by (map as_key l.left) l.a l.b

abbrev pub decreases-columns : goal.decreases-columns
decreases-columns l = length l.left
