use Rattle.std.proofs.Common.{◌≡◌, ◌++◌, drop}
use Rattle.query_eval.proofs.picking.add_values.Given as goal

abbrev pub invariant-loop-value : goal.invariant-loop-value
invariant-loop-value l = l.values ++ drop l.value-index l.value-items ≡ l.fn.values ++ l.row.values
