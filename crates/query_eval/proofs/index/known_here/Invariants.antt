use Rattle.std.proofs.Common.{◌≡◌, drop}
use Rattle.query_eval.specs.inner.Joining.{known_values, values_here}
use Rattle.query_eval.specs.inner.Slots.{row_at}
use Rattle.query_eval.proofs.TieKeys.{known_onto}
use Rattle.query_eval.proofs.index.known_here.Given as goal

abbrev pub invariant-loop-tie : goal.invariant-loop-tie
invariant-loop-tie l = known_onto l.values (values_here (drop l.tie-index l.ties) (row_at l.rows l.slot).values) ≡ known_values (values_here l.ties (row_at l.rows l.slot).values)
