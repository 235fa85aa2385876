use Rattle.std.proofs.Common.{◌≡◌, drop}
use Rattle.query_eval.specs.inner.Joining.{known_values, values_before}
use Rattle.query_eval.specs.inner.Slots.{values_at}
use Rattle.query_eval.proofs.TieKeys.{known_onto}
use Rattle.query_eval.proofs.index.known_before.Given as goal

abbrev pub invariant-loop-tie : goal.invariant-loop-tie
invariant-loop-tie l = known_onto l.values (values_before (drop l.tie-index l.ties) (values_at l.sources l.slots)) ≡ known_values (values_before l.ties (values_at l.sources l.slots))
