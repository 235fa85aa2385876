use Rattle.std.proofs.Common.{◌≡◌, ◌++◌, drop, map}
use Rattle.group_eval.specs.inner.Columns.{known_column}
use Rattle.group_eval.proofs.columns.column_values.Given as goal

abbrev pub invariant-loop-pick : goal.invariant-loop-pick
invariant-loop-pick l = l.values ++ known_column l.place (map (λ r. r.now) (drop l.pick-index l.group)) ≡ known_column l.place (map (λ r. r.now) l.group)
