use Rattle.std.proofs.Common.{◌≡◌, ◌*◌, drop, pos, ◌+ℤ◌, neg_ℤ, ◌≤ℤ◌}
use Rattle.sql_model.specs.Meaning.{total}
use Rattle.group_eval.proofs.folds.total.Given as goal

abbrev pub invariant-loop-value : goal.invariant-loop-value
invariant-loop-value l = record {
  sum : l.sum +ℤ total (drop l.value-index l.values) ≡ total l.values;
  above : neg_ℤ (pos (9223372036854775808 * l.value-index)) ≤ℤ l.sum;
  below : l.sum ≤ℤ pos (9223372036854775808 * l.value-index);
}
