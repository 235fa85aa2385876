use Rattle.std.proofs.Common.{◌≡◌, ◌++◌, ◌*◌, length}
use Rattle.std.specs.Prelude.{filter}
use Rattle.lineage.specs.Flat.{rows_in}
use Rattle.query_eval.specs.inner.Slots.{slots_meet}
use Rattle.query_eval.proofs.joining.keep_matching.Given as goal

abbrev pub invariant-rows : goal.invariant-rows
invariant-rows l = record {
  width : l.made.width ≡ l.width;
  same : l.width ≡ l.rows.width;
  long : length l.left ≡ l.count * l.width;
  rows : l.made.rows ++ filter (slots_meet l.conds l.sources) (rows_in l.count l.width l.left) ≡ filter (slots_meet l.conds l.sources) l.rows.rows;
}

abbrev pub decreases-rows : goal.decreases-rows
decreases-rows l = l.count
