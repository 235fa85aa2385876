use Rattle.std.proofs.Common.{◌≡◌, ◌++◌, ◌*◌, length, map}
use Rattle.lineage.specs.Flat.{rows_in}
use Rattle.query_eval.specs.inner.Slots.{pick_at}
use Rattle.query_eval.proofs.picking.picks_of.Given as goal

abbrev pub invariant-rows : goal.invariant-rows
invariant-rows l = record {
  same : l.width ≡ l.rows.width;
  long : length l.left ≡ l.count * l.width;
  picks : l.picks ++ map (pick_at l.keep l.sources) (rows_in l.count l.width l.left) ≡ map (pick_at l.keep l.sources) l.rows.rows;
}

abbrev pub decreases-rows : goal.decreases-rows
decreases-rows l = l.count
