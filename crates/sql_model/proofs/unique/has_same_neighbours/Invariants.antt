use Rattle.std.proofs.Common.{◌≡◌, length}
use Rattle.std.specs.Ordering.{eq_by_cmp}
use Rattle.sql_model.specs.Keys.{has_same_neighbours}
use Rattle.sql_model.proofs.unique.has_same_neighbours.Given as goal

abbrev pub invariant-loop-left : goal.invariant-loop-left
invariant-loop-left g l =
    has_same_neighbours (eq_by_cmp g.K.Ord.cmp) l.fn.items ≡ has_same_neighbours (eq_by_cmp g.K.Ord.cmp) l.left

abbrev pub decreases-loop-left : goal.decreases-loop-left
decreases-loop-left g l = length l.left
