use Rattle.std.specs.BTreeSet.{contains}
use Rattle.std.specs.Ordering.{eq_by_cmp}
use Rattle.sql_model.specs.Keys.{repeats}
use Rattle.sql_model.proofs.Seen.{IsRest}
use Rattle.sql_model.proofs.repeats.has_twice.Given as goal

abbrev pub invariant-loop-key : goal.invariant-loop-key
invariant-loop-key g l = IsRest (eq_by_cmp g.K.Ord.cmp) (repeats (eq_by_cmp g.K.Ord.cmp) l.fn.keys.items) (contains g.K.Ord.cmp l.seen) l.key-iterator.rest.items
