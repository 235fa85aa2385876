use Rattle.std.proofs.Common.{List, ◌++◌, length}
use Rattle.predicates.specs.Fixing.{FixesAll}
use Rattle.predicates.specs.Types.{Value}
use Rattle.predicates.proofs.fixing.fixed_values.Given as goal

abbrev pub invariant-columns : goal.invariant-columns
invariant-columns l = (rest : List Value) → FixesAll l.conds l.before l.width l.left rest → FixesAll l.conds l.before l.width l.fn.columns (l.values ++ rest)

abbrev pub decreases-columns : goal.decreases-columns
decreases-columns l = length l.left
