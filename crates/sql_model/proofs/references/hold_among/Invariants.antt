use Rattle.std.proofs.Common.{◌≡◌, length}
use Rattle.std.specs.List.{list_all}
use Rattle.sql_model.specs.inner.KeySets.{hold_in}
use Rattle.sql_model.proofs.references.hold_among.Given as goal

-- what is left, of the tables that are left
abbrev pub invariant-loop-rest : goal.invariant-loop-rest
invariant-loop-rest l = list_all (hold_in l.fn.parents) l.fn.referring.items ≡ list_all (hold_in l.rest) l.left.items

abbrev pub decreases-loop-rest : goal.decreases-loop-rest
decreases-loop-rest l = length l.rest
