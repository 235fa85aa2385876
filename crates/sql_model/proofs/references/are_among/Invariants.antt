use Rattle.std.proofs.Common.{◌≡◌, true, take}
use Rattle.std.specs.List.{list_all}
use Rattle.sql_model.specs.inner.KeySets.{refers_among}
use Rattle.sql_model.proofs.references.are_among.Given as goal

abbrev pub invariant-loop-row : goal.invariant-loop-row
invariant-loop-row l = list_all (refers_among l.keys l.foreign) (take l.row-index l.row-items) ≡ true
