use Rattle.std.proofs.Common.{◌≡◌, List, take}
use Rattle.table_store.specs.inner.ParentRows.{last_row_with, number_in}
use Rattle.table_store.specs.Types.{Value}
use Rattle.table_store.proofs.keys.given.given_keys.Given as goal

abbrev pub invariant-loop-row : goal.invariant-loop-row
invariant-loop-row l = (wanted : List Value) → number_in l.given wanted ≡ last_row_with l.key (take l.row-index l.rows) wanted
