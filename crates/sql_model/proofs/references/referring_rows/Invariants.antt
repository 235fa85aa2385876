use Rattle.std.proofs.Common.{◌≡◌, List, take}
use Rattle.std.specs.List.{list_all}
use Rattle.sql_model.specs.inner.KeySets.{hold_in, table_holds_in}
use Rattle.sql_model.specs.Types.{Table}
use Rattle.sql_model.proofs.references.referring_rows.Given as goal

abbrev pub invariant-loop-table : goal.invariant-loop-table
invariant-loop-table l = (parents : List Table)
    → list_all (hold_in parents) l.found.items ≡ list_all (table_holds_in parents) (take l.table-index l.table-items)
