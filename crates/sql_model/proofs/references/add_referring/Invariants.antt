use Rattle.std.proofs.Common.{◌≡◌, List, length}
use Rattle.std.specs.Prelude.{◌&&◌}
use Rattle.std.specs.List.{list_all}
use Rattle.sql_model.specs.inner.KeySets.{hold_in, table_holds_in}
use Rattle.sql_model.specs.References.{all_have_parents}
use Rattle.sql_model.specs.Types.{Table}
use Rattle.sql_model.proofs.references.add_referring.Given as goal

abbrev pub invariant-loop-left : goal.invariant-loop-left
invariant-loop-left l = (parents : List Table)
    → (list_all (hold_in parents) l.found.items && list_all (all_have_parents parents l.fn.table.rows) l.left)
    ≡ (list_all (hold_in parents) l.fn.found.items && table_holds_in parents l.fn.table)

abbrev pub decreases-loop-left : goal.decreases-loop-left
decreases-loop-left l = length l.left
