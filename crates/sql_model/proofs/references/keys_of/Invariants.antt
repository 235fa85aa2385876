use Rattle.std.proofs.Common.{◌≡◌, List, take}
use Rattle.std.specs.BTreeSet.{contains_by}
use Rattle.std.specs.List.{list_any}
use Rattle.ldv_value.specs.Order.{values_order}
use Rattle.sql_model.specs.References.{has_key}
use Rattle.sql_model.specs.Types.{Value}
use Rattle.sql_model.proofs.references.keys_of.Given as goal

abbrev pub invariant-loop-row : goal.invariant-loop-row
invariant-loop-row l = (wanted : List Value)
    → contains_by (values_order wanted) l.keys ≡ list_any (has_key l.key wanted) (take l.row-index l.row-items)
