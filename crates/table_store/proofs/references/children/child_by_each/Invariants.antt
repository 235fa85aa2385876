use Rattle.std.proofs.Common.{◌≡◌, None, take}
use Rattle.ldv_value.specs.Options.{first_some}
use Rattle.table_store.specs.inner.Afterwards.{in_set}
use Rattle.table_store.specs.Histories.{table_now}
use Rattle.sql_model.specs.References.{child_of, orphan_by, reference}
use Rattle.table_store.proofs.references.children.child_by_each.Given as goal

abbrev pub invariant-loop-foreign : goal.invariant-loop-foreign
invariant-loop-foreign l =
    first_some (λ foreign. orphan_by l.target (in_set l.lost) (child_of (table_now l.table) (record { number = l.number; values = l.values })) foreign (reference foreign l.values))
    (take l.foreign-index l.foreign-items) ≡ None
