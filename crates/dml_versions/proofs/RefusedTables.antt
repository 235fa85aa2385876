-- The result of a refused change, which leaves the store as it was.
use Rattle.std.proofs.Common.{◌≡◌, ℕ, List, subst, Option, Some}
use Rattle.std.specs.Prelude.{IfSome}
use Rattle.table_store.specs.Histories.{StoreHistory, TableHistory, tables_now, history_at}
use Rattle.table_store.specs.declared.error.StoreStop.{StoreStop}
use Rattle.dml_versions.specs.Changing.{IsChildThere, refused_change}
use Rattle.dml_versions.specs.Types.{Need}
use Rattle.dml_versions.specs.Versions.{versions_now}
use Rattle.dml_versions.specs.declared.change.Change.{Change}

pub told-here : (name : List ℕ) (seen old : StoreHistory) (table : TableHistory) (needs given : List Need) (at : StoreStop) (refused : Change)
    → seen ≡ old → history_at name old ≡ Some table
    → IfSome (history_at name seen) (λ held. IsChildThere (tables_now seen) at → refused_change (versions_now seen) name held.slots needs given at ≡ Some refused)
    → IsChildThere (tables_now old) at → refused_change (versions_now old) name table.slots needs given at ≡ Some refused
told-here name seen old table needs given at refused same there told =
    subst (λ (o : Option TableHistory). IfSome o (λ held. IsChildThere (tables_now old) at → refused_change (versions_now old) name held.slots needs given at ≡ Some refused)) there
    (subst (λ (st : StoreHistory). IfSome (history_at name st) (λ held. IsChildThere (tables_now st) at → refused_change (versions_now st) name held.slots needs given at ≡ Some refused)) same told)
