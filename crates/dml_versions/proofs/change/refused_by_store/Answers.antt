use Rattle.std.proofs.Common.{◌≡◌, sym, subst, Option, Some}
use Rattle.std.specs.Prelude.{IfSome}
use Rattle.table_store.specs.Histories.{TableHistory, tables_now}
use Rattle.dml_versions.specs.Changing.{IsChildThere, refused_change}
use Rattle.dml_versions.specs.Versions.{versions_now}
use Rattle.dml_versions.proofs.change.refused_by_store.Goals as goal

pub returns : goal.returns
returns c =
    let store = c.args.store.now in
    subst (λ (o : Option TableHistory). IfSome o (λ table. IsChildThere (tables_now store) c.args.stop
    → refused_change (versions_now store) c.args.name.now table.slots c.args.needs c.args.all c.args.stop ≡ Some c.in_ok-refused.refused))
    (sym c.table_of-table.ensures.found) c.in_ok-refused.ensures
