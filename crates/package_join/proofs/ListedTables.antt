-- The rules for the tables of a package, one after the other; and the own tables have the same parents.
use Rattle.std.proofs.Common.{◌≡◌, List, map, ap, ◌∙◌, Bool, true}
use Rattle.std.specs.Prelude.{◌&&◌}
use Rattle.std.specs.List.{list_all}
use Rattle.ldv_value.proofs.Booleans.{and-parts}
use Rattle.ldv_value.specs.Sorted.{is_strictly_sorted}
use Rattle.sql_model.specs.ForeignKeys.{have_parents}
use Rattle.sql_model.specs.Scope.{catalog_of}
use Rattle.run_model.specs.Package.{own_table}
use Rattle.run_model.specs.ValidPackage.{table_rule, packed_table_precedes, packed_catalog, are_tables}
use Rattle.run_laws.proofs.SliceLaws.{own_catalog}
use Rattle.package_join.specs.Types.{PackedTable}

pub record Listed (tables : List PackedTable) : Type 0 where
  pub each : list_all table_rule tables ≡ true
  pub sorted : is_strictly_sorted packed_table_precedes tables ≡ true
  pub parents : have_parents (packed_catalog tables) ≡ true

pub listed : (tables : List PackedTable) → are_tables tables ≡ true → Listed tables
listed tables met =
    let each : Bool = list_all table_rule tables in
    let sorted : Bool = is_strictly_sorted packed_table_precedes tables in
    let all = and-parts (each && sorted) (have_parents (packed_catalog tables)) met in
    let lists = and-parts each sorted all.0 in
    record { each = lists.0; sorted = lists.1; parents = all.1 }

pub own_parents : (tables : List PackedTable) → have_parents (packed_catalog tables) ≡ true
    → have_parents (catalog_of (map own_table tables)) ≡ true
own_parents tables parents = ap have_parents (own_catalog tables) ∙ parents
