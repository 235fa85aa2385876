-- The parts of a database.
use Rattle.std.proofs.Common.{◌≡◌, List, true}
use Rattle.std.specs.List.{list_all}
use Rattle.ldv_value.proofs.Booleans.{and-parts, and-from}
use Rattle.ldv_value.specs.Sorted.{is_strictly_sorted}
use Rattle.sql_model.specs.ForeignKeys.{have_parents}
use Rattle.sql_model.specs.Scope.{catalog_of}
use Rattle.sql_model.specs.Tables.{is_valid_table, table_precedes, are_tables, is_database}
use Rattle.sql_model.specs.Types.{Table}

module _ (db : List Table) where
  pub tables_of_database : is_database db ≡ true → are_tables db ≡ true
  tables_of_database valid = (and-parts (are_tables db) (have_parents (catalog_of db)) valid).0

  pub parents_of_database : is_database db ≡ true → have_parents (catalog_of db) ≡ true
  parents_of_database valid = (and-parts (are_tables db) (have_parents (catalog_of db)) valid).1

  pub database-from : are_tables db ≡ true → have_parents (catalog_of db) ≡ true → is_database db ≡ true
  database-from tables parents = and-from (are_tables db) (have_parents (catalog_of db)) tables parents

  -- valid tables, sorted by name
  pub valid_of_tables : are_tables db ≡ true → list_all is_valid_table db ≡ true
  valid_of_tables tables = (and-parts (list_all is_valid_table db) (is_strictly_sorted table_precedes db) tables).0

  pub sorted_of_tables : are_tables db ≡ true → is_strictly_sorted table_precedes db ≡ true
  sorted_of_tables tables = (and-parts (list_all is_valid_table db) (is_strictly_sorted table_precedes db) tables).1

  pub valid_of_database : is_database db ≡ true → list_all is_valid_table db ≡ true
  valid_of_database valid = valid_of_tables (tables_of_database valid)

  pub sorted_of_database : is_database db ≡ true → is_strictly_sorted table_precedes db ≡ true
  sorted_of_database valid = sorted_of_tables (tables_of_database valid)
