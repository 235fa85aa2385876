-- A database stays a database after a statement, and the tables of a world stay tables of a world.
use Rattle.std.proofs.Common.{◌≡◌, ℕ, List, [], ◌∷◌, refl, sym, ap, ◌∙◌, Bool, true, false}
use Rattle.std.specs.Prelude.{Option, Some, None, option_map, is_none, map, zip, ◌&&◌, ◌||◌}
use Rattle.std.specs.List.{list_all}
use Rattle.ldv_value.proofs.Booleans.{and-parts, and-from, or-parts}
use Rattle.ldv_value.proofs.Lists.{found-all, list_all-weaker, sorted-map}
use Rattle.ldv_value.proofs.Options.{none-some}
use Rattle.ldv_value.specs.Sorted.{text_precedes, is_strictly_sorted}
use Rattle.sql_laws.specs.DatabaseLaw.{DatabaseLaw, TablesLaw}
use Rattle.sql_model.specs.Tables.{have_distinct_columns}
use Rattle.sql_laws.specs.Types.{Catalog, SqlRefusal, Syntax, Statement, TheQuery, TheInsert, TheUpdate, TheDelete, Column, Schema, Table}
use Rattle.sql_laws.proofs.ChangedTables.{check-parts, else-parts, table_after-valid}
use Rattle.sql_laws.proofs.TableNames.{change_named, all-changed, map-changed}
use Rattle.sql_model.proofs.Databases.{parents_of_database, database-from, valid_of_database, sorted_of_database}
use Rattle.sql_model.proofs.Equations.{after_is, table_schema, schema_found, changed_name}
use Rattle.sql_model.specs.Changes.{table_after, target_of, changed_in, change_refusal}
use Rattle.sql_model.specs.ForeignKeys.{have_parents}
use Rattle.sql_model.specs.Refusals.{is_missing, check_refusal}
use Rattle.sql_model.specs.Scope.{is_table, table_at, catalog_of, schema_at}
use Rattle.sql_model.specs.SqlNames.{sql_name_test}
use Rattle.sql_model.specs.Statements.{target, own_refusal, reference_refusal, refusal_of, after_unless, after}
use Rattle.sql_model.specs.Tables.{are_distinct, column_names_test, column_count_test, key_places_test, key_not_null_test, foreign_test, schema_test, is_valid_table, table_precedes, is_database, is_described}

-- ---- what a statement keeps of each table

changed_schema : (s : Statement) (catalog : Catalog) (t : Table) → (table_after s catalog t).schema ≡ t.schema
changed_schema (TheQuery query) catalog t = refl
changed_schema (TheInsert insert) catalog t = refl
changed_schema (TheUpdate update) catalog t = refl
changed_schema (TheDelete delete) catalog t = refl

-- ---- the tables after

names_sorted : (ts : List Table)
    → is_strictly_sorted text_precedes (map (λ t. t.name) ts) ≡ is_strictly_sorted table_precedes ts
names_sorted ts = sorted-map table_precedes text_precedes (λ t. t.name) (λ a b. refl) ts

module _ (db : List Table) (valid : is_database db ≡ true) (distinct : have_distinct_columns db ≡ true) where
  abbrev catalog : Catalog
  catalog = catalog_of db

  tables : list_all is_valid_table db ≡ true
  tables = valid_of_database db valid

  sorted : is_strictly_sorted table_precedes db ≡ true
  sorted = sorted_of_database db valid

  abbrev Left : List Table → Type 0
  Left ts = (is_database ts ≡ true) × (catalog_of ts ≡ catalog)

  left_by : (s : Statement) (name : List ℕ) (t : Table) → table_at name db ≡ Some t
      → is_valid_table (table_after s catalog t) ≡ true
      → Left (map (change_named (table_after s catalog) name) db)
  left_by s name t found good =
      let after : List Table = map (change_named (table_after s catalog) name) db in
      let names : map (λ (t : Table). t.name) after ≡ map (λ (t : Table). t.name) db = map-changed (table_after s catalog) (λ t. t.name) (changed_name s catalog) name db in
      let schemas : map table_schema after ≡ map table_schema db = map-changed (table_after s catalog) table_schema (changed_schema s catalog) name db in
      let order : is_strictly_sorted table_precedes after ≡ true = sym (names_sorted after) ∙ ap (is_strictly_sorted text_precedes) names ∙ names_sorted db ∙ sorted in
      let same : catalog_of after ≡ catalog = λ j. record { names = names j; schemas = schemas j } in (
        database-from after
            (and-from (list_all is_valid_table after) (is_strictly_sorted table_precedes after)
            (all-changed (table_after s catalog) is_valid_table name t good db found sorted tables) order)
            (ap have_parents same ∙ parents_of_database db valid),
        same,
      )

  schema_of : (name : List ℕ) (t : Table) → table_at name db ≡ Some t → schema_at name catalog ≡ Some t.schema
  schema_of name t found = schema_found name db ∙ ap (option_map table_schema) found

  left_named : (s : Statement) (name : List ℕ) → is_missing catalog name ≡ false
      → ((t : Table) → table_at name db ≡ Some t → is_valid_table t ≡ true → are_distinct t.schema.columns ≡ true → is_valid_table (table_after s catalog t) ≡ true)
      → Left (map (change_named (table_after s catalog) name) db)
  left_named s name there good = by (table_at name db) refl
    where
      by : (o : Option Table) → table_at name db ≡ o → Left (map (change_named (table_after s catalog) name) db)
      by None found =
          let none : schema_at name catalog ≡ None = schema_found name db ∙ ap (option_map table_schema) found in
          let wrong : true ≡ false = sym (ap is_none none) ∙ there in
          cc
      by (Some t) found = left_by s name t found (good t found
          (found-all (is_table name) is_valid_table db t tables found)
          (found-all (is_table name) (λ t. are_distinct t.schema.columns) db t distinct found))

  -- the one table that a change names is there
  there_by : (name : List ℕ) → ((is_missing catalog name || false) || false) ≡ false → is_missing catalog name ≡ false
  there_by name is = (or-parts (is_missing catalog name) false (or-parts (is_missing catalog name || false) false is).0).0

  accepted : (s : Statement) → check_refusal s catalog ≡ None → change_refusal s catalog (target s db) ≡ None
      → Left (changed_in (target_of s) s catalog db)
  accepted (TheQuery query) check change = (valid, refl)
  accepted (TheInsert insert) check change = left_named (TheInsert insert) insert.table
      (there_by insert.table (check-parts (TheInsert insert) catalog check).0)
      (λ t found fits apart. table_after-valid catalog t fits apart (TheInsert insert) (schema_of insert.table t found) check (sym (ap (change_refusal (TheInsert insert) catalog) found) ∙ change))
  accepted (TheUpdate update) check change = left_named (TheUpdate update) update.table
      (there_by update.table (check-parts (TheUpdate update) catalog check).0)
      (λ t found fits apart. table_after-valid catalog t fits apart (TheUpdate update) (schema_of update.table t found) check (sym (ap (change_refusal (TheUpdate update) catalog) found) ∙ change))
  accepted (TheDelete delete) check change = left_named (TheDelete delete) delete.table
      (there_by delete.table (check-parts (TheDelete delete) catalog check).0)
      (λ t found fits apart. table_after-valid catalog t fits apart (TheDelete delete) (schema_of delete.table t found) check (sym (ap (change_refusal (TheDelete delete) catalog) found) ∙ change))

  left_after : (statement : Option Statement) (refusal : Option SqlRefusal) → refusal_of statement db ≡ refusal
      → Left (after_unless refusal statement db)
  left_after statement (Some refusal) is = (valid, refl)
  left_after None None is = absurd (none-some Syntax (sym is))
  left_after (Some s) None is =
      let own = else-parts (own_refusal s db) (reference_refusal s catalog (target s db) db) is in
      let parts = else-parts (check_refusal s catalog) (change_refusal s catalog (target s db)) own.0 in
      accepted s parts.0 parts.1

pub database_law : DatabaseLaw
database_law statement db valid distinct =
    let left = left_after db valid distinct statement (refusal_of statement db) refl in
    record {
      database = ap is_database (after_is statement db) ∙ left.0;
      catalog = ap catalog_of (after_is statement db) ∙ left.1;
    }

-- ---- the tables of a world

abbrev named_test : List ℕ × Schema → Bool
named_test named = sql_name_test named.0 && schema_test named.1

described_by : (ts : List Table)
    → list_all is_described ts ≡ list_all named_test (zip (map (λ t. t.name) ts) (map (λ t. t.schema) ts))
described_by [] = refl
described_by (t ∷ ts) = λ j. is_described t && described_by ts j

abbrev all_named : Catalog → Bool
all_named catalog = list_all named_test (zip catalog.names catalog.schemas)

pub distinct_in : (t : Table) → is_described t ≡ true → are_distinct t.schema.columns ≡ true
distinct_in t is =
    let columns = t.schema.columns in
    let key = t.schema.key in
    let one = and-parts (sql_name_test t.name) (schema_test t.schema) is in
    let all = and-parts (column_count_test columns && column_names_test columns && key_places_test columns key && key_not_null_test columns key) (foreign_test columns t.schema.foreign) one.1 in
    let two = and-parts (column_count_test columns && column_names_test columns && key_places_test columns key) (key_not_null_test columns key) all.0 in
    let three = and-parts (column_count_test columns && column_names_test columns) (key_places_test columns key) two.0 in
    let four = and-parts (column_count_test columns) (column_names_test columns) three.0 in
    (and-parts (list_all (λ (c : Column). sql_name_test c.name) columns) (are_distinct columns) four.1).1

pub tables_law : TablesLaw
tables_law statement db valid =
    let both = and-parts (is_database db) (list_all is_described db) valid in
    let law = database_law statement db both.0 (list_all-weaker is_described (λ t. are_distinct t.schema.columns) distinct_in db both.1) in
    let described : list_all is_described (after statement db) ≡ true = described_by (after statement db) ∙ ap all_named law.catalog ∙ sym (described_by db) ∙ both.1 in
    and-from (is_database (after statement db)) (list_all is_described (after statement db)) law.database described
