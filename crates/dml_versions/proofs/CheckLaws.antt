-- Consequences of a statement's check against tables.
use Rattle.std.proofs.Common.{◌≡◌, ℕ, List, [], ◌∷◌, ◌++◌, refl, ap, sym, ◌∙◌, Bool, true, false, ◌&&◌, ◌||◌, not, Option, Some, None}
use Rattle.std.specs.Prelude.{Ok, IsSome, unwrap_or, is_none}
use Rattle.std.specs.List.{list_all, flat_map, AllByRecursion}
use Rattle.std.specs.Option.{option_map}
use Rattle.ldv_value.proofs.Booleans.{and-parts, or-parts, not-false}
use Rattle.ldv_value.proofs.Lists.{found-all}
use Rattle.sql_laws.proofs.ChangedTables.{check-parts, second_of}
use Rattle.sql_model.proofs.Databases.{valid_of_database}
use Rattle.sql_model.proofs.Equations.{table_schema, schema_found}
use Rattle.sql_model.specs.Kinds.{names_in}
use Rattle.sql_model.specs.Places.{places_of, checked_statement, checked_unless}
use Rattle.sql_model.specs.Refusals.{is_missing, insert_names, insert_lacks_column, insert_clashes, update_clashes, row_fits, target_columns, set_fits, pick_fits, check_refusal, has_unresolved_name}
use Rattle.sql_model.specs.Scope.{InScope, is_table, table_at, catalog_of, schema_at, columns_of, has_column, own_scope, resolves}
use Rattle.sql_model.specs.Tables.{is_valid_table, are_distinct}
use Rattle.dml_versions.specs.Changing.{IsCheckedOver}
use Rattle.sql_model.specs.Tables.{AreWellFormed}
use Rattle.dml_versions.specs.inner.Making.{ArePlain}
use Rattle.dml_versions.specs.Types.{Catalog, Checked, ColumnName, Expr, SqlRefusal, Statement, TheQuery, TheInsert, TheUpdate, TheDelete, Insert, Update, Schema, Table}

-- ---- accepted statements

checked_by : (refusal : Option SqlRefusal) (s : Statement) (catalog : Catalog) (checked : Checked) → checked_unless refusal s catalog ≡ Ok checked
    → (refusal ≡ None) × (checked ≡ checked_statement s catalog)
checked_by None s catalog checked is = (refl, let same : checked_statement s catalog ≡ checked = cc in sym same)
checked_by (Some refusal) s catalog checked is = cc

module _ (db : List Table) (checked : Checked) (is : IsCheckedOver db checked) where
  abbrev catalog : Catalog
  catalog = catalog_of db

  -- nothing refuses it
  pub accepted : check_refusal checked.statement catalog ≡ None
  accepted = (checked_by (check_refusal checked.statement catalog) checked.statement catalog checked is).0

  -- its places
  pub checked-places : checked.places ≡ places_of checked.statement catalog
  checked-places = ap (λ (c : Checked). c.places) (checked_by (check_refusal checked.statement catalog) checked.statement catalog checked is).1

-- ---- the table that a statement changes

there_by : (name : List ℕ) (catalog : Catalog) → ((is_missing catalog name || false) || false) ≡ false → is_missing catalog name ≡ false
there_by name catalog is = (or-parts (is_missing catalog name) false (or-parts (is_missing catalog name || false) false is).0).0

found_by : (name : List ℕ) (db : List Table) → is_missing (catalog_of db) name ≡ false → IsSome (table_at name db)
found_by name db is = by (table_at name db) refl
  where
    by : (o : Option Table) → table_at name db ≡ o → IsSome o
    by None found =
        let none : schema_at name (catalog_of db) ≡ None = schema_found name db ∙ ap (option_map table_schema) found in
        let wrong : true ≡ false = sym (ap is_none none) ∙ is in
        cc
    by (Some t) found = refl

abbrev pub target_name : Statement → List ℕ
target_name (TheQuery query) = []
target_name (TheInsert insert) = insert.table
target_name (TheUpdate update) = update.table
target_name (TheDelete delete) = delete.table

abbrev pub Changes : Statement → Type 0
Changes (TheQuery query) = ⊥
Changes (TheInsert insert) = Unit {0}
Changes (TheUpdate update) = Unit {0}
Changes (TheDelete delete) = Unit {0}

pub target-there : (db : List Table) (s : Statement) → Changes s → check_refusal s (catalog_of db) ≡ None → IsSome (table_at (target_name s) db)
target-there db (TheQuery query) kind check = absurd kind
target-there db (TheInsert insert) kind check = found_by insert.table db (there_by insert.table (catalog_of db) (check-parts (TheInsert insert) (catalog_of db) check).0)
target-there db (TheUpdate update) kind check = found_by update.table db (there_by update.table (catalog_of db) (check-parts (TheUpdate update) (catalog_of db) check).0)
target-there db (TheDelete delete) kind check = found_by delete.table db (there_by delete.table (catalog_of db) (check-parts (TheDelete delete) (catalog_of db) check).0)

-- ---- tables of a database

module _ (db : List Table) (formed : AreWellFormed db) (name : List ℕ) (t : Table) (found : table_at name db ≡ Some t) where
  pub found-valid : is_valid_table t ≡ true
  found-valid = found-all (is_table name) is_valid_table db t (valid_of_database db formed.database) found

  pub found-distinct : are_distinct t.schema.columns ≡ true
  found-distinct = found-all (is_table name) (λ t. are_distinct t.schema.columns) db t formed.distinct found

-- ---- VALUES name no column

none_resolved : (names : List ColumnName) → list_all (resolves []) names ≡ true → names ≡ []
none_resolved [] is = refl
none_resolved (c ∷ cs) is = cc

plain_by : (exprs : List Expr) → flat_map names_in exprs ≡ [] → ArePlain exprs
plain_by [] is = tt
plain_by (e ∷ es) is = let both = parts (names_in e) (flat_map names_in es) is in (both.0, plain_by es both.1)
  where
    parts : (xs ys : List ColumnName) → xs ++ ys ≡ [] → (xs ≡ []) × (ys ≡ [])
    parts [] ys is = (refl, is)
    parts (x ∷ xs) ys is = cc

all_plain : (rows : List (List Expr)) → flat_map (flat_map names_in) rows ≡ [] → AllByRecursion ArePlain rows
all_plain [] is = tt
all_plain (exprs ∷ rows) is = let both = parts (flat_map names_in exprs) (flat_map (flat_map names_in) rows) is in (plain_by exprs both.0, all_plain rows both.1)
  where
    parts : (xs ys : List ColumnName) → xs ++ ys ≡ [] → (xs ≡ []) × (ys ≡ [])
    parts [] ys is = (refl, is)
    parts (x ∷ xs) ys is = cc

first_of : (a b : Bool) → (not a || b) ≡ false → (a ≡ true) × (b ≡ false)
first_of true b is = (refl, is)
first_of false b is = cc

-- an accepted INSERT
module _ (insert : Insert) (catalog : Catalog) (check : check_refusal (TheInsert insert) catalog ≡ None) where
  pub values-plain : AllByRecursion ArePlain insert.rows
  values-plain =
      let lacks : insert_lacks_column insert (columns_of (schema_at insert.table catalog)) ≡ false = (check-parts (TheInsert insert) catalog check).1 in
      let parts = first_of (list_all (has_column (columns_of (schema_at insert.table catalog))) (unwrap_or insert.columns [])) (has_unresolved_name [] (insert_names insert)) lacks in
      all_plain insert.rows (none_resolved (insert_names insert) (not-false (list_all (resolves []) (insert_names insert)) parts.1))

  module _ (schema : Schema) (found : schema_at insert.table catalog ≡ Some schema) where
    pub names-there : list_all (has_column schema.columns) (unwrap_or insert.columns []) ≡ true
    names-there =
        let lacks : insert_lacks_column insert schema.columns ≡ false = sym (ap (λ (s : Option Schema). insert_lacks_column insert (columns_of s)) found) ∙ (check-parts (TheInsert insert) catalog check).1 in
        (first_of (list_all (has_column schema.columns) (unwrap_or insert.columns [])) (has_unresolved_name [] (insert_names insert)) lacks).0

    pub rows-fit : list_all (row_fits (target_columns insert.columns schema.columns)) insert.rows ≡ true
    rows-fit =
        let clash : insert_clashes insert schema.columns ≡ false = sym (ap (λ (s : Option Schema). insert_clashes insert (columns_of s)) found) ∙ (check-parts (TheInsert insert) catalog check).2 in
        second_of _ (list_all (row_fits (target_columns insert.columns schema.columns)) insert.rows) clash

-- an accepted UPDATE
module _ (update : Update) (catalog : Catalog) (check : check_refusal (TheUpdate update) catalog ≡ None) (schema : Schema) (found : schema_at update.table catalog ≡ Some schema) where
  pub sets-fit : list_all (set_fits schema.columns (own_scope update.table catalog)) update.sets ≡ true
  sets-fit =
      let own : List InScope = own_scope update.table catalog in
      let clash : update_clashes update schema.columns own ≡ false = sym (ap (λ (s : Option Schema). update_clashes update (columns_of s) own) found) ∙ (check-parts (TheUpdate update) catalog check).2 in
      (and-parts (list_all (set_fits schema.columns own) update.sets) (pick_fits own update.pick)
      (second_of _ (list_all (set_fits schema.columns own) update.sets && pick_fits own update.pick) clash)).0
