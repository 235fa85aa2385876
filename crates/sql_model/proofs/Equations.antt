-- The equations of definitions that are opaque outside their files, and the item that a name finds.
use Rattle.std.proofs.Common.{◌≡◌, ℕ, List, [], ◌∷◌, refl, Bool, true, false}
use Rattle.std.specs.Prelude.{Option, Some, option_map, map, find, zip, if◌then◌else◌}
use Rattle.sql_model.specs.Changes.{table_after}
use Rattle.sql_model.specs.Needs.{needs_by, needs_of_reading, need_of, Versions, made_unless, made_by, updated_unless, updated_rows}
use Rattle.sql_model.specs.Scope.{table_at, is_table, catalog_of, is_schema, schema_in, schema_at}
use Rattle.sql_model.specs.Statements.{refusal_of, reply_or, reply_of, after_unless, after}
use Rattle.sql_model.specs.Types.{Catalog, Schema, Query, Statement, TheQuery, TheInsert, TheUpdate, TheDelete, Table}
use Rattle.sql_model.specs.Types.{SqlRefusal, Syntax, NoTable, NoColumn, TypeClash, NotNull, KeyTaken, Full, NoParent, HasChild}

pub reply_is : (statement : Option Statement) (db : List Table)
    → reply_of statement db ≡ reply_or (refusal_of statement db) statement db
unfolding reply_of
reply_is statement db = refl

pub after_is : (statement : Option Statement) (db : List Table)
    → after statement db ≡ after_unless (refusal_of statement db) statement db
unfolding after
after_is statement db = refl

pub need_is : (statement : Option Statement) (db : List Table) → need_of statement db ≡ needs_of_reading statement db
unfolding need_of
need_is statement db = refl

pub made_is : (versions : Versions) (statement : Option Statement) (db : List Table)
    → made_by versions statement db ≡ made_unless (refusal_of statement db) versions statement db
unfolding made_by
made_is versions statement db = refl

pub updated_is : (statement : Option Statement) (db : List Table)
    → updated_rows statement db ≡ updated_unless (refusal_of statement db) statement db
unfolding updated_rows
updated_is statement db = refl

-- a query that is refused needs no row
pub refused_needs : (query : Query) (db : List Table) (refusal : SqlRefusal)
    → needs_by (Some refusal) (TheQuery query) db ≡ []
refused_needs query db Syntax = refl
refused_needs query db NoTable = refl
refused_needs query db NoColumn = refl
refused_needs query db TypeClash = refl
refused_needs query db NotNull = refl
refused_needs query db (KeyTaken table key) = refl
refused_needs query db Full = refl
refused_needs query db (NoParent table key) = refl
refused_needs query db (HasChild table key) = refl

-- ---- a change keeps a table's name

pub changed_name : (s : Statement) (catalog : Catalog) (table : Table) → (table_after s catalog table).name ≡ table.name
changed_name (TheQuery query) catalog table = refl
changed_name (TheInsert insert) catalog table = refl
changed_name (TheUpdate update) catalog table = refl
changed_name (TheDelete delete) catalog table = refl

-- ---- the schema of a name is that of the table of the name

abbrev pub table_schema : Table → Schema
table_schema table = table.schema

module _ (t : Table) (o : Option (List ℕ × Schema)) (p : Option Table) where
  one_more : (b : Bool) → option_map schema_in o ≡ option_map table_schema p
      → option_map schema_in (if b then Some (t.name, t.schema) else o)
      ≡ option_map table_schema (if b then Some t else p)
  one_more true same = refl
  one_more false same = same

pub schema_found : (name : List ℕ) (db : List Table)
    → schema_at name (catalog_of db) ≡ option_map table_schema (table_at name db)
schema_found name [] = refl
schema_found name (t ∷ ts) =
    one_more t (find (is_schema name) (zip (map (λ table. table.name) ts) (map (λ table. table.schema) ts)))
    (table_at name ts) (is_table name t) (schema_found name ts)
