-- The law of databases: the tables after a statement over a database are a database.
use Rattle.std.specs.Prelude.{◌≡◌, List, true, Option}
use Rattle.sql_model.specs.Scope.{catalog_of}
use Rattle.sql_model.specs.Statements.{after}
use Rattle.sql_model.specs.Tables.{have_distinct_columns, is_database, tables_test}
use Rattle.sql_laws.specs.Types.{Statement, Table}

-- the tables after a statement are a database, and have the names and the schemas that they had
pub record LeavesDatabase (statement : Option Statement) (db : List Table) : Type 0 where
  pub database : is_database (after statement db) ≡ true
  pub catalog : catalog_of (after statement db) ≡ catalog_of db

-- of each statement, accepted or refused, and of a text that is none
--
-- Kinds are kept by code 4, NOT NULL by code 5, keys by code 6, and the next number by code 7. A SET names a
-- column by its name, so two columns of one name could have different kinds.
abbrev pub DatabaseLaw : Type 0
DatabaseLaw = (statement : Option Statement) (db : List Table)
    → is_database db ≡ true
    → have_distinct_columns db ≡ true
    → LeavesDatabase statement db

-- so it leaves the tables of a world such tables
abbrev pub TablesLaw : Type 0
TablesLaw = (statement : Option Statement) (db : List Table)
    → tables_test db ≡ true
    → tables_test (after statement db) ≡ true
