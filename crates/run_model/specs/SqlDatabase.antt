-- The database of SQL: tables, and the version of each row.
use Rattle.std.specs.Prelude.{List, map, Option}
use Rattle.sql_model.specs.Needs.{Versions, versions_after, read_of, need_of, asked_tables, made_by}
use Rattle.sql_model.specs.Needs.{updated_rows}
use Rattle.sql_model.specs.Statements.{reply_of, after}
use Rattle.sql_model.specs.Texts.{statement_of}
use Rattle.run_model.specs.Types.{Statement, Table}
use Rattle.run_model.specs.Database.{Lists, Answer, Gives, Base}

pub record SqlDatabase : Type 0 where
  pub tables : List Table
  -- of each row: how many accepted UPDATEs matched it
  pub versions : Versions

-- these tables, of which no row was updated
abbrev pub initial_database : List Table → SqlDatabase
initial_database tables = record { tables = tables; versions = λ table row. 0 }

-- ---- statements

-- the database after the statement that a text is, or after a text that is none
abbrev pub db_after : Option Statement → SqlDatabase → SqlDatabase
db_after statement db = record {
  tables = after statement db.tables;
  versions = versions_after (updated_rows statement db.tables) db.versions;
}

abbrev pub lists_of : Option Statement → SqlDatabase → Lists
lists_of statement db = record {
  tables = asked_tables statement db.tables;
  reads = map (read_of db.versions) (need_of statement db.tables);
  made = made_by db.versions statement db.tables;
}

abbrev pub answer_of : Option Statement → SqlDatabase → Answer SqlDatabase
answer_of statement db = Gives (reply_of statement db.tables) (db_after statement db) (lists_of statement db)

-- no question diverges
abbrev pub sql_base : Base SqlDatabase
sql_base db q = answer_of (statement_of q.text q.params) db
