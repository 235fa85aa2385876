-- The law of a statement's needed rows: leaving out rows that it doesn't need and tables that it doesn't ask
-- keeps its refusal, reply, needs and asked tables. The tables after it are then those after it over the
-- whole database, without the same rows and tables.
use Rattle.std.specs.Prelude.{◌≡◌, ℕ, List, [], ◌∷◌, filter, Bool, true, not, ◌&&◌, ◌||◌, Option}
use Rattle.std.specs.List.{list_any}
use Rattle.sql_laws.specs.Types.{Statement, Table}
use Rattle.sql_model.specs.ForeignKeys.{have_parents}
use Rattle.sql_model.specs.Needs.{need_of, asked_tables}
use Rattle.sql_laws.specs.QueryLaw.{Keep, cut_tables, KeepsNeeded}
use Rattle.sql_model.specs.Scope.{same_text, is_table, catalog_of, has_row}
use Rattle.sql_model.specs.Statements.{refusal_of, reply_of, after}
use Rattle.sql_model.specs.Tables.{is_database, tables_test}

-- which tables stay, by their names
abbrev pub KeepTables : Type 0
KeepTables = List ℕ → Bool

abbrev pub table_stays : KeepTables → Table → Bool
table_stays tables table = tables table.name

-- the tables that stay, with the rows that stay
abbrev pub cut_database : KeepTables → Keep → List Table → List Table
cut_database tables keep db = filter (table_stays tables) (cut_tables keep db)

-- each of the names stays
abbrev pub KeepsAsked : KeepTables → List (List ℕ) → Type 0
KeepsAsked tables [] = Unit {0}
KeepsAsked tables (name ∷ names) = (tables name ≡ true) × KeepsAsked tables names

-- only rows of the database are left out: a row that a statement appends stays, and an updated row goes
-- with its number
abbrev pub keep_others : Keep → List Table → Keep
keep_others keep db = λ name number. keep name number || not (list_any (has_row name number) db)

-- refusal, reply, needs and asked tables are the same, and what is left is changed as in the whole
pub record SameStatement (statement : Option Statement) (tables : KeepTables) (keep : Keep) (db : List Table)
    : Type 0 where
  pub refusal : refusal_of statement (cut_database tables keep db) ≡ refusal_of statement db
  pub reply : reply_of statement (cut_database tables keep db) ≡ reply_of statement db
  pub needs : need_of statement (cut_database tables keep db) ≡ need_of statement db
  pub asked : asked_tables statement (cut_database tables keep db) ≡ asked_tables statement db
  pub changes :
      after statement (cut_database tables keep db)
      ≡ cut_database tables (keep_others keep db) (after statement db)

-- of each statement, and of a text that is none, over all databases, whichever rows and tables are left out
-- that aren't needed or asked, so that a database is left
--
-- `keep` is asked only of rows of the database, so any choice among them can be given by one.
abbrev pub StatementLaw : Type 0
StatementLaw = (statement : Option Statement) (db : List Table) (tables : KeepTables) (keep : Keep)
    → is_database db ≡ true
    → is_database (cut_database tables keep db) ≡ true
    → KeepsNeeded keep (need_of statement db)
    → KeepsAsked tables (asked_tables statement db)
    → SameStatement statement tables keep db

-- a database without some rows and tables is a database where no parent of what is left was left out, and so
-- with the tables of a world
abbrev pub CutLaw : Type 0
CutLaw = (tables : KeepTables) (keep : Keep) (db : List Table)
    → is_database db ≡ true
    → have_parents (catalog_of (cut_database tables keep db)) ≡ true
    → is_database (cut_database tables keep db) ≡ true

abbrev pub CutTablesLaw : Type 0
CutTablesLaw = (tables : KeepTables) (keep : Keep) (db : List Table)
    → tables_test db ≡ true
    → have_parents (catalog_of (cut_database tables keep db)) ≡ true
    → tables_test (cut_database tables keep db) ≡ true

-- a table of one name refers to one of another
abbrev pub refers : List Table → List ℕ → List ℕ → Bool
refers db child parent =
    list_any (λ t. same_text t.name child && list_any (λ f. same_text f.parent parent) t.schema.foreign) db

-- of each table that stays, the parents stay
abbrev pub KeepsParents : KeepTables → List Table → Type 0
KeepsParents tables db = (child parent : List ℕ) → refers db child parent ≡ true → tables child ≡ true
    → tables parent ≡ true

-- then the parents of what is left are there
abbrev pub CutParentsLaw : Type 0
CutParentsLaw = (tables : KeepTables) (keep : Keep) (db : List Table)
    → is_database db ≡ true
    → KeepsParents tables db
    → have_parents (catalog_of (cut_database tables keep db)) ≡ true

abbrev pub asks : Option Statement → List Table → List ℕ → Bool
asks statement db name = list_any (same_text name) (asked_tables statement db)

-- a statement that asks a table asks its parents
abbrev pub AskedParentsLaw : Type 0
AskedParentsLaw = (statement : Option Statement) (db : List Table)
    → is_database db ≡ true
    → KeepsParents (asks statement db) db

-- a statement asks each table of which it needs a row
abbrev pub AskedNeedsLaw : Type 0
AskedNeedsLaw = (statement : Option Statement) (db : List Table) (name : List ℕ)
    → list_any (is_table name) db ≡ true
    → list_any (λ need. same_text need.table name) (need_of statement db) ≡ true
    → asks statement db name ≡ true
