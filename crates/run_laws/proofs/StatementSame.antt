-- A statement has the same answer over a cut database that keeps all that it needs. The cut database after it
-- is the whole database after it with the same cut.
use Rattle.std.proofs.Common.{◌≡◌, true}
use Rattle.std.specs.Prelude.{Option, map}
use Rattle.sql_model.specs.Needs.{need_of, asked_tables, versions_after, read_of}
use Rattle.sql_model.specs.Statements.{reply_of, after}
use Rattle.sql_model.specs.Tables.{is_database}
use Rattle.sql_laws.specs.QueryLaw.{KeepsNeeded as KeepsRows}
use Rattle.sql_laws.specs.StatementLaw.{KeepsAsked, SameStatement}
use Rattle.sql_laws.proofs.StatementLaws.{statement_law}
use Rattle.run_laws.specs.Types.{Statement}
use Rattle.run_model.specs.Between.{Cut, cut_tables, cut_database}
use Rattle.run_model.specs.Database.{Gives}
use Rattle.run_model.specs.SqlDatabase.{SqlDatabase, db_after, lists_of, answer_of}
use Rattle.run_laws.proofs.Keeps.{others_stay}
use Rattle.run_laws.proofs.StatementVersions.{SameVersions, same_versions}

module _ (cut : Cut) (statement : Option Statement) (db : SqlDatabase) (valid : is_database db.tables ≡ true)
    (left : is_database (cut_tables cut db.tables) ≡ true)
    (tables : KeepsAsked cut.table (asked_tables statement db.tables))
    (rows : KeepsRows cut.row (need_of statement db.tables)) where
  same : SameStatement statement cut.table cut.row db.tables
  same = statement_law statement db.tables cut.table cut.row valid left rows tables

  versions : SameVersions statement cut db.tables
  versions = same_versions statement cut db.tables valid left rows tables

  -- what is left is changed as the whole is
  pub changes_same : after statement (cut_tables cut db.tables) ≡ cut_tables (others_stay cut db.tables) (after statement db.tables)
  changes_same = same.changes

  pub answers_same : answer_of statement (cut_database cut db)
      ≡ Gives (reply_of statement db.tables) (cut_database (others_stay cut db.tables) (db_after statement db)) (lists_of statement db)
  answers_same = λ j.
      Gives (same.reply j)
      (record { tables = same.changes j; versions = versions_after (versions.updated j) db.versions })
      (record { tables = same.asked j; reads = map (read_of db.versions) (same.needs j); made = versions.made db.versions j })
