-- The law of answers: over good tables a good statement has a good reply, and it leaves good tables.
use Rattle.std.specs.Prelude.{◌≡◌, List, true, Option, Some, None}
use Rattle.sql_model.specs.Statements.{reply_of, after}
use Rattle.sql_model.specs.Tables.{is_database}
use Rattle.sql_laws.specs.Types.{Statement, Table}
use Rattle.value_laws.specs.Values.{GoodStatement, GoodTables, GoodReply}

pub record GoodAnswer (statement : Option Statement) (db : List Table) : Type 0 where
  pub reply : GoodReply (reply_of statement db)
  pub tables : GoodTables (after statement db)

-- of each statement, accepted or refused
abbrev pub AnswersLaw : Type 0
AnswersLaw = (statement : Statement) (db : List Table)
    → GoodStatement statement
    → GoodTables db
    → is_database db ≡ true
    → GoodAnswer (Some statement) db

-- of a text that is none, over any tables
abbrev pub NoStatementLaw : Type 0
NoStatementLaw = (db : List Table) → GoodReply (reply_of None db) × (after None db ≡ db)
