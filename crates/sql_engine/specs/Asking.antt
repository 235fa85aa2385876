-- The reply to a statement over a store, the lists that are recorded of it, and the store after it.
use Rattle.std.specs.Prelude.{◌≡◌, ℕ, Bool, IsTrue, map, Option, Some, List, []}
use Rattle.dml_versions.specs.declared.change.Change.{Change}
use Rattle.dml_versions.specs.Versions.{versions_now}
use Rattle.run_model.specs.SqlDatabase.{SqlDatabase, db_after, lists_of}
use Rattle.sql_engine.specs.Types.{Lists, Refused, SqlRefusal, Statement, StoreHistory}
use Rattle.sql_engine.specs.declared.recorded.Recorded.{Recorded}
use Rattle.sql_model.specs.Needs.{made_by, need_of, read_of}
use Rattle.sql_model.specs.Statements.{reply_of}
use Rattle.table_store.specs.Histories.{tables_now}

-- the tables of a store and the versions of their rows
abbrev pub database : StoreHistory → SqlDatabase
database store = record { tables = tables_now store; versions = versions_now store }

abbrev pub lists_in : Recorded → Lists
lists_in done = record { tables = done.tables; reads = done.needs; made = done.made }

-- the reply to the statement that a text is, or to a text that is none, the lists where they are kept, and
-- the database after it
pub record IsRecorded (statement : Option Statement) (keep : Bool) (old new : StoreHistory) (done : Recorded)
    : Type 0 where
  pub reply : done.reply ≡ reply_of statement (tables_now old)
  pub after : database new ≡ db_after statement (database old)
  pub lists : IsTrue keep → lists_in done ≡ lists_of statement (database old)

-- the reply to a statement and the database after it, with the rows that it needs and makes where they are
-- kept
pub record IsOutcome (statement : Statement) (keep : Bool) (old new : StoreHistory) (change : Change)
    : Type 0 where
  pub reply : change.reply ≡ reply_of (Some statement) (tables_now old)
  pub after : database new ≡ db_after (Some statement) (database old)
  pub needs : IsTrue keep
      → change.needs ≡ map (read_of (versions_now old)) (need_of (Some statement) (tables_now old))
  pub made : IsTrue keep → change.made ≡ made_by (versions_now old) (Some statement) (tables_now old)

-- ---- on the way

-- what the text or the schemas refuse
abbrev pub refusal_change : SqlRefusal → Change
refusal_change refusal = record { reply = Refused refusal; made = []; needs = [] }

abbrev pub recorded_of : Change → List (List ℕ) → Recorded
recorded_of change tables =
    record { reply = change.reply; tables = tables; needs = change.needs; made = change.made }
