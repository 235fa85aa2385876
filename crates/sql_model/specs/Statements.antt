-- The outcome of a statement: its refusal, its reply and the database after it.
use Rattle.std.specs.Prelude.{ℕ, List, length, Option, Some, None, option_map}
use Rattle.sql_model.specs.Types.{Catalog, Reply, Rows, Changed, Refused, SqlRefusal, Syntax, NoParent}
use Rattle.sql_model.specs.Types.{HasChild, Statement}
use Rattle.sql_model.specs.Types.{TheQuery, TheInsert, TheUpdate, TheDelete, Table}
use Rattle.sql_model.specs.QueryAnswer.{answer_rows}
use Rattle.sql_model.specs.Changes.{target_of, table_of, changed_in, matched, or_else, change_refusal}
use Rattle.sql_model.specs.References.{MissingParent, Orphan, first_missing_parent, first_orphan}
use Rattle.sql_model.specs.Refusals.{check_refusal}
use Rattle.sql_model.specs.Scope.{catalog_of}

-- ---- refusals

-- the table that a statement changes
abbrev pub target : Statement → List Table → Option Table
target statement db = table_of (target_of statement) db

-- code 8
abbrev pub parent_refusal : MissingParent → SqlRefusal
parent_refusal missing = NoParent missing.parent missing.key

-- code 9
abbrev pub child_refusal : Orphan → SqlRefusal
child_refusal orphan = HasChild orphan.table orphan.key

-- what references between tables refuse
abbrev pub reference_refusal : Statement → Catalog → Option Table → List Table → Option SqlRefusal
reference_refusal statement catalog None db = None
reference_refusal statement catalog (Some table) db =
    or_else (option_map parent_refusal (first_missing_parent statement catalog table db))
    (option_map child_refusal (first_orphan statement catalog table db))

-- what the text, the schemas and the rows of the own table refuse
abbrev pub own_refusal : Statement → List Table → Option SqlRefusal
own_refusal statement db =
    or_else (check_refusal statement (catalog_of db))
    (change_refusal statement (catalog_of db) (target statement db))

-- the first cause that holds, in the order of the codes, over the whole statement
abbrev pub refusal_of : Option Statement → List Table → Option SqlRefusal
refusal_of None db = Some Syntax
refusal_of (Some statement) db =
    or_else (own_refusal statement db)
    (reference_refusal statement (catalog_of db) (target statement db) db)

-- ---- replies

abbrev pub matched_count : Statement → Catalog → Option Table → ℕ
matched_count statement catalog None = 0
matched_count statement catalog (Some table) = length (matched statement catalog table)

-- the answer's rows, or the number of rows inserted or matched
abbrev pub accepted_reply : Statement → List Table → Reply
accepted_reply (TheQuery query) db = Rows (answer_rows query db)
accepted_reply (TheInsert insert) db = Changed (length insert.rows)
accepted_reply (TheUpdate update) db =
    Changed (matched_count (TheUpdate update) (catalog_of db) (table_of (Some update.table) db))
accepted_reply (TheDelete delete) db =
    Changed (matched_count (TheDelete delete) (catalog_of db) (table_of (Some delete.table) db))

abbrev pub reply_or : Option SqlRefusal → Option Statement → List Table → Reply
reply_or (Some refusal) statement db = Refused refusal
reply_or None None db = Refused Syntax
reply_or None (Some statement) db = accepted_reply statement db

-- the reply to a statement, or to a text that is none
unfoldable pub reply_of : Option Statement → List Table → Reply
reply_of statement db = reply_or (refusal_of statement db) statement db

-- ---- the database after

abbrev pub after_unless : Option SqlRefusal → Option Statement → List Table → List Table
after_unless (Some refusal) statement db = db
after_unless None None db = db
after_unless None (Some statement) db = changed_in (target_of statement) statement (catalog_of db) db

-- a refused statement and a query change nothing
unfoldable pub after : Option Statement → List Table → List Table
after statement db = after_unless (refusal_of statement db) statement db
