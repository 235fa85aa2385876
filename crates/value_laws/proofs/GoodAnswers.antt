-- A good statement over good tables has a good reply, and leaves good tables.
use Rattle.std.proofs.Common.{◌≡◌, ℕ, ◌<◌, ◌^◌, List, [], ◌∷◌, refl, sym, subst, true}
use Rattle.std.specs.Prelude.{Option, Some, None, length}
use Rattle.std.specs.List.{AllByRecursion, list_all}
use Rattle.std.proofs.lemmas.Bool.{lt-ltb}
use Rattle.ldv_value.proofs.Booleans.{and-parts, and-from}
use Rattle.sql_laws.specs.Types.{Value, Catalog, Reply, Rows, Changed, SqlRefusal, Syntax, Statement, TheQuery, TheInsert, TheUpdate, TheDelete, Table}
use Rattle.sql_laws.proofs.ChangedTables.{else-parts}
use Rattle.ldv_value.proofs.ItemLists.{all_found}
use Rattle.sql_model.proofs.Databases.{tables_of_database}
use Rattle.sql_model.proofs.Equations.{reply_is, after_is}
use Rattle.sql_model.specs.Changes.{is_matched, target_of, table_of, change_refusal}
use Rattle.sql_model.specs.QueryAnswer.{answer_rows}
use Rattle.sql_model.specs.Refusals.{check_refusal}
use Rattle.sql_model.specs.Scope.{is_table, table_at, catalog_of, own_scope}
use Rattle.sql_model.specs.Statements.{target, own_refusal, reference_refusal, refusal_of, accepted_reply, reply_or, reply_of, after_unless, after}
use Rattle.sql_model.specs.Tables.{is_short, is_valid_table, table_precedes}
use Rattle.ldv_value.specs.Sorted.{is_strictly_sorted}
use Rattle.run_model.specs.TypedPackage.{TypedValues}
use Rattle.package_codec.specs.Room.{fits_u16_count}
use Rattle.value_laws.specs.Answers.{AnswersLaw, NoStatementLaw}
use Rattle.value_laws.specs.Values.{GoodStatement, GoodTable, GoodTables, GoodReply}
use Rattle.value_laws.proofs.GoodChanges.{changed_in_good}
use Rattle.value_laws.proofs.GoodCounts.{matched_small, inserted_small}
use Rattle.value_laws.proofs.GoodQueries.{Fitting, answer_fit}
use Rattle.value_laws.proofs.GoodReferences.{references_good}
use Rattle.value_laws.proofs.GoodRefusals.{typed_values, short_values, GoodRefusal, GoodTarget, else_good, check_good, change_good}

-- ---- replies

typed_rows : (rows : List (List Value)) → AllByRecursion Fitting rows → AllByRecursion TypedValues rows
typed_rows [] all = tt
typed_rows (values ∷ rows) all = (typed_values values all.0.0, typed_rows rows all.1)

short_rows : (rows : List (List Value)) → AllByRecursion Fitting rows → list_all (list_all is_short) rows ≡ true
short_rows [] all = refl
short_rows (values ∷ rows) all =
    and-from (list_all is_short values) (list_all (list_all is_short) rows) (short_values values all.0.0) (short_rows rows all.1)

room_rows : (rows : List (List Value)) → AllByRecursion Fitting rows → list_all fits_u16_count rows ≡ true
room_rows [] all = refl
room_rows (values ∷ rows) all =
    and-from (fits_u16_count values) (list_all fits_u16_count rows) (lt-ltb (length values) (2 ^ 16) all.0.1) (room_rows rows all.1)

rows_good : (rows : List (List Value)) → AllByRecursion Fitting rows → GoodReply (Rows rows)
rows_good rows all = record { typed = typed_rows rows all; ruled = short_rows rows all; room = room_rows rows all }

count_good : (n : ℕ) → n < 2 ^ 64 → GoodReply (Changed n)
count_good n small = record { typed = small; ruled = refl; room = refl }

-- ---- a statement

target_good : (name : Option (List ℕ)) (db : List Table) → GoodTables db → GoodTarget (table_of name db)
target_good None db tables = tt
target_good (Some name) db tables = by (table_at name db) refl
  where
    by : (o : Option Table) → table_at name db ≡ o → GoodTarget o
    by None found = tt
    by (Some t) found = all_found GoodTable (is_table name) db t tables found

module _ (db : List Table) (tables : GoodTables db) (valid : list_all is_valid_table db ≡ true) where
  abbrev catalog : Catalog
  catalog = catalog_of db

  refusal_good : (s : Statement) → GoodStatement s → GoodRefusal (refusal_of (Some s) db)
  refusal_good s good =
      let table : GoodTarget (target s db) = target_good (target_of s) db tables in
      else_good (own_refusal s db) (reference_refusal s catalog (target s db) db)
      (else_good (check_refusal s catalog) (change_refusal s catalog (target s db)) (check_good s catalog) (change_good s catalog (target s db) good table))
      (references_good s catalog (target s db) db good table tables)

  accepted_good : (s : Statement) → GoodStatement s → check_refusal s catalog ≡ None
      → change_refusal s catalog (target s db) ≡ None
      → GoodReply (accepted_reply s db)
  accepted_good (TheQuery query) good check change = rows_good (answer_rows query db) (answer_fit query db good.cores tables valid)
  accepted_good (TheInsert insert) good check change = count_good (length insert.rows) (inserted_small db valid insert check change)
  accepted_good (TheUpdate update) good check change =
      count_good _ (matched_small db valid (TheUpdate update) (λ t. is_matched (own_scope update.table catalog) update.pick) update.table (λ t. refl))
  accepted_good (TheDelete delete) good check change =
      count_good _ (matched_small db valid (TheDelete delete) (λ t. is_matched (own_scope delete.table catalog) delete.pick) delete.table (λ t. refl))

  reply_by : (s : Statement) → GoodStatement s → (o : Option SqlRefusal) → refusal_of (Some s) db ≡ o → GoodRefusal o
      → GoodReply (reply_or o (Some s) db)
  reply_by s good (Some refusal) is refused = refused
  reply_by s good None is refused =
      let own = else-parts (own_refusal s db) (reference_refusal s catalog (target s db) db) is in
      let parts = else-parts (check_refusal s catalog) (change_refusal s catalog (target s db)) own.0 in
      accepted_good s good parts.0 parts.1

  reply_good : (s : Statement) → GoodStatement s → GoodReply (reply_of (Some s) db)
  reply_good s good = subst (λ (r : Reply). GoodReply r) (sym (reply_is (Some s) db))
      (reply_by s good (refusal_of (Some s) db) refl (refusal_good s good))

  after_by : (s : Statement) → GoodStatement s → (o : Option SqlRefusal) → GoodTables (after_unless o (Some s) db)
  after_by s good (Some refusal) = tables
  after_by s good None = changed_in_good (target_of s) s catalog db good tables

  after_good : (s : Statement) → GoodStatement s → GoodTables (after (Some s) db)
  after_good s good = subst (λ (ts : List Table). GoodTables ts) (sym (after_is (Some s) db)) (after_by s good (refusal_of (Some s) db))

pub answers_law : AnswersLaw
answers_law s db good tables database =
    let valid : list_all is_valid_table db ≡ true = (and-parts (list_all is_valid_table db) (is_strictly_sorted table_precedes db) (tables_of_database db database)).0 in
    record { reply = reply_good db tables valid s good; tables = after_good db tables valid s good }

-- ---- a text that is no statement

syntax_good : GoodReply (reply_or (Some Syntax) None [])
syntax_good = record { typed = tt; ruled = refl; room = refl }

pub no_statement_law : NoStatementLaw
no_statement_law db = (subst (λ (r : Reply). GoodReply r) (sym (reply_is None db)) syntax_good, after_is None db)
