-- A statement has the same refusal, reply, needs and asked tables over a database without rows that it
-- doesn't need and tables that it doesn't ask. The tables after it are those after it over the whole
-- database, without the same.
use Rattle.std.proofs.Common.{◌≡◌, List, refl, sym, ap, ◌∙◌, subst, true}
use Rattle.std.specs.Prelude.{Some, None, ℕ, ◌++◌, map, filter}
use Rattle.sql_laws.specs.Types.{Statement, TheQuery, TheInsert, TheUpdate, TheDelete, Table}
use Rattle.sql_model.specs.Needs.{NeededRow, need_of, first_names, asked_names, is_asked, table_name, asked_tables}
use Rattle.sql_model.specs.ForeignKeys.{with_parents}
use Rattle.sql_model.specs.Scope.{catalog_of}
use Rattle.sql_laws.specs.QueryLaw.{Keep, cut_tables, KeepsNeeded}
use Rattle.sql_model.specs.Refusals.{tables_of}
use Rattle.sql_model.specs.Statements.{refusal_of, reply_of, after}
use Rattle.sql_laws.specs.StatementLaw.{KeepTables, cut_database, KeepsAsked, keep_others, SameStatement, StatementLaw}
use Rattle.sql_model.specs.Tables.{is_database}
use Rattle.sql_laws.proofs.FewerTables.{fewer, agree_all, names_stay, asked_same}
use Rattle.sql_laws.proofs.FewerTablesChanges.{change_fewer, after_fewer}
use Rattle.sql_laws.proofs.FewerTablesQueries.{query_fewer}
use Rattle.sql_laws.proofs.LeftRows.{KeepsAllNew}
use Rattle.sql_laws.proofs.LeftRowsStatements.{change_cut, after_cut, asked_cut}
use Rattle.sql_laws.proofs.ParentTables.{parents_fewer}
use Rattle.sql_laws.proofs.QueryCombinations.{catalog_same}
use Rattle.sql_laws.proofs.OtherRows.{needed_others, database_same, new_others}
use Rattle.sql_laws.proofs.QueryLaws.{query_law}
use Rattle.sql_laws.proofs.StatementParts.{after_is, reply_none, need_none, Same, insert_change, update_change, delete_change}

-- ---- rows left out

rows_left : (s : Statement) (db : List Table) (keep : Keep) → is_database db ≡ true → KeepsAllNew keep db
    → KeepsNeeded keep (need_of (Some s) db)
    → Same (Some s) (cut_tables keep db) db
rows_left (TheQuery query) db keep valid new k = let same = query_law query db keep k in record {
  refusal = same.refusal;
  reply = same.reply;
  needs = same.needs;
}
rows_left (TheInsert insert) db keep valid new k = change_cut keep (TheInsert insert) (insert_change insert) db valid new k
rows_left (TheUpdate update) db keep valid new k = change_cut keep (TheUpdate update) (update_change update) db valid new k
rows_left (TheDelete delete) db keep valid new k = change_cut keep (TheDelete delete) (delete_change delete) db valid new k

-- ---- tables left out

tables_left : (s : Statement) (db : List Table) (tables : KeepTables) → KeepsAsked tables (asked_tables (Some s) db)
    → Same (Some s) (fewer tables db) db
tables_left (TheQuery query) db tables ask = query_fewer tables db query (agree_all tables (TheQuery query) db ask)
tables_left (TheInsert insert) db tables ask = change_fewer tables (TheInsert insert) db ask (insert_change insert)
tables_left (TheUpdate update) db tables ask = change_fewer tables (TheUpdate update) db ask (update_change update)
tables_left (TheDelete delete) db tables ask = change_fewer tables (TheDelete delete) db ask (delete_change delete)

-- ---- the names that are asked

first_same : (s : Statement) (small whole : List Table) → need_of (Some s) small ≡ need_of (Some s) whole
    → first_names s small ≡ first_names s whole
first_same s small whole same = λ j. tables_of s ++ map (λ (need : NeededRow). need.table) (same j)

names_same : (s : Statement) (small whole : List Table) → need_of (Some s) small ≡ need_of (Some s) whole
    → catalog_of small ≡ catalog_of whole → asked_names s small ≡ asked_names s whole
names_same s small whole same catalog = λ j. with_parents (first_same s small whole same j) (catalog j)

-- ---- both

module _ (s : Statement) (db : List Table) (tables : KeepTables) (keep : Keep) where
  abbrev mid : List Table
  mid = cut_tables keep db

  abbrev small : List Table
  small = cut_database tables keep db

  both_left : is_database db ≡ true → KeepsAllNew keep db → KeepsNeeded keep (need_of (Some s) db)
      → KeepsAsked tables (asked_tables (Some s) db)
      → Same (Some s) small db × (asked_tables (Some s) small ≡ asked_tables (Some s) db) × (after (Some s) small ≡ cut_database tables keep (after (Some s) db))
  both_left valid new needed asked =
      let rows : Same (Some s) mid db = rows_left s db keep valid new needed in
      let names_mid : asked_names s mid ≡ asked_names s db = names_same s mid db rows.needs (catalog_same keep db) in
      let asked_mid : asked_tables (Some s) mid ≡ asked_tables (Some s) db =
      ap (λ (names : List (List ℕ)). map table_name (filter (is_asked names) mid)) names_mid ∙ asked_cut keep (asked_names s db) db in
      let there : KeepsAsked tables (asked_tables (Some s) mid) = subst (KeepsAsked tables) (sym asked_mid) asked in
      let fewer_tables : Same (Some s) small mid = tables_left s mid tables there in
      let names_small : asked_names s small ≡ asked_names s mid =
      ap (λ (names : List (List ℕ)). with_parents names (catalog_of small)) (first_same s small mid fewer_tables.needs)
      ∙ parents_fewer tables (first_names s mid) mid (names_stay tables s mid there) in
      let asked_small : asked_tables (Some s) small ≡ asked_tables (Some s) mid =
      ap (λ (names : List (List ℕ)). map table_name (filter (is_asked names) small)) names_small
      ∙ asked_same tables (is_asked (asked_names s mid)) mid there in
      let same : Same (Some s) small db = record {
        refusal = fewer_tables.refusal ∙ rows.refusal;
        reply = fewer_tables.reply ∙ rows.reply;
        needs = fewer_tables.needs ∙ rows.needs;
      } in (
        same,
        asked_small ∙ asked_mid,
        after_is (Some s) small
            ∙ after_fewer tables s mid there fewer_tables.refusal
            ∙ ap (fewer tables) (after_cut keep s db new rows.refusal)
            ∙ sym (ap (cut_database tables keep) (after_is (Some s) db)),
      )

-- the want of a statement is refused, and changes nothing
same_none : (db : List Table) (tables : KeepTables) (keep : Keep)
    → cut_tables (keep_others keep db) db ≡ cut_tables keep db → SameStatement None tables keep db
same_none db tables keep same = record {
  refusal = refl;
  reply = reply_none (cut_database tables keep db) db;
  needs = need_none (cut_database tables keep db) db;
  asked = refl;
  changes =
      after_is None (cut_database tables keep db)
      ∙ sym (ap (fewer tables) same)
      ∙ sym (ap (cut_database tables (keep_others keep db)) (after_is None db));
}

same_some : (s : Statement) (db : List Table) (tables : KeepTables) (keep : Keep) → is_database db ≡ true
    → KeepsNeeded keep (need_of (Some s) db) → KeepsAsked tables (asked_tables (Some s) db)
    → SameStatement (Some s) tables keep db
same_some s db tables keep valid needed asked =
    let others : Keep = keep_others keep db in
    let same : cut_database tables others db ≡ cut_database tables keep db = ap (fewer tables) (database_same keep db) in
    let law = both_left s db tables others valid (new_others keep db valid) (needed_others keep db (need_of (Some s) db) needed) asked in
    record {
      refusal = sym (ap (refusal_of (Some s)) same) ∙ law.0.refusal;
      reply = sym (ap (reply_of (Some s)) same) ∙ law.0.reply;
      needs = sym (ap (need_of (Some s)) same) ∙ law.0.needs;
      asked = sym (ap (asked_tables (Some s)) same) ∙ law.1;
      changes = sym (ap (after (Some s)) same) ∙ law.2;
    }

pub statement_law : StatementLaw
statement_law None db tables keep valid left needed asked = same_none db tables keep (database_same keep db)
statement_law (Some s) db tables keep valid left needed asked = same_some s db tables keep valid needed asked
