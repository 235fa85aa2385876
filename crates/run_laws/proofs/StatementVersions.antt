-- A statement makes the same row versions in a cut database that keeps all that it needs: a DELETE for the
-- rows that it needs, an UPDATE for the rows that it needs by rule L, an INSERT from the next number on.
use Rattle.std.proofs.Common.{◌≡◌, ℕ, ◌+◌, List, [], ◌++◌, refl, sym, ap, ◌∙◌, true}
use Rattle.std.specs.Prelude.{Option, Some, None, option_map, map, nat_lt}
use Rattle.std.specs.List.{list_all}
use Rattle.std.proofs.lemmas.Bool.{and_parts}
use Rattle.ldv_value.proofs.Lists.{map-map}
use Rattle.sql_model.specs.declared.catalog.Catalog.{Catalog}
use Rattle.sql_model.specs.declared.need.Rule.TheVariants.{P}
use Rattle.sql_model.specs.declared.reply.SqlRefusal.{SqlRefusal}
use Rattle.sql_model.specs.declared.statement.Delete.{Delete}
use Rattle.sql_model.specs.declared.statement.Insert.{Insert}
use Rattle.sql_model.specs.declared.statement.Update.{Update}
use Rattle.sql_model.specs.declared.statement.Statement.TheVariants.{Query as TheQuery, Insert as TheInsert, Update as TheUpdate, Delete as TheDelete}
use Rattle.sql_model.specs.QueryAnswer.{Origin}
use Rattle.sql_model.specs.Changes.{rows_of_insert, matched, is_matched}
use Rattle.sql_model.specs.Needs.{Versions, NeededRow, needed_by, matched_row, matched_rows, parent_rows, sorted_needs, needs_by, need_of, asked_tables, new_member, members_made, made_unless, made_by, updated_in, updated_unless, updated_rows}
use Rattle.sql_model.specs.References.{parents_needed}
use Rattle.sql_model.specs.Scope.{catalog_of, own_scope, table_at}
use Rattle.sql_model.specs.Statements.{target, refusal_of}
use Rattle.sql_model.specs.Tables.{is_valid_table, is_database}
use Rattle.sql_model.proofs.Equations.{made_is, updated_is}
use Rattle.sql_model.proofs.ValidTables.{table-parts}
use Rattle.sql_laws.specs.QueryLaw.{KeepsNeeded as KeepsRows}
use Rattle.sql_laws.specs.StatementLaw.{KeepsAsked, SameStatement}
use Rattle.sql_laws.proofs.StatementLaws.{statement_law}
use Rattle.sql_laws.proofs.StatementParts.{need_parts}
use Rattle.run_laws.specs.Types.{Statement, Table, TableRow, Member}
use Rattle.run_model.specs.Between.{Cut, cut_table, cut_tables}
use Rattle.run_laws.proofs.SortedNeeds.{rows_sorted, filter_sorted, rising_matched, lineage, lineage_matched, parents_other}
use Rattle.run_laws.proofs.Targets.{valid_table, target_cut}

-- ---- versions by what is needed

abbrev pub next_of : Versions → NeededRow → Member
next_of versions n = record { table = n.table; row = n.row; version = versions n.table n.row + 1 }

abbrev pub origin_of : NeededRow → Origin
origin_of n = record { table = n.table; row = n.row }

-- those of an INSERT into a table, from its next number on
abbrev pub members_from : Insert → Option Table → List Member
members_from insert None = []
members_from insert (Some t) = map (new_member t) (rows_of_insert insert t)

-- what an accepted statement makes and updates
abbrev pub made_of : Versions → Statement → Option Table → List NeededRow → List Member
made_of versions (TheQuery query) t needs = []
made_of versions (TheInsert insert) t needs = members_from insert t
made_of versions (TheUpdate update) t needs = map (next_of versions) (lineage needs)
made_of versions (TheDelete delete) t needs = map (next_of versions) needs

abbrev pub updated_of : Statement → List NeededRow → List Origin
updated_of (TheQuery query) needs = []
updated_of (TheInsert insert) needs = []
updated_of (TheUpdate update) needs = map origin_of (lineage needs)
updated_of (TheDelete delete) needs = []

-- each list of the parts, by the refusal
abbrev pub made_if : Option SqlRefusal → Versions → Statement → Option Table → List NeededRow → List Member
made_if None versions s t needs = made_of versions s t needs
made_if (Some refusal) versions s t needs = []

abbrev pub updated_if : Option SqlRefusal → Statement → List NeededRow → List Origin
updated_if None s needs = updated_of s needs
updated_if (Some refusal) s needs = []

-- ---- rows of a table that rise

abbrev pub Rises : Option Table → Type 0
Rises None = Unit {0}
Rises (Some t) = rows_sorted t.rows ≡ true

matched_rise : (s : Statement) (catalog : Catalog) (t : Table) → rows_sorted t.rows ≡ true
    → rows_sorted (matched s catalog t) ≡ true
matched_rise (TheQuery query) catalog t rise = refl
matched_rise (TheInsert insert) catalog t rise = refl
matched_rise (TheUpdate update) catalog t rise = filter_sorted (is_matched (own_scope update.table catalog) update.pick) t.rows rise
matched_rise (TheDelete delete) catalog t rise = filter_sorted (is_matched (own_scope delete.table catalog) delete.pick) t.rows rise

-- matched rows are needed as they are
matched_needed : (s : Statement) (catalog : Catalog) (o : Option Table) → Rises o
    → sorted_needs (matched_rows s catalog o) ≡ matched_rows s catalog o
matched_needed s catalog None rise = refl
matched_needed s catalog (Some t) rise = rising_matched t (matched s catalog t) (matched_rise s catalog t rise)

-- beside the parents of an UPDATE too
update_needed : (db : List Table) (update : Update) (catalog : Catalog) (o : Option Table) → Rises o
    → lineage (sorted_needs (matched_rows (TheUpdate update) catalog o ++ parent_rows (TheUpdate update) catalog o db))
    ≡ matched_rows (TheUpdate update) catalog o
update_needed db update catalog None rise = refl
update_needed db update catalog (Some t) rise =
    let parents : List Origin = parents_needed (TheUpdate update) catalog t db in
    lineage_matched t (map (needed_by P) parents) (parents_other parents) (matched (TheUpdate update) catalog t)
    (matched_rise (TheUpdate update) catalog t rise)

-- each matched row in its next version
update_made : (versions : Versions) (update : Update) (catalog : Catalog) (o : Option Table)
    → members_made versions (TheUpdate update) catalog o ≡ map (next_of versions) (matched_rows (TheUpdate update) catalog o)
update_made versions update catalog None = refl
update_made versions update catalog (Some t) = sym (map-map (next_of versions) (matched_row t) (matched (TheUpdate update) catalog t))

delete_made : (versions : Versions) (delete : Delete) (catalog : Catalog) (o : Option Table)
    → members_made versions (TheDelete delete) catalog o ≡ map (next_of versions) (matched_rows (TheDelete delete) catalog o)
delete_made versions delete catalog None = refl
delete_made versions delete catalog (Some t) = sym (map-map (next_of versions) (matched_row t) (matched (TheDelete delete) catalog t))

insert_made : (versions : Versions) (insert : Insert) (catalog : Catalog) (o : Option Table)
    → members_made versions (TheInsert insert) catalog o ≡ members_from insert o
insert_made versions insert catalog None = refl
insert_made versions insert catalog (Some t) = refl

update_origins : (update : Update) (catalog : Catalog) (o : Option Table)
    → updated_in (TheUpdate update) catalog o ≡ map origin_of (matched_rows (TheUpdate update) catalog o)
update_origins update catalog None = refl
update_origins update catalog (Some t) = sym (map-map origin_of (matched_row t) (matched (TheUpdate update) catalog t))

insert_origins : (insert : Insert) (catalog : Catalog) (o : Option Table) → updated_in (TheInsert insert) catalog o ≡ []
insert_origins insert catalog None = refl
insert_origins insert catalog (Some t) = refl

delete_origins : (delete : Delete) (catalog : Catalog) (o : Option Table) → updated_in (TheDelete delete) catalog o ≡ []
delete_origins delete catalog None = refl
delete_origins delete catalog (Some t) = refl

module _ (db : List Table) where
  -- where a statement is accepted
  accepted_made : (versions : Versions) (s : Statement) → Rises (target s db)
      → members_made versions s (catalog_of db) (target s db) ≡ made_of versions s (target s db) (sorted_needs (needs_by None s db))
  accepted_made versions (TheQuery query) rise = refl
  accepted_made versions (TheInsert insert) rise = insert_made versions insert (catalog_of db) (target (TheInsert insert) db)
  accepted_made versions (TheUpdate update) rise =
      update_made versions update (catalog_of db) (target (TheUpdate update) db)
      ∙ sym (ap (map (next_of versions)) (update_needed db update (catalog_of db) (target (TheUpdate update) db) rise))
  accepted_made versions (TheDelete delete) rise =
      delete_made versions delete (catalog_of db) (target (TheDelete delete) db)
      ∙ sym (ap (map (next_of versions)) (matched_needed (TheDelete delete) (catalog_of db) (target (TheDelete delete) db) rise))

  accepted_updated : (s : Statement) → Rises (target s db)
      → updated_in s (catalog_of db) (target s db) ≡ updated_of s (sorted_needs (needs_by None s db))
  accepted_updated (TheQuery query) rise = refl
  accepted_updated (TheInsert insert) rise = insert_origins insert (catalog_of db) (target (TheInsert insert) db)
  accepted_updated (TheUpdate update) rise =
      update_origins update (catalog_of db) (target (TheUpdate update) db)
      ∙ sym (ap (map origin_of) (update_needed db update (catalog_of db) (target (TheUpdate update) db) rise))
  accepted_updated (TheDelete delete) rise = delete_origins delete (catalog_of db) (target (TheDelete delete) db)

  made_by_refusal : (versions : Versions) (s : Statement) → Rises (target s db) → (refusal : Option SqlRefusal)
      → made_unless refusal versions (Some s) db ≡ made_if refusal versions s (target s db) (sorted_needs (needs_by refusal s db))
  made_by_refusal versions s rise (Some refusal) = refl
  made_by_refusal versions s rise None = accepted_made versions s rise

  updated_by_refusal : (s : Statement) → Rises (target s db) → (refusal : Option SqlRefusal)
      → updated_unless refusal (Some s) db ≡ updated_if refusal s (sorted_needs (needs_by refusal s db))
  updated_by_refusal s rise (Some refusal) = refl
  updated_by_refusal s rise None = accepted_updated s rise

  -- by the refusal, the table that is changed and the rows that are needed
  pub made_parts : (versions : Versions) (s : Statement) → Rises (target s db)
      → made_by versions (Some s) db ≡ made_if (refusal_of (Some s) db) versions s (target s db) (need_of (Some s) db)
  made_parts versions s rise =
      made_is versions (Some s) db
      ∙ made_by_refusal versions s rise (refusal_of (Some s) db)
      ∙ sym (ap (made_if (refusal_of (Some s) db) versions s (target s db)) (need_parts s db))

  pub updated_parts : (s : Statement) → Rises (target s db)
      → updated_rows (Some s) db ≡ updated_if (refusal_of (Some s) db) s (need_of (Some s) db)
  updated_parts s rise =
      updated_is (Some s) db
      ∙ updated_by_refusal s rise (refusal_of (Some s) db)
      ∙ sym (ap (updated_if (refusal_of (Some s) db) s) (need_parts s db))

pub made_none : (versions : Versions) (db : List Table) → made_by versions None db ≡ []
made_none versions db = made_is versions None db

pub updated_none : (db : List Table) → updated_rows None db ≡ []
updated_none db = updated_is None db

-- ---- a database

rows_rise : (t : Table) → is_valid_table t ≡ true → rows_sorted t.rows ≡ true
rows_rise t valid =
    (and_parts (rows_sorted t.rows) (list_all (λ (row : TableRow). nat_lt row.number t.next) t.rows) (table-parts t valid).numbers).0

found_rises : (name : List ℕ) (db : List Table) → is_database db ≡ true → Rises (table_at name db)
found_rises name db valid = by (table_at name db) refl
  where
    by : (o : Option Table) → table_at name db ≡ o → Rises o
    by None is = tt
    by (Some t) is = rows_rise t (valid_table name db t valid is)

pub target_rises : (s : Statement) (db : List Table) → is_database db ≡ true → Rises (target s db)
target_rises (TheQuery query) db valid = tt
target_rises (TheInsert insert) db valid = found_rises insert.table db valid
target_rises (TheUpdate update) db valid = found_rises update.table db valid
target_rises (TheDelete delete) db valid = found_rises delete.table db valid

-- ---- without what was cut

pub record SameVersions (statement : Option Statement) (cut : Cut) (db : List Table) : Type 0 where
  pub made : (versions : Versions) → made_by versions statement (cut_tables cut db) ≡ made_by versions statement db
  pub updated : updated_rows statement (cut_tables cut db) ≡ updated_rows statement db

-- an INSERT looks at the table's name, schema and next number
members_cut : (cut : Cut) (insert : Insert) (o : Option Table) → members_from insert (option_map (cut_table cut) o) ≡ members_from insert o
members_cut cut insert None = refl
members_cut cut insert (Some t) = refl

made_cut : (cut : Cut) (versions : Versions) (refusal : Option SqlRefusal) (s : Statement) (o : Option Table) (needs : List NeededRow)
    → made_if refusal versions s (option_map (cut_table cut) o) needs ≡ made_if refusal versions s o needs
made_cut cut versions (Some refusal) s o needs = refl
made_cut cut versions None (TheQuery query) o needs = refl
made_cut cut versions None (TheInsert insert) o needs = members_cut cut insert o
made_cut cut versions None (TheUpdate update) o needs = refl
made_cut cut versions None (TheDelete delete) o needs = refl

module _ (s : Statement) (cut : Cut) (db : List Table) (valid : is_database db ≡ true)
    (left : is_database (cut_tables cut db) ≡ true)
    (rows : KeepsRows cut.row (need_of (Some s) db)) (tables : KeepsAsked cut.table (asked_tables (Some s) db)) where
  same : SameStatement (Some s) cut.table cut.row db
  same = statement_law (Some s) db cut.table cut.row valid left rows tables

  rises : Rises (target s db)
  rises = target_rises s db valid

  found : target s (cut_tables cut db) ≡ option_map (cut_table cut) (target s db)
  found = target_cut cut s db tables

  small_rises : Rises (target s (cut_tables cut db))
  small_rises = target_rises s (cut_tables cut db) left

  some_versions : SameVersions (Some s) cut db
  some_versions = record {
    made = λ versions.
        made_parts (cut_tables cut db) versions s small_rises
        ∙ (λ j. made_if (same.refusal j) versions s (found j) (same.needs j))
        ∙ made_cut cut versions (refusal_of (Some s) db) s (target s db) (need_of (Some s) db)
        ∙ sym (made_parts db versions s rises);
    updated =
        updated_parts (cut_tables cut db) s small_rises
        ∙ (λ j. updated_if (same.refusal j) s (same.needs j))
        ∙ sym (updated_parts db s rises);
  }

pub same_versions : (statement : Option Statement) (cut : Cut) (db : List Table) → is_database db ≡ true
    → is_database (cut_tables cut db) ≡ true
    → KeepsRows cut.row (need_of statement db) → KeepsAsked cut.table (asked_tables statement db) → SameVersions statement cut db
same_versions None cut db valid left rows tables = record {
  made = λ versions. made_none versions (cut_tables cut db) ∙ sym (made_none versions db);
  updated = updated_none (cut_tables cut db) ∙ sym (updated_none db);
}
same_versions (Some s) cut db valid left rows tables = some_versions s cut db valid left rows tables
