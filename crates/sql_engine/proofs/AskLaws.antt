-- The reply to a statement, and the lists that are recorded of it, by the definitions of databases.
use Rattle.std.proofs.Common.{◌≡◌, ◌∙◌, sym, ap, subst, refl, ℕ, suc, length, List, [], ◌∷◌, ◌++◌, map, Bool, true, false, Option, Some, None, IsTrue, inl, inr}
use Rattle.std.specs.Prelude.{Result, Ok, Err, IfOk, OnErr, filter, find, if◌then◌else◌}
use Rattle.std.specs.List.{flat_map}
use Rattle.std.proofs.lemmas.Bool.{cases_Bool}
use Rattle.std.proofs.lemmas.List.{map-append}
use Rattle.ldv_value.proofs.Lists.{map-map}
use Rattle.predicates.specs.Checking.{IsQuery}
use Rattle.dml_versions.proofs.CheckLaws.{accepted}
use Rattle.dml_versions.specs.Changing.{IsChange, IsCheckedOver, IsStoreAfter}
use Rattle.sql_model.specs.Tables.{AreWellFormed}
use Rattle.dml_versions.specs.Versions.{versions_now, updates_of, updates_in}
use Rattle.dml_versions.specs.declared.change.Change.{Change}
use Rattle.query_eval.specs.StoredSources.{table_names}
use Rattle.run_model.specs.SqlDatabase.{SqlDatabase, initial_database, db_after, lists_of, answer_of, sql_base}
use Rattle.run_model.specs.Database.{Gives, asked_by}
use Rattle.run_model.specs.declared.database.Asker.{Asker}
use Rattle.sql_model.specs.Texts.{statement_of}
use Rattle.sql_engine.proofs.NeedLaws.{needs_are}
use Rattle.sql_engine.proofs.StoreLaws.{answer_named, hidden_named, sorted_names}
use Rattle.sql_engine.specs.inner.Answering.{IsAnswer, IsAnswered, hidden_lineage}
use Rattle.sql_engine.specs.Asking.{database, lists_in, IsRecorded, IsOutcome, refusal_change, recorded_of}
use Rattle.sql_engine.specs.inner.Listing.{is_in, names_first, tables_asked, needs_of}
use Rattle.sql_laws.proofs.DatabaseLaws.{database_law}
use Rattle.sql_engine.specs.Types.{Catalog, Checked, H, L, Member, Need, Query, Reply, Rows, SqlRefusal, Statement, StoreHistory, Syntax, Table, TheQuery, TheInsert, TheUpdate, TheDelete, Value}
use Rattle.sql_engine.specs.declared.answer.QueryAnswer.{QueryAnswer}
use Rattle.sql_engine.specs.declared.cache.Cache.{Cache}
use Rattle.sql_engine.specs.declared.recorded.Recorded.{Recorded}
use Rattle.sql_engine.specs.inner.Keeping.{IsCacheOf}
use Rattle.sql_model.proofs.Equations.{reply_is, need_is, made_is, updated_is, after_is, table_schema}
use Rattle.sql_model.specs.Changes.{or_else, change_refusal}
use Rattle.sql_model.specs.ForeignKeys.{with_parents}
use Rattle.sql_model.specs.Needs.{NeededRow, Versions, need_of, needs_by, sorted_needs, needed_by, hidden_rows, sums_up, first_names, asked_names, is_asked, asked_tables, table_name, made_by, made_unless, updated_unless, versions_after, read_of}
use Rattle.sql_model.specs.QueryAnswer.{answer, cut, lineage_of, rejected}
use Rattle.sql_model.specs.Refusals.{check_refusal, tables_of}
use Rattle.sql_model.specs.Places.{checked_of, checked_statement, checked_unless}
use Rattle.sql_model.specs.Scope.{catalog_of}
use Rattle.sql_model.specs.Statements.{reference_refusal, refusal_of, reply_of, reply_or, target, after_unless}
use Rattle.table_store.specs.Histories.{history_of_new_row, is_history, is_of_number, tables_now}
use Rattle.table_store.specs.StoreView.{store_at_start}
use Rattle.table_store.specs.TableView.{history_at_start}
use Rattle.sql_model.specs.declared.table.TableRow.{TableRow}

-- ---- tables

names_of : (names : List (List ℕ)) (db : List Table) → filter (is_in names) (map table_name db) ≡ map table_name (filter (is_asked names) db)
names_of names [] = refl
names_of names (t ∷ db) = elim (cases_Bool (is_asked names t)) [
  | inl hit ↦ rw hit (ap (λ (l : List (List ℕ)). t.name ∷ l) (names_of names db))
  | inr miss ↦ rw miss (names_of names db)
]

module _ (s : Statement) (versions : Versions) (db : List Table) (needs : List Need) (are : needs ≡ map (read_of versions) (need_of (Some s) db)) where
  first_are : names_first s needs ≡ first_names s db
  first_are =
      ap (λ (l : List Need). tables_of s ++ map (λ (need : Need). need.member.table) l) are
      ∙ ap (λ (l : List (List ℕ)). tables_of s ++ l) (map-map (λ (need : Need). need.member.table) (read_of versions) (need_of (Some s) db))

  -- the tables by the rows that are needed
  pub asked_are : tables_asked s needs (catalog_of db) ≡ asked_tables (Some s) db
  asked_are =
      ap (λ (names : List (List ℕ)). filter (is_in (with_parents names (catalog_of db))) (map table_name db)) first_are
      ∙ names_of (asked_names s db) db

-- a statement leaves the names and schemas
pub same_catalog : (s : Statement) (keep : Bool) (old new : StoreHistory) (change : Change) → AreWellFormed (tables_now old)
    → IsOutcome s keep old new change → catalog_of (tables_now new) ≡ catalog_of (tables_now old)
same_catalog s keep old new change formed is =
    ap catalog_of (ap (λ (d : SqlDatabase). d.tables) is.after)
    ∙ (database_law (Some s) (tables_now old) formed.database formed.distinct).catalog

pub paired : (db : List Table) → length (map table_name db) ≡ length (map table_schema db)
paired [] = refl
paired (t ∷ db) = ap suc (paired db)

-- what is recorded of a statement, from what it gives
pub outcome_done : (s : Statement) (keep : Bool) (old new : StoreHistory) (change : Change) (tables : List (List ℕ))
    → IsOutcome s keep old new change → (IsTrue keep → tables ≡ tables_asked s change.needs (catalog_of (tables_now old)))
    → IsRecorded (Some s) keep old new (recorded_of change tables)
outcome_done s keep old new change tables is told = record {
  reply = is.reply;
  after = is.after;
  lists = λ kept j. record {
    tables = (told kept ∙ asked_are s (versions_now old) (tables_now old) change.needs (is.needs kept)) j;
    reads = is.needs kept j;
    made = is.made kept j;
  };
}

-- ---- where nothing changes

module _ (statement : Option Statement) (store : StoreHistory) (refusal : Option SqlRefusal)
    (is : refusal_of statement (tables_now store) ≡ refusal) where
  abbrev db : List Table
  db = tables_now store

  reply_by : reply_of statement db ≡ reply_or refusal statement db
  reply_by = reply_is statement db ∙ ap (λ (r : Option SqlRefusal). reply_or r statement db) is

  after_by : after_unless refusal statement db ≡ db → updated_unless refusal statement db ≡ [] → database store ≡ db_after statement (database store)
  after_by same none = sym (λ j. record {
    tables = (after_is statement db ∙ ap (λ (r : Option SqlRefusal). after_unless r statement db) is ∙ same) j;
    versions = versions_after ((updated_is statement db ∙ ap (λ (r : Option SqlRefusal). updated_unless r statement db) is ∙ none) j) (versions_now store);
  })

  made_by_refusal : made_by (versions_now store) statement db ≡ made_unless refusal (versions_now store) statement db
  made_by_refusal = made_is (versions_now store) statement db ∙ ap (λ (r : Option SqlRefusal). made_unless r (versions_now store) statement db) is

-- ---- refusals

module _ (s : Statement) (store : StoreHistory) (keep : Bool) (refusal : SqlRefusal)
    (is : check_refusal s (catalog_of (tables_now store)) ≡ Some refusal)
    (none : needs_by (Some refusal) s (tables_now store) ≡ []) where
  refusal_is : refusal_of (Some s) (tables_now store) ≡ Some refusal
  refusal_is = ap (λ (r : Option SqlRefusal). or_else (or_else r (change_refusal s (catalog_of (tables_now store)) (target s (tables_now store))))
      (reference_refusal s (catalog_of (tables_now store)) (target s (tables_now store)) (tables_now store))) is

  -- what the schemas refuse
  pub refused_outcome : IsOutcome s keep store store (refusal_change refusal)
  refused_outcome = record {
    reply = sym (reply_by (Some s) store (Some refusal) refusal_is);
    after = after_by (Some s) store (Some refusal) refusal_is refl refl;
    needs = λ kept. sym (ap (map (read_of (versions_now store)))
        (need_is (Some s) (tables_now store)
        ∙ ap (λ (r : Option SqlRefusal). sorted_needs (needs_by r s (tables_now store))) refusal_is
        ∙ ap sorted_needs none));
    made = λ kept. sym (made_by_refusal (Some s) store (Some refusal) refusal_is);
  }

-- what no statement is
pub syntax_done : (store : StoreHistory) (keep : Bool) → IsRecorded None keep store store (recorded_of (refusal_change Syntax) [])
syntax_done store keep = record {
  reply = sym (reply_by None store (Some Syntax) refl);
  after = after_by None store (Some Syntax) refl refl refl;
  lists = λ kept j. record {
    tables = [];
    reads = map (read_of (versions_now store)) (sym (need_is None (tables_now store)) j);
    made = sym (made_by_refusal None store (Some Syntax) refl) j;
  };
}

-- ---- queries

module _ (query : Query) (store : StoreHistory) (keep : Bool) (made : QueryAnswer)
    (check : check_refusal (TheQuery query) (catalog_of (tables_now store)) ≡ None)
    (formed : AreWellFormed (tables_now store))
    (is : IsAnswer store keep query made) where
  abbrev tables_here : List Table
  tables_here = tables_now store

  query_refusal : refusal_of (Some (TheQuery query)) tables_here ≡ None
  query_refusal = ap (λ (r : Option SqlRefusal). or_else (or_else r (change_refusal (TheQuery query) (catalog_of tables_here) (target (TheQuery query) tables_here)))
      (reference_refusal (TheQuery query) (catalog_of tables_here) (target (TheQuery query) tables_here) tables_here)) check

  cut_by : (sums : Bool) → map (needed_by H) (if sums then lineage_of (cut query tables_here) else [])
      ≡ (if sums then map (needed_by H) (lineage_of (cut query tables_here)) else [])
  cut_by true = refl
  cut_by false = refl

  hidden_is : map (needed_by H) (hidden_lineage query tables_here) ≡ hidden_rows query tables_here
  hidden_is =
      map-append (needed_by H) (flat_map (rejected tables_here) query.cores) (if sums_up query.cores then lineage_of (cut query tables_here) else [])
      ∙ ap (λ (l : List NeededRow). map (needed_by H) (flat_map (rejected tables_here) query.cores) ++ l) (cut_by (sums_up query.cores))

  reads_by : (k : Bool) → IsTrue k → IsAnswer store k query made
      → needs_of (table_names store) made.lineage made.hidden ≡ map (read_of (versions_now store)) (need_of (Some (TheQuery query)) tables_here)
  reads_by false kept all = cc
  reads_by true kept all =
      needs_are (table_names store) (versions_now store) made.lineage made.hidden (lineage_of (answer query tables_here)) (hidden_lineage query tables_here)
      (sorted_names store formed.database) (answer_named store query) (hidden_named store query) all.lineage all.hidden
      ∙ ap (map (read_of (versions_now store)))
      (ap (λ (l : List NeededRow). sorted_needs (map (needed_by L) (lineage_of (answer query tables_here)) ++ l)) hidden_is
      ∙ sym (need_is (Some (TheQuery query)) tables_here
      ∙ ap (λ (r : Option SqlRefusal). sorted_needs (needs_by r (TheQuery query) tables_here)) query_refusal))

  pub query_outcome : IsOutcome (TheQuery query) keep store store
      (record { reply = Rows made.rows; made = []; needs = needs_of (table_names store) made.lineage made.hidden })
  query_outcome = record {
    reply = ap Rows is.rows ∙ sym (reply_by (Some (TheQuery query)) store None query_refusal);
    after = after_by (Some (TheQuery query)) store None query_refusal refl refl;
    needs = λ kept. reads_by keep kept is;
    made = λ kept. sym (made_by_refusal (Some (TheQuery query)) store None query_refusal);
  }

-- ---- changes

pub change_outcome : (s : Statement) (store new : StoreHistory) (keep : Bool) (time : ℕ) (change : Change)
    → IsChange s keep store change → IsStoreAfter s time store new → IsOutcome s keep store new change
change_outcome s store new keep time change is after = record {
  reply = is.reply;
  after = λ j. record { tables = after.tables j; versions = after.versions j };
  needs = is.needs;
  made = is.made;
}

-- ---- a query that was checked

pub asked_query_outcome : (checked : Checked) (store : StoreHistory) (keep : Bool) (made : QueryAnswer)
    → IsQuery checked.statement → IsCheckedOver (tables_now store) checked → AreWellFormed (tables_now store)
    → IsAnswered checked store keep made
    → IsOutcome checked.statement keep store store
    (record { reply = Rows made.rows; made = []; needs = needs_of (table_names store) made.lineage made.hidden })
asked_query_outcome checked store keep made kind over formed is = by checked.statement refl kind
  where
    catalog : Catalog
    catalog = catalog_of (tables_now store)

    by : (s : Statement) → checked.statement ≡ s → IsQuery s
        → IsOutcome s keep store store
        (record { reply = Rows made.rows; made = []; needs = needs_of (table_names store) made.lineage made.hidden })
    by (TheQuery query) same kind =
        query_outcome query store keep made
        (ap (λ (s : Statement). check_refusal s catalog) (sym same) ∙ accepted (tables_now store) checked over) formed
        (is query (record { checked_is = ap (λ (s : Statement). checked_of s catalog) (sym same) ∙ over; database = formed.database }))
    by (TheInsert insert) same kind = absurd kind
    by (TheUpdate update) same kind = absurd kind
    by (TheDelete delete) same kind = absurd kind

-- what a check refuses
pub refused_by_check : (s : Statement) (catalog : Catalog) (refusal : SqlRefusal) → checked_of s catalog ≡ Err refusal
    → check_refusal s catalog ≡ Some refusal
refused_by_check s catalog refusal is = by (check_refusal s catalog) is
  where
    by : (r : Option SqlRefusal) → checked_unless r s catalog ≡ Err refusal → r ≡ Some refusal
    by None is = cc
    by (Some r) is = cc

-- what a check accepts was checked against these tables
pub checked_over : (s : Statement) (db : List Table) (catalog : Catalog) (checked : Checked) → catalog ≡ catalog_of db
    → checked_of s catalog ≡ Ok checked → IsCheckedOver db checked × (s ≡ checked.statement)
checked_over s db catalog checked same is =
    let statement : s ≡ checked.statement = by (check_refusal s catalog) is in
    ((λ j. checked_of (sym statement j) (sym same j)) ∙ is, statement)
  where
    by : (r : Option SqlRefusal) → checked_unless r s catalog ≡ Ok checked → s ≡ checked.statement
    by None is = let same : checked_statement s catalog ≡ checked = cc in ap (λ (c : Checked). c.statement) same
    by (Some refusal) is = cc

-- the same of a catalog that is that of the tables
pub refused_over : (s : Statement) (store : StoreHistory) (keep : Bool) (refusal : SqlRefusal) (catalog : Catalog)
    → catalog ≡ catalog_of (tables_now store) → checked_of s catalog ≡ Err refusal → needs_by (Some refusal) s (tables_now store) ≡ []
    → IsOutcome s keep store store (refusal_change refusal)
refused_over s store keep refusal catalog same is none =
    refused_outcome s store keep refusal
    (refused_by_check s (catalog_of (tables_now store)) refusal (ap (checked_of s) (sym same) ∙ is)) none

-- a part in place of an equal one
pub same_needs : (s : Statement) (keep : Bool) (old new : StoreHistory) (reply : Reply) (made : List Member) (needs others : List Need)
    → needs ≡ others → IsOutcome s keep old new (record { reply = reply; made = []; needs = others }) → made ≡ []
    → IsOutcome s keep old new (record { reply = reply; made = made; needs = needs })
same_needs s keep old new reply made needs others same is none =
    subst (IsOutcome s keep old new) (λ j. record { reply = reply; made = sym none j; needs = sym same j }) is

-- ---- a store at its start

unchanged_row : (number : ℕ) (rows : List TableRow) → updates_of (find (is_of_number number) (map (history_of_new_row 0) rows)) ≡ 0
unchanged_row number [] = refl
unchanged_row number (row ∷ rows) = elim (cases_Bool (is_of_number number (history_of_new_row 0 row))) [
  | inl hit ↦ rw hit refl
  | inr miss ↦ rw miss (unchanged_row number rows)
]

unchanged_in : (name : List ℕ) (number : ℕ) (tables : List Table) → updates_in number (find (is_history name) (map history_at_start tables)) ≡ 0
unchanged_in name number [] = refl
unchanged_in name number (t ∷ tables) = elim (cases_Bool (is_history name (history_at_start t))) [
  | inl hit ↦ rw hit (unchanged_row number t.rows)
  | inr miss ↦ rw miss (unchanged_in name number tables)
]

pub started_is : (tables : List Table) (store : StoreHistory) → store ≡ store_at_start tables → tables_now store ≡ tables
    → database store ≡ initial_database tables
started_is tables store made now = λ j. record {
  tables = now j;
  versions = (ap versions_now made ∙ (λ i name number. unchanged_in name number tables i)) j;
}

-- ---- the relation

pub gives : (statement : Option Statement) (keep : Bool) (old new : StoreHistory) (done : Recorded) → IsRecorded statement keep old new done
    → answer_of statement (database old) ≡ Gives done.reply (database new) (lists_of statement (database old))
gives statement keep old new done is = λ j. Gives (sym is.reply j) (sym is.after j) (lists_of statement (database old))

-- the same where the store and the text are seen through others
module _ (old seen new : StoreHistory) (text given : List ℕ) (params : List Value) (keep : Bool) (done : Recorded)
    (same_store : old ≡ seen) (same_text : text ≡ given) (is : IsRecorded (statement_of text params) keep old new done) where
  seen_done : IsRecorded (statement_of given params) keep seen new done
  seen_done =
      subst (λ (t : List ℕ). IsRecorded (statement_of t params) keep seen new done) same_text
      (subst (λ (s : StoreHistory). IsRecorded (statement_of text params) keep s new done) same_store is)

  pub seen_gives : (who : Asker) → sql_base (database seen) (asked_by who given params)
      ≡ Gives done.reply (database new) (lists_of (statement_of given params) (database seen))
  seen_gives who = gives (statement_of given params) keep seen new done seen_done

  pub seen_lists : IsTrue keep → lists_in done ≡ lists_of (statement_of given params) (database seen)
  seen_lists = seen_done.lists

-- a tracer that keeps no events
pub never_kept : (b k : Bool) → b ≡ false → b ≡ k → IsTrue k → ⊥
never_kept true k none same kept = cc
never_kept false true none same kept = cc
never_kept false false none same kept = cc

-- ---- what stays

-- a text leaves the names and schemas
pub recorded_catalog : (statement : Option Statement) (keep : Bool) (old new : StoreHistory) (done : Recorded) → AreWellFormed (tables_now old)
    → IsRecorded statement keep old new done → catalog_of (tables_now new) ≡ catalog_of (tables_now old)
recorded_catalog statement keep old new done formed is =
    ap catalog_of (ap (λ (d : SqlDatabase). d.tables) is.after)
    ∙ (database_law statement (tables_now old) formed.database formed.distinct).catalog

-- also where memory is out
pub kept_catalog : {E : Type 0} (result : Result Recorded E) (statement : Option Statement) (keep : Bool) (old new : StoreHistory)
    → AreWellFormed (tables_now old) → IfOk result (IsRecorded statement keep old new) → OnErr result (new ≡ old)
    → catalog_of (tables_now new) ≡ catalog_of (tables_now old)
kept_catalog (Ok done) statement keep old new formed is same = recorded_catalog statement keep old new done formed is
kept_catalog (Err stop) statement keep old new formed is same = ap (λ (s : StoreHistory). catalog_of (tables_now s)) same

pub kept_cache : {E : Type 0} (result : Result Recorded E) (statement : Option Statement) (keep : Bool) (old new : StoreHistory) (cache : Cache)
    → AreWellFormed (tables_now old) → IfOk result (IsRecorded statement keep old new) → OnErr result (new ≡ old)
    → IsCacheOf (catalog_of (tables_now old)) cache → IsCacheOf (catalog_of (tables_now new)) cache
kept_cache result statement keep old new cache formed is same kept =
    subst (λ (catalog : Catalog). IsCacheOf catalog cache) (sym (kept_catalog result statement keep old new formed is same)) kept
