-- The result of an INSERT and the store after it.
use Rattle.std.proofs.Common.{◌≡◌, ◌==◌, ℕ, ◌+◌, ◌<◌, ◌≤◌, List, [], ◌∷◌, ◌++◌, map, length, refl, ap, sym, ◌∙◌, subst, arith, Option, Some, None, true, false}
use Rattle.std.specs.Prelude.{unwrap_or, nat_lt, Err, IfSome}
use Rattle.std.specs.List.{list_all, AllByRecursion}
use Rattle.std.specs.Option.{option_and_then, option_map, option_or}
use Rattle.std.proofs.lemmas.Bool.Decides.{Decides-eqb}
use Rattle.ldv_value.proofs.Booleans.{and-parts, and-from}
use Rattle.ldv_value.proofs.Lists.{length-map}
use Rattle.ldv_value.proofs.Options.{option_or-none}
use Rattle.ldv_value.specs.Limits.{max_next}
use Rattle.ldv_value.specs.Sorted.{is_strictly_sorted}
use Rattle.sql_laws.proofs.NewRows.{AllFirst, all_first, new_kinds}
use Rattle.sql_model.proofs.Databases.{sorted_of_database}
use Rattle.sql_model.specs.Changes.{new_values, numbered_rows, rows_of_insert, with_rows, lacks_value, key_clash, table_after, is_full}
use Rattle.sql_model.proofs.ValidTables.{table-parts}
use Rattle.sql_model.specs.Needs.{NeededRow, new_member, members_made, made_unless, updated_unless, updated_in, versions_after, matched_rows, parent_rows, sorted_needs, read_of}
use Rattle.sql_model.specs.References.{MissingParent, Orphan, first_missing_parent, first_orphan, is_changed, parents_needed, parents_of, tables_after}
use Rattle.sql_model.specs.Refusals.{check_refusal, row_fits, target_columns}
use Rattle.sql_model.specs.Scope.{table_at, catalog_of, has_column}
use Rattle.sql_model.specs.Statements.{target, refusal_of, after_unless}
use Rattle.sql_model.specs.Tables.{is_valid_table, has_kind, each_value}
use Rattle.table_store.specs.Histories.{tables_now, table_now, history_at, last_next_number, changed_at, table_with_rows as history_inserted, AreKeptBefore}
use Rattle.table_store.specs.Referring.{parent_stop, child_stop, missing_stop, insert_refusal, with_put, parents_in_db, parents_now, IsAtVersion}
use Rattle.table_store.specs.RowOrder.{AreInOrder}
use Rattle.table_store.specs.Stops.{with_inserted, with_changed, have_shape, has_shape, insert_stop, key_stop, stop_if, StopsAs}
use Rattle.table_store.specs.declared.error.StoreStop.{StoreStop}
use Rattle.table_store.specs.declared.error.StoreStop.TheVariants as stop
use Rattle.table_store.proofs.PutRowLaws.{put_inserted}
use Rattle.dml_versions.proofs.AfterLaws.{all_needed, change-by, after-by}
use Rattle.dml_versions.proofs.CheckLaws.{found-distinct, found-valid, names-there, rows-fit}
use Rattle.dml_versions.proofs.KeptLaws.{SameAll}
use Rattle.dml_versions.proofs.MatchLaws.{same-changed}
use Rattle.dml_versions.proofs.ReferLaws.{refs_stop, added-childless, parents-same, with-parents}
use Rattle.dml_versions.proofs.RefuseLaws.{stop_by, due_by, not-refused, not-full, child-there, same-all-by, same-all-own, all-needs, refused-change, refused-after}
use Rattle.dml_versions.proofs.TableLaws.{table-now, history-name, schema-now}
use Rattle.dml_versions.proofs.VersionLaws.{updates-history_of_new_row, versions-changed}
use Rattle.dml_versions.specs.Changing.{IsWhole, IsStoreAfter, IsChildThere, inserted_change, refused_change}
use Rattle.sql_model.specs.Tables.{AreWellFormed}
use Rattle.sql_model.proofs.UniqueKeys.{or_none}
use Rattle.sql_model.proofs.NewNumbers.{row_precedes}
use Rattle.dml_versions.specs.inner.Needing.{inserted_member, with_parent_rows}
use Rattle.dml_versions.specs.Types.{Member, Need, Statement, TheInsert, Insert, Changed, Column, Expr, Value, Table, TableRow, StoreHistory, TableHistory}
use Rattle.dml_versions.specs.Versions.{versions_now}
use Rattle.dml_versions.specs.declared.change.Change.{Change}

module _ (store : StoreHistory) (insert : Insert) (table : TableHistory) (there : history_at insert.table store ≡ Some table)
    (order : AreInOrder table.slots (last_next_number table.nexts)) (formed : AreWellFormed (tables_now store))
    (check : check_refusal (TheInsert insert) (catalog_of (tables_now store)) ≡ None) where
  abbrev s : Statement
  s = TheInsert insert

  abbrev db : List Table
  db = tables_now store

  abbrev t : Table
  t = table_now table

  abbrev columns : List Column
  columns = table.schema.columns

  abbrev new : List (List Value)
  new = map (new_values insert.columns columns) insert.rows

  target_is : table_at insert.table db ≡ Some t
  target_is = table-now insert.table store table there

  named : t.name ≡ insert.table
  named = history-name insert.table store table there

  -- ---- what is given to the store

  first : AllFirst columns columns
  first = all_first columns (found-distinct db formed insert.table t target_is)

  given_there : list_all (has_column columns) (unwrap_or insert.columns []) ≡ true
  given_there = names-there insert (catalog_of db) check table.schema (schema-now insert.table store table there)

  shape_of : (rows : List (List Expr)) → list_all (row_fits (target_columns insert.columns columns)) rows ≡ true
      → list_all (has_shape columns) (map (new_values insert.columns columns) rows) ≡ true
  shape_of [] fit = refl
  shape_of (exprs ∷ rows) fit =
      let both = and-parts (row_fits (target_columns insert.columns columns) exprs) (list_all (row_fits (target_columns insert.columns columns)) rows) fit in
      let kinds = new_kinds columns insert.columns exprs first given_there both.0 in
      let values : List Value = new_values insert.columns columns exprs in
      and-from (has_shape columns values) (list_all (has_shape columns) (map (new_values insert.columns columns) rows))
      (and-from (length values == length columns) (each_value has_kind columns values) ((Decides-eqb (length values) (length columns)).1 kinds.0) kinds.1)
      (shape_of rows both.1)

  module _ (rows : List (List Value)) (rows_is : rows ≡ new) where
    pub insert-shape : have_shape rows t ≡ true
    insert-shape = ap (λ (l : List (List Value)). have_shape l t) rows_is ∙ shape_of insert.rows (rows-fit insert (catalog_of db) check table.schema (schema-now insert.table store table there))

    count_is : length new ≡ length insert.rows
    count_is = length-map insert.rows (new_values insert.columns columns)

    inserted_is : with_inserted new t ≡ table_after s (catalog_of db) t
    inserted_is = ap (λ (n : ℕ). with_rows t (t.rows ++ rows_of_insert insert t) (t.next + n)) count_is

    changed_tables : with_changed t.name (with_inserted new) db ≡ tables_after s (catalog_of db) db
    changed_tables =
        ap (λ (n : List ℕ). with_changed n (with_inserted new) db) named
        ∙ same-changed (with_inserted new) (table_after s (catalog_of db)) insert.table t inserted_is db target_is
        (sorted_of_database db formed.database)

    -- what refuses it
    abbrev missing : Option MissingParent
    missing = first_missing_parent s (catalog_of db) t db

    abbrev orphan : Option Orphan
    orphan = first_orphan s (catalog_of db) t db

    own_is : insert_stop new t ≡ stop_by t (lacks_value s (catalog_of db) t) (key_clash (table_after s (catalog_of db) t)) (is_full s t)
    own_is = λ j. option_or (stop_if (lacks_value s (catalog_of db) t) stop.NotNull) (option_or (key_stop t (key_clash (inserted_is j))) (stop_if (nat_lt max_next (t.next + count_is j)) stop.Full))

    refs_are : missing_stop t.schema.foreign (numbered_rows t.next new) (with_changed t.name (with_inserted new) db) ≡ refs_stop missing orphan
    refs_are =
        ap (λ (after : List Table). missing_stop t.schema.foreign (numbered_rows t.next new) after) changed_tables
        ∙ sym (option_or-none (option_map parent_stop missing))
        ∙ ap (λ (o : Option Orphan). option_or (option_map parent_stop missing) (option_map child_stop o))
        (sym (added-childless (is_changed s (catalog_of db)) t (table_after s (catalog_of db) t) (rows_of_insert insert t) refl db))

    pub insert-due : option_and_then (insert_refusal rows db) (table_at insert.table db)
        ≡ due_by t (lacks_value s (catalog_of db) t) (key_clash (table_after s (catalog_of db) t)) (is_full s t) missing orphan
    insert-due =
        ap (option_and_then (insert_refusal rows db)) target_is
        ∙ ap (λ (l : List (List Value)). insert_refusal l db t) rows_is
        ∙ (λ j. option_or (own_is j) (refs_are j))

    -- ---- the parents of its rows

    valid : is_valid_table t ≡ true
    valid = found-valid db formed insert.table t target_is

    below : list_all (λ (row : TableRow). nat_lt row.number t.next) t.rows ≡ true
    below = (and-parts (is_strictly_sorted row_precedes t.rows) (list_all (λ (row : TableRow). nat_lt row.number t.next) t.rows) (table-parts t valid).numbers).1

    origins_are : parents_needed s (catalog_of db) t db ≡ parents_in_db (numbered_rows t.next new) db t
    origins_are =
        parents-same insert.table (table_after s (catalog_of db)) (with_put (numbered_rows t.next new)) (λ u. refl) (λ u. refl)
        db t target_is refl (sym (ap (λ (u : Table). u.rows) (put_inserted t below new))) t.schema.foreign (numbered_rows t.next new)
        ∙ ap (λ (n : List ℕ). parents_of db (with_changed n (with_put (numbered_rows t.next new)) db) t.schema.foreign (numbered_rows t.next new)) (sym named)

    pub insert-fits : stop_by t (lacks_value s (catalog_of db) t) (key_clash (table_after s (catalog_of db) t)) (is_full s t) ≡ None
        → nat_lt max_next (t.next + length rows) ≡ false
    insert-fits fine =
        ap (λ (l : List (List Value)). nat_lt max_next (t.next + length l)) rows_is
        ∙ ap (λ (n : ℕ). nat_lt max_next (t.next + n)) count_is
        ∙ not-full t (lacks_value s (catalog_of db) t) (key_clash (table_after s (catalog_of db) t)) (is_full s t) fine

    abbrev whole : List Need
    whole = all_needed s store

    pub insert-needs : (members : List Member) (all : List Need)
        → IfSome (table_at insert.table db) (λ u. members ≡ parents_now store (numbered_rows u.next rows) u)
        → AllByRecursion (IsAtVersion store) members → all ≡ with_parent_rows members []
        → all ≡ whole
    insert-needs members all are versions is =
        let fresh : List TableRow = numbered_rows t.next new in
        let here : members ≡ parents_now store (numbered_rows t.next rows) t =
        subst (λ (o : Option Table). IfSome o (λ u. members ≡ parents_now store (numbered_rows u.next rows) u)) target_is are in
        let same : members ≡ parents_now store fresh t = here ∙ ap (λ (l : List (List Value)). parents_now store (numbered_rows t.next l) t) rows_is in
        with-parents store fresh [] all members t same versions is
        ∙ all-needs store s insert.table table there order target_is check [] refl refl tt (parents_in_db fresh db t) origins_are

    -- where its own table refuses it, parents don't matter
    pub insert-rules : (X : Type 0) (at : StoreStop) → StopsAs {X = X} (option_and_then (insert_stop rows) (table_at insert.table db)) (Err at)
        → (all : List Need) → SameAll at all whole
    insert-rules X at stops all =
        same-all-own t (lacks_value s (catalog_of db) t) (key_clash (table_after s (catalog_of db) t)) (is_full s t) all whole X at
        (subst (λ (o : Option StoreStop). StopsAs {X = X} o (Err at))
        (ap (option_and_then (insert_stop rows)) target_is ∙ ap (λ (l : List (List Value)). insert_stop l t) rows_is ∙ own_is) stops)

    -- ---- nothing refuses it

    module _ (fine : option_and_then (insert_refusal rows db) (table_at insert.table db) ≡ None) where
      none_due : due_by t (lacks_value s (catalog_of db) t) (key_clash (table_after s (catalog_of db) t)) (is_full s t) missing orphan ≡ None
      none_due = sym insert-due ∙ fine

      refused_not : refusal_of (Some s) db ≡ None
      refused_not = not-refused store s insert.table table there order target_is check none_due

      pub insert-fine : stop_by t (lacks_value s (catalog_of db) t) (key_clash (table_after s (catalog_of db) t)) (is_full s t) ≡ None
      insert-fine = (or_none (stop_by t (lacks_value s (catalog_of db) t) (key_clash (table_after s (catalog_of db) t)) (is_full s t)) (refs_stop missing orphan) none_due).0

      made_is : made_unless None (versions_now store) (Some s) db ≡ map (new_member t) (rows_of_insert insert t)
      made_is = ap (members_made (versions_now store) s (catalog_of db)) target_is

      whole_is : whole ≡ map (read_of (versions_now store)) (sorted_needs (parent_rows s (catalog_of db) (target s db) db))
      whole_is =
          ap (λ (l : List NeededRow). map (read_of (versions_now store)) (sorted_needs (l ++ parent_rows s (catalog_of db) (target s db) db)))
          (ap (matched_rows s (catalog_of db)) target_is)

      pub insert-change : (next : ℕ) → next ≡ t.next → IsWhole s store (inserted_change insert.table next rows whole)
      insert-change next next_is =
          change-by s store None refused_not (inserted_change insert.table next rows whole)
          (ap Changed (ap length rows_is ∙ count_is))
          ((λ j. map (inserted_member (sym named j)) (numbered_rows (next_is j) (rows_is j))) ∙ sym made_is)
          whole_is

      tables_are : with_changed insert.table (with_inserted rows) db ≡ after_unless None (Some s) db
      tables_are =
          ap (λ (l : List (List Value)). with_changed insert.table (with_inserted l) db) rows_is
          ∙ same-changed (with_inserted new) (table_after s (catalog_of db)) insert.table t inserted_is db target_is
          (sorted_of_database db formed.database)

      none_updated : updated_unless None (Some s) db ≡ []
      none_updated = ap (updated_in s (catalog_of db)) target_is

      module _ (time : ℕ) where
        pub insert-after : (made : StoreHistory) → tables_now made ≡ with_changed insert.table (with_inserted rows) db
            → made ≡ changed_at time insert.table (history_inserted time rows) store → AreKeptBefore time store made
            → IsStoreAfter s time store made
        insert-after made tables is_made earlier =
            after-by s store None refused_not time made
            (tables ∙ tables_are)
            (ap versions_now is_made
            ∙ versions-changed insert.table store table there time (history_inserted time rows) (λ u. refl) [] (λ other number apart. refl)
            (λ number. updates-history_of_new_row table.slots time (numbered_rows (last_next_number table.nexts) rows) number)
            ∙ ap (λ l. versions_after l (versions_now store)) (sym none_updated))
            (subst (λ (n : StoreHistory). n.time ≤ time) (sym is_made) (omega arith))
            earlier

    -- ---- the store refuses it

    module _ (X : Type 0) (at : StoreStop) (stops : StopsAs {X = X} (option_and_then (insert_refusal rows db) (table_at insert.table db)) (Err at)) where
      stops_by : StopsAs {X = X} (due_by t (lacks_value s (catalog_of db) t) (key_clash (table_after s (catalog_of db) t)) (is_full s t) missing orphan) (Err at)
      stops_by = subst (λ (o : Option StoreStop). StopsAs {X = X} o (Err at)) insert-due stops

      pub insert-child : IsChildThere db at
      insert-child = child-there store s insert.table table there order target_is check (sorted_of_database db formed.database) X at stops_by

      pub insert-refused : (change : Change) → refused_change (versions_now store) insert.table table.slots [] whole at ≡ Some change → IsWhole s store change
      insert-refused change made =
          refused-change store s insert.table table there order target_is check [] refl refl tt whole (λ none. refl) X at change stops_by made

      pub insert-same : (all : List Need)
          → (stop_by t (lacks_value s (catalog_of db) t) (key_clash (table_after s (catalog_of db) t)) (is_full s t) ≡ None → all ≡ whole)
          → SameAll at all whole
      insert-same all same = same-all-by store s insert.table table there order target_is check all whole same X at stops_by

      pub insert-kept : (needs all : List Need) (change : Change) → refused_change (versions_now store) insert.table table.slots needs all at ≡ Some change
          → (time : ℕ) (after : StoreHistory) → store.time < time → after ≡ store → IsStoreAfter s time store after
      insert-kept needs all change made time after later same =
          refused-after store s insert.table table there order target_is check X at (versions_now store) needs all change stops_by made time after later same
