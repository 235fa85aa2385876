-- The result of an UPDATE and the store after it, from the rows that it matches.
use Rattle.std.proofs.Common.{◌≡◌, ◌==◌, ℕ, ◌+◌, ◌<◌, ◌≤◌, List, [], ◌∷◌, map, length, refl, ap, sym, ◌∙◌, subst, arith, Option, Some, None, Bool, true, false}
use Rattle.std.specs.Prelude.{filter, zip, Err, if◌then◌else◌, ◌&&◌, IfSome}
use Rattle.std.specs.List.{flat_map, list_any, list_all, AllByRecursion}
use Rattle.std.specs.Option.{option_map, option_or, option_and_then}
use Rattle.lineage.specs.Needing.{needs_in_order, union_of_needs}
use Rattle.std.proofs.lemmas.Bool.Decides.{Decides-eqb}
use Rattle.ldv_value.proofs.Booleans.{and-parts, and-from}
use Rattle.ldv_value.proofs.Lists.{map-map, list_all-map, list_all-filter, list_all-weaker, list_any-map, list_any-false, all-weaker}
use Rattle.ldv_value.proofs.Options.{option_or-none}
use Rattle.ldv_value.proofs.SameBytes.{bytes_eq-itself}
use Rattle.sql_laws.proofs.NewRows.{all_first, updated_kinds, updated_length}
use Rattle.sql_model.proofs.Databases.{sorted_of_database}
use Rattle.sql_model.proofs.ValidTables.{table-parts, kinds-fits}
use Rattle.sql_model.specs.Changes.{is_matched, matched_in, matched, table_after, after_update, updated_row, updated_values, with_rows, has_null, new_rows, lacks_value, key_clash}
use Rattle.sql_model.specs.Needs.{updated_unless, updated_in, updated_origin, versions_after, is_row_of}
use Rattle.sql_model.specs.References.{MissingParent, Orphan, first_missing_parent, first_orphan, first_in, is_changed, is_lost, children, orphans_of, parents_needed, parents_of, tables_after}
use Rattle.sql_model.specs.Refusals.{check_refusal, set_fits}
use Rattle.sql_model.specs.Scope.{InScope, same_text, table_at, catalog_of, own_scope}
use Rattle.sql_model.specs.Statements.{refusal_of, after_unless}
use Rattle.sql_model.specs.Tables.{is_valid_table, has_kind, fits, each_value, is_row}
use Rattle.table_store.specs.Histories.{tables_now, table_now, history_at, rows_now, last_next_number, changed_at, table_with_values, rows_with_values, AreKeptBefore, history_of_row}
use Rattle.table_store.specs.Referring.{parent_stop, child_stop, missing_stop, orphan_stop, is_of, replace_refusal, with_put, parents_in_db, parents_now, IsAtVersion}
use Rattle.table_store.specs.RowOrder.{AreInOrder}
use Rattle.table_store.specs.Stops.{is_among, with_replaced, with_changed, are_sorted_rows, had_rows, have_shape, has_shape, values_of, replace_stop, stop_if, key_stop, StopsAs}
use Rattle.table_store.specs.declared.error.StoreStop.{StoreStop}
use Rattle.table_store.specs.declared.error.StoreStop.TheVariants as stop
use Rattle.table_store.proofs.PutRowLaws.{put_replaced}
use Rattle.dml_versions.proofs.AfterLaws.{all_needed, after-by}
use Rattle.dml_versions.proofs.CheckLaws.{found-valid, found-distinct, sets-fit}
use Rattle.dml_versions.proofs.KeptLaws.{SameAll}
use Rattle.dml_versions.proofs.MatchLaws.{rows-sorted, same-changed, matched-stand}
use Rattle.dml_versions.proofs.MatchedChange.{matched-change}
use Rattle.dml_versions.proofs.NumberLaws.{AreSorted, replaced-some, made-sorted, some-sorted, made-in, among-some}
use Rattle.dml_versions.proofs.ReferLaws.{children-same, others-agree, with-parents}
use Rattle.dml_versions.proofs.RefuseLaws.{stop_by, due_by, not-refused, child-there, same-all-by, same-all-own, all-needs, refused-change, refused-after}
use Rattle.dml_versions.proofs.StandingLaws.{IsStanding}
use Rattle.dml_versions.proofs.TableLaws.{table-now, scope-is, history-name, schema-now}
use Rattle.dml_versions.proofs.VersionLaws.{updates-rows_with_values, versions-changed}
use Rattle.dml_versions.specs.Changing.{IsWhole, IsStoreAfter, IsChildThere, matched_change, refused_change}
use Rattle.sql_model.specs.Tables.{AreWellFormed}
use Rattle.dml_versions.specs.inner.Finding.{scope_in, test_in, found_row, row_of}
use Rattle.dml_versions.specs.inner.Needing.{need_found, parent_needs, with_parent_rows}
use Rattle.dml_versions.specs.Types.{Member, Need, Statement, TheUpdate, Update, Column, Table, TableRow, StoreHistory, TableHistory}
use Rattle.dml_versions.specs.Versions.{versions_now, updates_of}
use Rattle.dml_versions.specs.declared.change.Change.{Change}
use Rattle.dml_versions.specs.declared.found.Found.{Found}

map_itself : {X : Type 0} (xs : List X) → map (λ x. x) xs ≡ xs
map_itself [] = refl
map_itself (x ∷ xs) = ap (λ l. x ∷ l) (map_itself xs)

module _ (store : StoreHistory) (update : Update) (table : TableHistory) (there : history_at update.table store ≡ Some table)
    (order : AreInOrder table.slots (last_next_number table.nexts)) (formed : AreWellFormed (tables_now store))
    (check : check_refusal (TheUpdate update) (catalog_of (tables_now store)) ≡ None) where
  abbrev s : Statement
  s = TheUpdate update

  abbrev db : List Table
  db = tables_now store

  abbrev t : Table
  t = table_now table

  abbrev columns : List Column
  columns = table.schema.columns

  abbrev test : TableRow → Bool
  test = test_in table update.pick

  -- the rows that it changes, and what it makes of them
  abbrev old : List TableRow
  old = filter test (rows_now table.slots)

  abbrev make : TableRow → TableRow
  make = updated_row (scope_in table) update columns

  abbrev new : List TableRow
  new = map make old

  target_is : table_at update.table db ≡ Some t
  target_is = table-now update.table store table there

  valid : is_valid_table t ≡ true
  valid = found-valid db formed update.table t target_is

  abbrev scope : List InScope
  scope = own_scope update.table (catalog_of db)

  own_is : scope ≡ scope_in table
  own_is = scope-is update.table store table there

  old_is : matched s (catalog_of db) t ≡ old
  old_is = ap (λ (l : List InScope). matched_in l update.pick t.rows) own_is

  new_is : new_rows s (catalog_of db) t ≡ new
  new_is = (λ j. map (updated_row (own_is j) update columns) (old_is j))

  sorted_all : AreSorted t.rows
  sorted_all = rows-sorted t valid

  old_sorted : AreSorted old
  old_sorted = some-sorted test t.rows sorted_all

  abbrev AllStand : List TableRow → Type 0
  AllStand rows = AllByRecursion (λ row. IsStanding table.slots row.number) rows

  old_stand : AllStand old
  old_stand = matched-stand store update.table table there order test

  -- ---- the kinds of the new values

  fit : list_all (set_fits columns (scope_in table)) update.sets ≡ true
  fit = ap (λ (l : List InScope). list_all (set_fits columns l) update.sets) (sym own_is)
      ∙ sets-fit update (catalog_of db) check table.schema (schema-now update.table store table there)

  shape_of : (row : TableRow) → is_row columns row.values ≡ true → has_shape columns (make row).values ≡ true
  shape_of row is =
      let both = and-parts (length row.values == length columns) (each_value fits columns row.values) is in
      let long : length (updated_values (scope_in table) update.sets columns row.values) ≡ length columns =
      updated_length (scope_in table) update.sets columns row.values ((Decides-eqb (length row.values) (length columns)).0 both.0) in
      and-from (length (updated_values (scope_in table) update.sets columns row.values) == length columns) (each_value has_kind columns (updated_values (scope_in table) update.sets columns row.values))
      ((Decides-eqb (length (updated_values (scope_in table) update.sets columns row.values)) (length columns)).1 long)
      (updated_kinds table.name columns update.sets row.values (kinds-fits (zip columns row.values) both.1) fit (all_first columns (found-distinct db formed update.table t target_is)))

  new_shape : have_shape (values_of new) t ≡ true
  new_shape =
      ap (list_all (has_shape columns)) (map-map (λ (row : TableRow). row.values) make old)
      ∙ list_all-map (has_shape columns) (λ row. (make row).values) old
      ∙ list_all-weaker (λ row. is_row columns row.values) (λ row. has_shape columns (make row).values) shape_of old
      (list_all-filter (λ row. is_row columns row.values) test t.rows (table-parts t valid).rows)

  -- ---- the table afterwards

  replaced_is : with_replaced new t ≡ table_after s (catalog_of db) t
  replaced_is =
      ap (λ (l : List TableRow). with_rows t l t.next) (replaced-some make (λ row. refl) test t.rows sorted_all)
      ∙ ap (λ (l : List InScope). after_update l update t) (sym own_is)

  -- what refuses it
  stop_is : replace_stop new t ≡ stop_by t (lacks_value s (catalog_of db) t) (key_clash (table_after s (catalog_of db) t)) false
  stop_is =
      (λ j. option_or (stop_if (list_any (has_null columns) (sym new_is j)) stop.NotNull) (key_stop t (key_clash (replaced_is j))))
      ∙ ap (option_or (stop_if (lacks_value s (catalog_of db) t) stop.NotNull)) (sym (option_or-none (key_stop t (key_clash (table_after s (catalog_of db) t)))))

  changed_tables : with_changed update.table (with_replaced new) db ≡ tables_after s (catalog_of db) db
  changed_tables =
      same-changed (with_replaced new) (table_after s (catalog_of db)) update.table t replaced_is db target_is
      (sorted_of_database db formed.database)

  named : t.name ≡ update.table
  named = history-name update.table store table there

  abbrev missing : Option MissingParent
  missing = first_missing_parent s (catalog_of db) t db

  abbrev orphan : Option Orphan
  orphan = first_orphan s (catalog_of db) t db

  abbrev own : Option StoreStop
  own = stop_by t (lacks_value s (catalog_of db) t) (key_clash (table_after s (catalog_of db) t)) false

  -- the rows that it leaves alone
  of_test : (row : TableRow) → is_of new row ≡ is_among (map (λ (one : TableRow). one.number) old) row
  of_test row =
      list_any-map (λ (r : TableRow). r.number == row.number) make old
      ∙ sym (list_any-map (λ (n : ℕ). n == row.number) (λ (r : TableRow). r.number) old)

  of_changed : AllByRecursion (λ row. is_of new row ≡ is_changed s (catalog_of db) row) t.rows
  of_changed =
      all-weaker (λ (row : TableRow). is_among (map (λ (one : TableRow). one.number) old) row ≡ test row) (λ row. is_of new row ≡ is_changed s (catalog_of db) row)
      (λ row is. of_test row ∙ is ∙ ap (λ (l : List InScope). is_matched l update.pick row) (sym own_is))
      t.rows (among-some test t.rows sorted_all)

  others_are : children (is_of new) t.name db ≡ children (is_changed s (catalog_of db)) t.name db
  others_are =
      children-same (is_of new) (is_changed s (catalog_of db)) t.name t
      (others-agree (is_of new) (is_changed s (catalog_of db)) t.rows of_changed)
      db (ap (λ (n : List ℕ). table_at n db) named ∙ target_is) (sorted_of_database db formed.database)

  missing_is : missing_stop t.schema.foreign new (with_changed t.name (with_replaced new) db) ≡ option_map parent_stop missing
  missing_is =
      ap (λ (n : List ℕ). missing_stop t.schema.foreign new (with_changed n (with_replaced new) db)) named
      ∙ (λ j. missing_stop t.schema.foreign (sym new_is j) (changed_tables j))

  orphan_is : orphan_stop (is_of new) t (with_replaced new t) db ≡ option_map child_stop orphan
  orphan_is =
      λ j. option_map child_stop (first_in (flat_map (orphans_of t.name (is_lost t.schema.key t.rows (replaced_is j).rows)) (others_are j)))

  due_new : replace_refusal new db t ≡ due_by t (lacks_value s (catalog_of db) t) (key_clash (table_after s (catalog_of db) t)) false missing orphan
  due_new = λ j. option_or (stop_is j) (option_or (missing_is j) (orphan_is j))

  -- ---- the parents of its new values

  stood_all : had_rows new t ≡ true
  stood_all = made-in make (λ row. refl) test t.rows

  put_is : with_put new t ≡ table_after s (catalog_of db) t
  put_is = put_replaced new t stood_all ∙ replaced_is

  origins_are : parents_needed s (catalog_of db) t db ≡ parents_in_db new db t
  origins_are =
      (λ j. parents_of db
      (same-changed (table_after s (catalog_of db)) (with_put new) update.table t (sym put_is) db target_is (sorted_of_database db formed.database) j)
      t.schema.foreign (new_is j))
      ∙ ap (λ (n : List ℕ). parents_of db (with_changed n (with_put new) db) t.schema.foreign new) (sym named)

  abbrev whole : List Need
  whole = all_needed s store

  abbrev whole_own : List Need
  whole_own = map (need_found update.table) (map (found_row table.slots) old)

  -- ---- what is given to the store

  module _ (found : List Found) (rows : List TableRow) (found_is : found ≡ map (found_row table.slots) old) (rows_are : rows ≡ map make (map row_of found)) where
    rows_is : rows ≡ new
    rows_is =
        rows_are
        ∙ ap (map make) (ap (map row_of) found_is ∙ map-map row_of (found_row table.slots) old ∙ map_itself old)

    pub update-shape : have_shape (values_of rows) t ≡ true
    update-shape = ap (λ (l : List TableRow). have_shape (values_of l) t) rows_is ∙ new_shape

    pub update-sorted : are_sorted_rows rows ≡ true
    update-sorted = ap are_sorted_rows rows_is ∙ made-sorted make (λ row. refl) old old_sorted

    pub update-stand : had_rows rows t ≡ true
    update-stand = ap (λ (l : List TableRow). had_rows l t) rows_is ∙ made-in make (λ row. refl) test t.rows

    pub update-due : option_and_then (replace_refusal rows db) (table_at update.table db)
        ≡ due_by t (lacks_value s (catalog_of db) t) (key_clash (table_after s (catalog_of db) t)) false missing orphan
    update-due =
        ap (option_and_then (replace_refusal rows db)) target_is
        ∙ ap (λ (l : List TableRow). replace_refusal l db t) rows_is
        ∙ due_new

    pub update-own : (needs : List Need) → needs ≡ map (need_found update.table) found → needs ≡ whole_own
    update-own needs is = is ∙ ap (map (need_found update.table)) found_is

    pub update-needs : (members : List Member) (needs all : List Need)
        → IfSome (table_at update.table db) (λ u. members ≡ parents_now store rows u)
        → AllByRecursion (IsAtVersion store) members → needs ≡ map (need_found update.table) found → all ≡ with_parent_rows members needs
        → all ≡ whole
    update-needs members needs all are versions needs_is is =
        let here : members ≡ parents_now store rows t = subst (λ (o : Option Table). IfSome o (λ u. members ≡ parents_now store rows u)) target_is are in
        let same : members ≡ parents_now store new t = here ∙ ap (λ (l : List TableRow). parents_now store l t) rows_is in
        with-parents store new needs all members t same versions is
        ∙ ap (λ (l : List Need). union_of_needs l (needs_in_order (parent_needs store new t))) (update-own needs needs_is)
        ∙ all-needs store s update.table table there order target_is check old old_is old_sorted old_stand (parents_in_db new db t) origins_are

    -- where its own table refuses it, parents don't matter
    pub update-rules : (X : Type 0) (at : StoreStop) → StopsAs {X = X} (option_and_then (replace_stop rows) (table_at update.table db)) (Err at)
        → (all : List Need) → SameAll at all whole
    update-rules X at stops all =
        same-all-own t (lacks_value s (catalog_of db) t) (key_clash (table_after s (catalog_of db) t)) false all whole X at
        (subst (λ (o : Option StoreStop). StopsAs {X = X} o (Err at))
        (ap (option_and_then (replace_stop rows)) target_is ∙ ap (λ (l : List TableRow). replace_stop l t) rows_is ∙ stop_is) stops)

    -- ---- nothing refuses it

    module _ (fine : option_and_then (replace_refusal rows db) (table_at update.table db) ≡ None) where
      none_due : due_by t (lacks_value s (catalog_of db) t) (key_clash (table_after s (catalog_of db) t)) false missing orphan ≡ None
      none_due = sym update-due ∙ fine

      refused_not : refusal_of (Some s) db ≡ None
      refused_not = not-refused store s update.table table there order target_is check none_due

      pub update-change : IsWhole s store (matched_change update.table found whole)
      update-change = matched-change store s update.table table there order refl refl refl old old_is old_sorted old_stand refused_not found found_is whole refl

      tables_are : with_changed update.table (with_replaced rows) db ≡ after_unless None (Some s) db
      tables_are =
          ap (λ (l : List TableRow). with_changed update.table (with_replaced l) db) rows_is
          ∙ same-changed (with_replaced new) (table_after s (catalog_of db)) update.table t replaced_is db target_is
          (sorted_of_database db formed.database)

      updated_are : updated_unless None (Some s) db ≡ map (updated_origin t) old
      updated_are = ap (updated_in s (catalog_of db)) target_is ∙ ap (map (updated_origin t)) old_is

      other_rows : (other : List ℕ) (number : ℕ) → same_text update.table other ≡ false → list_any (is_row_of other number) (map (updated_origin t) old) ≡ false
      other_rows other number apart =
          list_any-map (is_row_of other number) (updated_origin t) old
          ∙ ap (λ (b : Bool). list_any (λ (row : TableRow). b && row.number == number) old) (ap (λ (n : List ℕ). same_text n other) named ∙ apart)
          ∙ list_any-false old

      own_rows : (number : ℕ) → list_any (is_row_of update.table number) (map (updated_origin t) old) ≡ list_any (λ row. row.number == number) new
      own_rows number =
          list_any-map (is_row_of update.table number) (updated_origin t) old
          ∙ ap (λ (b : Bool). list_any (λ (row : TableRow). b && row.number == number) old) (ap (λ (n : List ℕ). same_text n update.table) named ∙ bytes_eq-itself update.table)
          ∙ sym (list_any-map (λ (row : TableRow). row.number == number) make old)

      new_stand : (rows : List TableRow) → AllStand rows → AllStand (map make rows)
      new_stand [] all = tt
      new_stand (row ∷ rows) all = (all.0, new_stand rows all.1)

      module _ (time : ℕ) where
        versions_are : (number : ℕ) → updates_of (history_of_row number (rows_with_values time rows table.slots))
            ≡ (if list_any (is_row_of update.table number) (map (updated_origin t) old) then updates_of (history_of_row number table.slots) + 1 else updates_of (history_of_row number table.slots))
        versions_are number =
            ap (λ (l : List TableRow). updates_of (history_of_row number (rows_with_values time l table.slots))) rows_is
            ∙ updates-rows_with_values table.slots time new (new_stand old old_stand) number
            ∙ ap (λ (b : Bool). if b then updates_of (history_of_row number table.slots) + 1 else updates_of (history_of_row number table.slots)) (sym (own_rows number))

        pub update-after : (made : StoreHistory) → tables_now made ≡ with_changed update.table (with_replaced rows) db
            → made ≡ changed_at time update.table (table_with_values time rows) store → AreKeptBefore time store made
            → IsStoreAfter s time store made
        update-after made tables is_made earlier =
            after-by s store None refused_not time made
            (tables ∙ tables_are)
            (ap versions_now is_made
            ∙ versions-changed update.table store table there time (table_with_values time rows) (λ u. refl) (map (updated_origin t) old) other_rows versions_are
            ∙ ap (λ l. versions_after l (versions_now store)) (sym updated_are))
            (subst (λ (n : StoreHistory). n.time ≤ time) (sym is_made) (omega arith))
            earlier

    -- ---- the store refuses it

    module _ (X : Type 0) (at : StoreStop) (stops : StopsAs {X = X} (option_and_then (replace_refusal rows db) (table_at update.table db)) (Err at)) where
      stops_by : StopsAs {X = X} (due_by t (lacks_value s (catalog_of db) t) (key_clash (table_after s (catalog_of db) t)) false missing orphan) (Err at)
      stops_by = subst (λ (o : Option StoreStop). StopsAs {X = X} o (Err at)) update-due stops

      pub update-child : IsChildThere db at
      update-child = child-there store s update.table table there order target_is check (sorted_of_database db formed.database) X at stops_by

      pub update-refused : (change : Change) → refused_change (versions_now store) update.table table.slots whole_own whole at ≡ Some change → IsWhole s store change
      update-refused change made =
          refused-change store s update.table table there order target_is check old old_is old_sorted old_stand whole (λ none. refl) X at change stops_by made

      pub update-same : (all : List Need) → (own ≡ None → all ≡ whole) → SameAll at all whole
      update-same all same = same-all-by store s update.table table there order target_is check all whole same X at stops_by

      pub update-kept : (needs all : List Need) (change : Change) → refused_change (versions_now store) update.table table.slots needs all at ≡ Some change
          → (time : ℕ) (after : StoreHistory) → store.time < time → after ≡ store → IsStoreAfter s time store after
      update-kept needs all change made time after later same =
          refused-after store s update.table table there order target_is check X at (versions_now store) needs all change stops_by made time after later same
