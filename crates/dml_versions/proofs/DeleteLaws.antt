-- The result of a DELETE and the store after it, from the rows that it matches.
use Rattle.std.proofs.Common.{◌≡◌, ℕ, ◌<◌, ◌≤◌, List, [], ◌++◌, map, refl, ap, sym, ◌∙◌, subst, arith, Option, Some, None, Bool, true, false, not, append-nil}
use Rattle.std.specs.Prelude.{filter, Err}
use Rattle.std.specs.List.{flat_map, AllByRecursion}
use Rattle.std.specs.Option.{option_map, option_and_then, option_or}
use Rattle.ldv_value.proofs.Lists.{map-map, all-weaker}
use Rattle.ldv_value.proofs.Options.{none-some}
use Rattle.sql_model.proofs.Databases.{sorted_of_database}
use Rattle.sql_model.proofs.ValidTables.{table-parts}
use Rattle.sql_model.specs.Changes.{is_matched, matched_in, matched, after_delete, key_clash, KeyClash, with_rows}
use Rattle.sql_model.specs.Needs.{NeededRow, updated_unless, updated_in, versions_after, matched_rows, parent_rows, sorted_needs, read_of}
use Rattle.sql_model.specs.References.{Orphan, first_orphan, first_in, is_changed, is_lost, children, orphans_of}
use Rattle.sql_model.specs.Refusals.{check_refusal}
use Rattle.sql_model.specs.Scope.{InScope, table_at, catalog_of, own_scope}
use Rattle.sql_model.specs.Statements.{target, refusal_of, after_unless}
use Rattle.sql_model.specs.Tables.{is_valid_table}
use Rattle.table_store.specs.Histories.{tables_now, table_now, history_at, rows_now, last_next_number, changed_at, table_without, rows_without, row_delete, changed_by, AreKeptBefore, history_of_row}
use Rattle.table_store.specs.Referring.{child_stop, orphan_stop, delete_refusal}
use Rattle.table_store.specs.RowOrder.{AreInOrder}
use Rattle.table_store.specs.Stops.{is_among, with_removed, with_changed, are_sorted_numbers, all_stand, StopsAs}
use Rattle.table_store.specs.declared.error.StoreStop.{StoreStop}
use Rattle.dml_versions.proofs.AfterLaws.{all_needed, after-by}
use Rattle.dml_versions.proofs.CheckLaws.{found-valid}
use Rattle.dml_versions.proofs.KeptLaws.{SameOwn, SameAll}
use Rattle.dml_versions.proofs.MatchLaws.{rows-sorted, same-changed, matched-stand}
use Rattle.dml_versions.proofs.MatchedChange.{matched-change}
use Rattle.dml_versions.proofs.NumberLaws.{AreSorted, removed-some, numbers-sorted, some-sorted, numbers-in, among-some}
use Rattle.dml_versions.proofs.ReferLaws.{refs_stop, children-same, others-agree}
use Rattle.dml_versions.proofs.RefuseLaws.{stop_by, due_by, not-refused, own-needs, child-there, same-own-by, same-all-by, refused-change, refused-after}
use Rattle.dml_versions.proofs.TableLaws.{table-now, scope-is, history-name}
use Rattle.dml_versions.proofs.VersionLaws.{updates-dropped, versions-changed}
use Rattle.dml_versions.specs.Changing.{IsWhole, IsStoreAfter, IsChildThere, matched_change, refused_change}
use Rattle.sql_model.specs.Tables.{AreWellFormed}
use Rattle.sql_laws.proofs.KeyClashes.{no_clash_fewer}
use Rattle.dml_versions.specs.inner.Finding.{scope_in, test_in, found_row}
use Rattle.dml_versions.specs.inner.Needing.{need_found, number_found}
use Rattle.dml_versions.specs.Types.{Need, Statement, TheDelete, Delete, Table, TableRow, StoreHistory, TableHistory}
use Rattle.dml_versions.specs.Versions.{versions_now, updates_of}
use Rattle.dml_versions.specs.declared.change.Change.{Change}
use Rattle.dml_versions.specs.declared.found.Found.{Found}

module _ (store : StoreHistory) (delete : Delete) (table : TableHistory) (there : history_at delete.table store ≡ Some table)
    (order : AreInOrder table.slots (last_next_number table.nexts)) (formed : AreWellFormed (tables_now store)) where
  abbrev s : Statement
  s = TheDelete delete

  abbrev db : List Table
  db = tables_now store

  abbrev t : Table
  t = table_now table

  abbrev test : TableRow → Bool
  test = test_in table delete.pick

  -- the rows that it drops
  abbrev gone : List TableRow
  gone = filter test (rows_now table.slots)

  target_is : table_at delete.table db ≡ Some t
  target_is = table-now delete.table store table there

  valid : is_valid_table t ≡ true
  valid = found-valid db formed delete.table t target_is

  abbrev scope : List InScope
  scope = own_scope delete.table (catalog_of db)

  own_is : scope ≡ scope_in table
  own_is = scope-is delete.table store table there

  gone_is : matched s (catalog_of db) t ≡ gone
  gone_is = ap (λ (l : List InScope). matched_in l delete.pick t.rows) own_is

  gone_sorted : AreSorted gone
  gone_sorted = some-sorted test t.rows (rows-sorted t valid)

  -- ---- the numbers that are given to the store

  module _ (found : List Found) (is : found ≡ map (found_row table.slots) gone) where
    numbers_is : map number_found found ≡ map (λ row. row.number) gone
    numbers_is = ap (map number_found) is ∙ map-map number_found (found_row table.slots) gone

    pub delete-sorted : are_sorted_numbers (map number_found found) ≡ true
    delete-sorted = ap are_sorted_numbers numbers_is ∙ numbers-sorted gone gone_sorted

    pub delete-stand : all_stand (map number_found found) t ≡ true
    delete-stand = ap (λ (l : List ℕ). all_stand l t) numbers_is ∙ numbers-in test t.rows

    -- ---- what refuses it

    removed_is : with_removed (map number_found found) t ≡ after_delete scope delete t
    removed_is =
        ap (λ (l : List ℕ). with_removed l t) numbers_is
        ∙ ap (λ (l : List TableRow). with_rows t l t.next) (removed-some test t.rows (rows-sorted t valid))
        ∙ ap (λ (l : List InScope). after_delete l delete t) (sym own_is)

    abbrev orphan : Option Orphan
    orphan = first_orphan s (catalog_of db) t db

    abbrev clash : Option KeyClash
    clash = key_clash (after_delete scope delete t)

    no_key : clash ≡ None
    no_key = no_clash_fewer t.schema.key (λ row. not (is_matched scope delete.pick row)) t.rows (table-parts t valid).keys

    abbrev own : Option StoreStop
    own = stop_by t false clash false

    own_none : own ≡ None
    own_none = ap (λ (o : Option KeyClash). stop_by t false o false) no_key

    abbrev numbers : List ℕ
    numbers = map (λ (row : TableRow). row.number) gone

    among_changed : AllByRecursion (λ row. is_among numbers row ≡ is_changed s (catalog_of db) row) t.rows
    among_changed =
        all-weaker (λ (row : TableRow). is_among numbers row ≡ test row) (λ row. is_among numbers row ≡ is_changed s (catalog_of db) row)
        (λ row is. is ∙ ap (λ (l : List InScope). is_matched l delete.pick row) (sym own_is))
        t.rows (among-some test t.rows (rows-sorted t valid))

    named : t.name ≡ delete.table
    named = history-name delete.table store table there

    others_are : children (is_among (map number_found found)) t.name db ≡ children (is_changed s (catalog_of db)) t.name db
    others_are =
        ap (λ (l : List ℕ). children (is_among l) t.name db) numbers_is
        ∙ children-same (is_among numbers) (is_changed s (catalog_of db)) t.name t
        (others-agree (is_among numbers) (is_changed s (catalog_of db)) t.rows among_changed)
        db (ap (λ (n : List ℕ). table_at n db) named ∙ target_is) (sorted_of_database db formed.database)

    orphan_is : orphan_stop (is_among (map number_found found)) t (with_removed (map number_found found) t) db ≡ option_map child_stop orphan
    orphan_is =
        λ j. option_map child_stop (first_in (flat_map (orphans_of t.name (is_lost t.schema.key t.rows (removed_is j).rows)) (others_are j)))

    pub delete-due : option_and_then (delete_refusal (map number_found found) db) (table_at delete.table db)
        ≡ due_by t false clash false None orphan
    delete-due =
        ap (option_and_then (delete_refusal (map number_found found) db)) target_is
        ∙ orphan_is
        ∙ sym (ap (λ (o : Option StoreStop). option_or o (refs_stop None orphan)) own_none)

    abbrev whole : List Need
    whole = all_needed s store

    module _ (check : check_refusal s (catalog_of db) ≡ None) where
      no_parents : parent_rows s (catalog_of db) (target s db) db ≡ []
      no_parents = ap (λ (o : Option Table). parent_rows s (catalog_of db) o db) target_is

      pub delete-needs : (needs : List Need) → needs ≡ map (need_found delete.table) found → needs ≡ whole
      delete-needs needs needs_is =
          needs_is
          ∙ ap (map (need_found delete.table)) is
          ∙ own-needs store s delete.table table there order target_is check gone gone_is gone_sorted (matched-stand store delete.table table there order test)
          ∙ ap (λ (l : List NeededRow). map (read_of (versions_now store)) (sorted_needs l))
          (sym (append-nil (matched_rows s (catalog_of db) (target s db)))
          ∙ ap (λ (l : List NeededRow). matched_rows s (catalog_of db) (target s db) ++ l) (sym no_parents))

      -- ---- the store refuses it

      module _ (X : Type 0) (at : StoreStop)
          (stops : StopsAs {X = X} (option_and_then (delete_refusal (map number_found found) db) (table_at delete.table db)) (Err at)) where
        stops_by : StopsAs {X = X} (due_by t false clash false None orphan) (Err at)
        stops_by = subst (λ (o : Option StoreStop). StopsAs {X = X} o (Err at)) delete-due stops

        pub delete-child : IsChildThere db at
        delete-child = child-there store s delete.table table there order target_is check (sorted_of_database db formed.database) X at stops_by

        pub delete-refused : (change : Change)
            → refused_change (versions_now store) delete.table table.slots (map (need_found delete.table) (map (found_row table.slots) gone)) whole at ≡ Some change
            → IsWhole s store change
        delete-refused change made =
            refused-change store s delete.table table there order target_is check gone gone_is gone_sorted (matched-stand store delete.table table there order test)
            whole (λ none. refl) X at change stops_by made

        -- no row of its own table refuses it
        pub delete-own : (needs others : List Need) → SameOwn at needs others
        delete-own needs others =
            same-own-by store s delete.table table there order target_is check needs others
            (λ x wrong. absurd (none-some x (sym own_none ∙ wrong))) X at stops_by

        pub delete-same : (all : List Need) → all ≡ whole → SameAll at all whole
        delete-same all same = same-all-by store s delete.table table there order target_is check all whole (λ none. same) X at stops_by

        pub delete-kept : (needs all : List Need) (change : Change) → refused_change (versions_now store) delete.table table.slots needs all at ≡ Some change
            → (time : ℕ) (after : StoreHistory) → store.time < time → after ≡ store → IsStoreAfter s time store after
        delete-kept needs all change made time after later same =
            refused-after store s delete.table table there order target_is check X at (versions_now store) needs all change stops_by made time after later same

    -- ---- nothing refuses it

    module _ (check : check_refusal s (catalog_of db) ≡ None)
        (fine : option_and_then (delete_refusal (map number_found found) db) (table_at delete.table db) ≡ None) where
      refused_not : refusal_of (Some s) db ≡ None
      refused_not = not-refused store s delete.table table there order target_is check (sym delete-due ∙ fine)

      -- ---- what it returns

      pub delete-change : IsWhole s store (matched_change delete.table found whole)
      delete-change =
          matched-change store s delete.table table there order refl refl refl
          gone gone_is gone_sorted (matched-stand store delete.table table there order test) refused_not found is whole
          (ap (λ (l : List NeededRow). map (read_of (versions_now store)) (sorted_needs l))
          (ap (λ (l : List NeededRow). matched_rows s (catalog_of db) (target s db) ++ l) (ap (λ (o : Option Table). parent_rows s (catalog_of db) o db) target_is)
          ∙ append-nil (matched_rows s (catalog_of db) (target s db))))

      -- ---- what it leaves

      tables_are : with_changed delete.table (with_removed (map number_found found)) db ≡ after_unless None (Some s) db
      tables_are = same-changed (with_removed (map number_found found)) (after_delete scope delete) delete.table t removed_is db target_is
          (sorted_of_database db formed.database)

      module _ (time : ℕ) where
        dropped_is : rows_without time (map number_found found) table.slots ≡ map (changed_by (map (λ row. row_delete time row.number) gone)) table.slots
        dropped_is =
            ap (λ (l : List ℕ). rows_without time l table.slots) numbers_is
            ∙ ap (λ l. map (changed_by l) table.slots) (map-map (row_delete time) (λ (row : TableRow). row.number) gone)

        none_updated : updated_unless None (Some s) db ≡ []
        none_updated = ap (updated_in s (catalog_of db)) target_is

        pub delete-after : (new : StoreHistory) → tables_now new ≡ with_changed delete.table (with_removed (map number_found found)) db
            → new ≡ changed_at time delete.table (table_without time (map number_found found)) store → AreKeptBefore time store new
            → IsStoreAfter s time store new
        delete-after new tables made earlier =
            after-by s store None refused_not time new
            (tables ∙ tables_are)
            (ap versions_now made
            ∙ versions-changed delete.table store table there time (table_without time (map number_found found)) (λ u. refl) [] (λ other number apart. refl)
            (λ number. ap (λ l. updates_of (history_of_row number l)) dropped_is
            ∙ updates-dropped table.slots time gone (matched-stand store delete.table table there order test) number)
            ∙ ap (λ l. versions_after l (versions_now store)) (sym none_updated))
            (subst (λ (n : StoreHistory). n.time ≤ time) (sym made) (omega arith))
            earlier
