-- The table of a checked statement and the places of its columns, in the store that it was checked against.
use Rattle.std.proofs.Common.{◌≡◌, ℕ, ◌+◌, ◌<◌, ◌≤◌, ◌^◌, List, [], ◌∷◌, map, ap, sym, ◌∙◌, arith, Some, None, is_some, cond, Bool, true, false, suc, ◌==◌}
use Rattle.std.specs.Prelude.{unwrap_or, slice_get, find, IsSome}
use Rattle.std.specs.List.{AllByRecursion}
use Rattle.row_version.specs.History.{current_values, version}
use Rattle.sql_model.specs.Places.{places_of}
use Rattle.sql_model.specs.Refusals.{check_refusal, update_names}
use Rattle.sql_model.specs.Scope.{InScope, catalog_of, places_in, table_at}
use Rattle.table_store.specs.Histories.{RowHistory, tables_now, history_at, version_now, is_of_number}
use Rattle.table_store.specs.TableView.{IsTimed, AreTimed}
use Rattle.table_store.proofs.ChangeLaws.{version_by as changes_by}
use Rattle.dml_versions.proofs.CheckLaws.{accepted, checked-places, target-there, target_name, Changes}
use Rattle.dml_versions.proofs.TableLaws.{scope-is}
use Rattle.dml_versions.specs.Changing.{IsCheckedOver}
use Rattle.dml_versions.specs.inner.Finding.{pick_names, scope_in, found_row}
use Rattle.dml_versions.specs.Types.{Checked, Delete, Update, Statement, TheDelete, TheUpdate, Table, TableRow, StoreHistory, TableHistory}

module _ (db : List Table) (checked : Checked) (is : IsCheckedOver db checked) (s : Statement) (same : checked.statement ≡ s) where
  pub check-of : check_refusal s (catalog_of db) ≡ None
  check-of = ap (λ (x : Statement). check_refusal x (catalog_of db)) (sym same) ∙ accepted db checked is

  pub there-of : Changes s → IsSome (table_at (target_name s) db)
  there-of kind = target-there db s kind check-of

  places_are : checked.places ≡ places_of s (catalog_of db)
  places_are = checked-places db checked is ∙ ap (λ (x : Statement). places_of x (catalog_of db)) same

  pub first-places : unwrap_or (slice_get checked.places 0) [] ≡ unwrap_or (slice_get (places_of s (catalog_of db)) 0) []
  first-places = ap (λ l. unwrap_or (slice_get l 0) []) places_are

-- ---- the columns of a table that is there

pub delete-placed : (store : StoreHistory) (checked : Checked) → IsCheckedOver (tables_now store) checked → (delete : Delete) → checked.statement ≡ TheDelete delete
    → (table : TableHistory) → history_at delete.table store ≡ Some table
    → unwrap_or (slice_get checked.places 0) [] ≡ places_in (scope_in table) (pick_names delete.pick)
delete-placed store checked is delete same table there =
    first-places (tables_now store) checked is (TheDelete delete) same
    ∙ ap (λ (scope : List InScope). places_in scope (pick_names delete.pick)) (scope-is delete.table store table there)

pub update-placed : (store : StoreHistory) (checked : Checked) → IsCheckedOver (tables_now store) checked → (update : Update) → checked.statement ≡ TheUpdate update
    → (table : TableHistory) → history_at update.table store ≡ Some table
    → unwrap_or (slice_get checked.places 0) [] ≡ places_in (scope_in table) (update_names update)
update-placed store checked is update same table there =
    first-places (tables_now store) checked is (TheUpdate update) same
    ∙ ap (λ (scope : List InScope). places_in scope (update_names update)) (scope-is update.table store table there)

-- ---- versions are not above the time

version_by : (time : ℕ) (row : RowHistory) → IsTimed time row → unwrap_or (version_now (Some row)) 0 ≤ time
version_by time row timed = by (is_some (current_values row.changes))
  where
    by : (b : Bool) → unwrap_or (cond b (Some (version row.changes)) None) 0 ≤ time
    by true = omega (arith, changes_by row.changes timed.sorted, timed.by)
    by false = omega arith

version_found : (time number : ℕ) (slots : List RowHistory) → AreTimed time slots → unwrap_or (version_now (find (is_of_number number) slots)) 0 ≤ time
version_found time number [] timed = omega arith
version_found time number (row ∷ slots) timed =
    first_or (row.number == number) (version_by time row (timed 0 (omega arith))) (version_found time number slots (λ k below. timed (suc k) (omega (arith, below))))
  where
    first_or : (b : Bool) → unwrap_or (version_now (Some row)) 0 ≤ time → unwrap_or (version_now (find (is_of_number number) slots)) 0 ≤ time
        → unwrap_or (version_now (cond b (Some row) (find (is_of_number number) slots))) 0 ≤ time
    first_or true one rest = one
    first_or false one rest = rest

pub versions-fit : (time : ℕ) (slots : List RowHistory) → AreTimed time slots → (at : ℕ) → time < at → at < 2 ^ 32 → (rows : List TableRow)
    → AllByRecursion (λ row. row.version + 1 < 2 ^ 32) (map (found_row slots) rows)
versions-fit time slots timed at later small [] = tt
versions-fit time slots timed at later small (row ∷ rows) =
    (omega (arith, version_found time row.number slots timed, later, small), versions-fit time slots timed at later small rows)

-- what has not changed after a time hasn't after a later one
pub timed-later : (early late : ℕ) (slots : List RowHistory) → early ≤ late → AreTimed early slots → AreTimed late slots
timed-later early late slots before timed = λ k below. record { sorted = (timed k below).sorted; by = omega (arith, (timed k below).by, before) }
