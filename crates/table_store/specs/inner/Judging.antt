-- What one walk over given rows and their foreign keys tells: the first parent that is missing, and all
-- parents.
use Rattle.std.specs.Prelude.{◌≡◌, ℕ, List, Bool, Option, Some, is_some}
use Rattle.std.specs.BTreeMap.{BTreeMap}
use Rattle.std.specs.Option.{option_map}
use Rattle.sql_model.specs.Scope.{table_at}
use Rattle.table_store.specs.inner.Afterwards.{has_put, missing_in_row, missing_put, put_missing}
use Rattle.table_store.specs.inner.ParentRows.{last_row_with, number_in}
use Rattle.table_store.specs.Histories.{StoreHistory, tables_now}
use Rattle.table_store.specs.Referring.{parent_stop}
use Rattle.table_store.specs.Types.{Foreign, RowKey, Table, TableRow, Value}
use Rattle.table_store.specs.declared.error.StoreStop.{StoreStop}

-- a given row has the key
abbrev pub holds : BTreeMap RowKey ℕ → List Value → Bool
holds given key = is_some (number_in given key)

-- a map has the numbers of given rows by their keys, which are the values at some places
abbrev pub AreGiven : BTreeMap RowKey ℕ → List ℕ → List TableRow → Type 0
AreGiven given places rows = (key : List Value) → number_in given key ≡ last_row_with places rows key

-- a row of a parent has the key once the rows are given
abbrev pub has_given : BTreeMap RowKey ℕ → List ℕ → List ℕ → Table → List Value → Bool
has_given given numbers own = has_put (holds given) numbers own

-- what refuses a key, values by one foreign key, and values by all of them
abbrev pub stop_of_key : StoreHistory → BTreeMap RowKey ℕ → List ℕ → List ℕ → Foreign → List Value
    → Option StoreStop
stop_of_key store given numbers own foreign key =
    option_map parent_stop
    (put_missing (has_given given numbers own) (table_at foreign.parent (tables_now store)) foreign
    (Some key))

abbrev pub stop_by : StoreHistory → BTreeMap RowKey ℕ → List ℕ → List ℕ → List Value → Foreign
    → Option StoreStop
stop_by store given numbers own values foreign =
    option_map parent_stop (missing_put (has_given given numbers own) (tables_now store) values foreign)

abbrev pub stop_in_row : StoreHistory → BTreeMap RowKey ℕ → List ℕ → List ℕ → List Foreign → List Value
    → Option StoreStop
stop_in_row store given numbers own foreigns values =
    option_map parent_stop (missing_in_row (has_given given numbers own) (tables_now store) foreigns values)
